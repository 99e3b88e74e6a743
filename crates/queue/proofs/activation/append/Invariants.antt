-- The entries are those held, and behind them the group's first j.
use Rattle.std.proofs.Common.{map}
use Rattle.table.specs.Packed.{pair_in}
use Rattle.queue.proofs.AppendLaws.{Pasted, number_after}
use Rattle.queue.proofs.activation.append.Given as goal

abbrev pub invariant-loop-j : goal.invariant-loop-j
invariant-loop-j l = Pasted (number_after l.others) l.initial.entries l.held (map pair_in l.pairs) l.j l.entries
