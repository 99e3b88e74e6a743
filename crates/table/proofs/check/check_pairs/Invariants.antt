-- The pairs before the ith are passed; what is left to check is the rest, with the marks and the last offset so far.
use mathlib.Core.List.{map}
use Rattle.table.specs.Packed.{pair_in}
use Rattle.table.specs.Internal.{rule_of}
use Rattle.table.proofs.CheckLaws.{Checking}
use Rattle.table.proofs.check.check_pairs.Given as goal

abbrev pub invariant-loop-i : goal.invariant-loop-i
invariant-loop-i l = Checking (rule_of l.rule) l.initial.seen (map pair_in l.pairs) l.i l.low l.seen
