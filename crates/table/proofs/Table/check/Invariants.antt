-- The groups before the ith are passed; what is left to check is the rest, with the ports seen so far.
use Rattle.table.specs.Table.{groups_of, none_seen}
use Rattle.table.specs.Internal.{seen_of}
use Rattle.table.proofs.CheckLaws.{Passing}
use Rattle.table.proofs.Table.check.Given as goal

abbrev pub invariant-loop-i : goal.invariant-loop-i
invariant-loop-i l = Passing none_seen (groups_of l.self) l.i (seen_of l.seen)
