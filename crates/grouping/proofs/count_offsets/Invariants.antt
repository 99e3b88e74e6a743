-- Invariant: the loads and the stores along the accesses passed.
use lib.ListN.{take}
use Rattle.grouping.specs.Grouping.{in_order}
use Rattle.grouping.specs.Internal.{HoldsGroup}
use Rattle.grouping.proofs.count_offsets.Given as goal

abbrev pub invariant-loop-access : goal.invariant-loop-access
invariant-loop-access l = HoldsGroup (in_order l.accesses (take l.access-index l.numbers)) l.group
