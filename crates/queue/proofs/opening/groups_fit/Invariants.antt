use Rattle.table.specs.Table.{groups_of}
use Rattle.queue.specs.Open.{group_fits}
use Rattle.queue.proofs.WalkLaws.{AllYet}
use Rattle.queue.proofs.opening.groups_fit.Given as goal

abbrev pub invariant-loop-i : goal.invariant-loop-i
invariant-loop-i l = AllYet (group_fits l.load_depth l.store_depth) (groups_of l.table) l.i
