-- Invariant: the loads and the stores along the accesses passed.
use Rattle.std.proofs.Common.{arith}
use lib.Seq.{take_all}
use Rattle.grouping.proofs.CountLaws.{group_none, along_room, along_more}
use Rattle.grouping.proofs.count_offsets.Goals as goal

pub loop-access-init : goal.loop-access-init
loop-access-init c = group_none c.default-group.ensures

pub push-requires : goal.push-requires
push-requires c = along_room c.requires c.args.accesses.now c.loop-access.access-index c.loop-access-test.true c.loop-access.invariant

pub loop-access-preserved : goal.loop-access-preserved
loop-access-preserved c =
    rw c.push.ensures (along_more c.requires c.args.accesses.now c.loop-access.access-index c.loop-access-test.true c.loop-access.invariant)

pub returns : goal.returns
returns c = rw (take_all c.loop-access.access-index c.args.numbers.now (omega arith)) at c.loop-access.invariant
