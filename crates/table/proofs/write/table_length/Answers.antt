use native.Mathlib.Omega.{arith}
use mathlib.Core.Path.{refl}
use Rattle.table.specs.Group.{pairs_of}
use Rattle.table.specs.Table.{group_at}
use Rattle.table.proofs.CheckLaws.{groups-size, group_at_lem}
use Rattle.table.proofs.WriteLaws.{tallied_more}
use Rattle.table.proofs.write.table_length.Goals as goal

pub loop-i-preserved : goal.loop-i-preserved
loop-i-preserved c =
    let t = c.args.table.now in
    let i = c.loop-i.i in
    let g = pairs_of t.loads t.stores (group_at t.groups i) in
    let e = group_at_lem t c.requires i c.loop-i-test.true g refl in (
      omega (arith, c.group_length-total.ensures.1, c.loop-i.invariant.0),
      tallied_more c.loop-i.invariant.1 g (omega (arith, groups-size t, c.loop-i-test.true)) (rw e c.group_length-total.ensures.0),
    )
