use Prim.Native.Nat.{◌≤◌}
use native.Mathlib.Omega.{arith}
use lib.ListN.{length-map}
use Rattle.table.specs.Packed.{pair_in}
use Rattle.table.specs.Group.{blank_pair}
use Rattle.table.proofs.CheckLaws.{pair-here}
use Rattle.number.proofs.SpliceLaws.{bytes_most}
use Rattle.table.proofs.WriteLaws.{tallied_more, pair-length}
use Rattle.table.proofs.write.pairs_length.Goals as goal

pub loop-number-preserved : goal.loop-number-preserved
loop-number-preserved c =
    let size = length-map c.args.pairs.now pair_in in
    let p = c.unpack_pair-pair.result in
    let five : (c.number_length.result ≤ 5) × (c.number_length-in-loop-number.result ≤ 5) = (
      omega (arith, c.number_length.ensures.by_bytes, bytes_most p.offset),
      omega (arith, c.number_length-in-loop-number.ensures.by_bytes, bytes_most p.port),
    ) in
    let e = pair-here c.args.pairs.now c.loop-number.number-index c.unpack_pair-pair.ensures in (
      omega (arith, five.0, five.1, c.loop-number.invariant.0),
      tallied_more c.loop-number.invariant.1 blank_pair (omega (arith, size, c.loop-number-test.true))
          (rw (e, pair-length p, ← c.number_length.ensures.by_bytes, ← c.number_length-in-loop-number.ensures.by_bytes)),
    )
