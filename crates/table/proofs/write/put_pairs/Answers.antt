use Prim.Native.Nat.{suc, ◌≤◌, ◌+◌}
use mathlib.Core.Path.{◌≡◌, ◌∙◌}
use mathlib.Core.List.{List, map}
use native.Mathlib.Omega.{arith}
use lib.ListN.{length, take, length-map}
use Rattle.table.specs.declared.Pair.{Pair}
use Rattle.number.specs.Basics.{flat_map}
use Rattle.number.specs.Number.{bytes_of, number_bytes}
use Rattle.table.specs.Packed.{pair_in}
use Rattle.table.specs.Group.{blank_pair}
use Rattle.table.specs.TableBytes.{pair_numbers}
use Rattle.table.proofs.CheckLaws.{pair-here}
use Rattle.number.proofs.SpliceLaws.{put-at, put-length, put_two}
use Rattle.table.proofs.WriteLaws.{flat_next, flat_room, pair-length}
use Rattle.table.proofs.write.put_pairs.Goals as goal

pub loop-number-preserved : goal.loop-number-preserved
loop-number-preserved c =
    let listed : List Pair = map pair_in c.args.pairs.now in
    let i = c.loop-number.number-index in
    let p = c.unpack_pair-pair.result in
    let w = c.loop-number.invariant in
    let inside : suc i ≤ length listed = omega (arith, length-map c.args.pairs.now pair_in, c.loop-number-test.true) in
    let this = pair-here c.args.pairs.now i c.unpack_pair-pair.ensures in
    let room : c.args.at + (length (bytes_of (flat_map pair_numbers (take i listed))) + (length (number_bytes p.offset) + length
    (number_bytes p.port))) ≤ length c.args.out.now =
    let f = rw (this, pair-length p) at (flat_room pair_numbers listed i blank_pair inside) in
    omega (arith, f, c.requires) in
    let offset = put-at (omega (arith, room, w.ends, put-length w (omega (arith, room)))) c.put_number-place.ensures in
    let long : length c.put_number-place.new.out ≡ length c.args.out.now = c.put_number-place.auto.out ∙ put-length w (omega (arith, room)) in
    let port = put-at (omega (arith, room, long, offset.ends, w.ends)) c.put_number-place-in-loop-number.ensures in
    rw (flat_next pair_numbers listed i blank_pair inside, this)
    (put_two w p.offset p.port (omega (arith, room)) offset.is offset.ends port.is port.ends)
