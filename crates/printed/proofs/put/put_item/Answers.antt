use native.Mathlib.Omega.{arith}
use lib.ListN.{length-append}
use Rattle.number.specs.Texts.{decimal}
use Rattle.number.proofs.SpliceLaws.{put-at}
use Rattle.number.proofs.PutLaws.{puts-length, put_byte, decimal-few, both, both_end, both_long}
use Rattle.printed.proofs.put.put_item.Goals as goal

pub put_digits-place-requires : goal.put_digits-place-requires
put_digits-place-requires c =
    let w = put-at (omega (arith, c.requires)) c.put_bytes-place.ensures in
    omega (arith, c.requires, w.ends, puts-length w (omega (arith, c.requires)), decimal-few c.args.n)

pub bounds-out-place : goal.bounds-out-place
bounds-out-place c =
    let w = put-at (omega (arith, c.requires)) c.put_bytes-place.ensures in
    let v = c.put_digits-place.ensures in
    let few = decimal-few c.args.n in
    omega (arith, c.requires, both_end w v (omega (arith, c.requires)), both_long w v (omega (arith, c.requires)))

pub returns : goal.returns
returns c =
    let w = put-at (omega (arith, c.requires)) c.put_bytes-place.ensures in
    let v = c.put_digits-place.ensures in
    let few = decimal-few c.args.n in
    put_byte _ (both w v (omega (arith, c.requires))) (omega (arith, c.requires, length-append c.args.words.now (decimal c.args.n)))
