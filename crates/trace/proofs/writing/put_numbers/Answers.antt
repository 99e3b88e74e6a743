-- The numbers so far stand at the front of the buffer, and those that are left have room behind them.
use Prim.Native.Nat.{◌≤◌, ◌+◌}
use native.Mathlib.Omega.{arith}
use native.Mathlib.Numerals.{add-one}
use lib.ListN.{length, take, get_or}
use lib.Seq.{take-suc, take-length}
use Rattle.number.specs.Number.{bytes_of, number_bytes}
use Rattle.number.proofs.SpliceLaws.{put-at, put-length, put_one, bytes_room}
use Rattle.trace.proofs.writing.put_numbers.Goals as goal

pub loop-number-preserved : goal.loop-number-preserved
loop-number-preserved c =
    let v = c.args.numbers.now in
    let i = c.loop-number.number-index in
    let w = c.loop-number.invariant in
    let fits : length (bytes_of (take i v)) + length (number_bytes (get_or v i 0)) ≤ length c.args.out.now =
    let room : length (bytes_of (take i v)) + length (number_bytes (get_or v i 0)) ≤ length (bytes_of v) =
    rw take-length at (bytes_room v (length v) i c.loop-number-test.true (omega arith)) in
    omega (arith, room, c.requires) in
    let e = put-at (omega (arith, fits, put-length w (omega (arith, fits)), w.ends)) c.put_number-place.ensures in
    rw (add-one, take-suc v i 0 c.loop-number-test.true)
    (put_one w (get_or v i 0) (omega (arith, fits)) e.is e.ends)
