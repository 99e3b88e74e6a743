-- The length is known before the first byte is written, so a refusal leaves the buffer as it was.
use Prim.Native.Nat.{◌≤◌}
use mathlib.Core.Path.{◌≡◌, refl, ap}
use native.Mathlib.Omega.{arith}
use lib.ListN.{length}
use Rattle.number.specs.Reply.{accept}
use Rattle.number.specs.Number.{number_bytes}
use Rattle.number.proofs.SpliceLaws.{wrote-short, wrote-fits}
use Rattle.number.proofs.writing.write_number.Goals as goal

pub returns-then-out-length : goal.returns-then-out-length
returns-then-out-length c =
    let long : c.number_length-length.result ≡ length (number_bytes c.args.value) = c.number_length-length.ensures.by_bytes in
    rw (wrote-short (number_bytes c.args.value) c.args.out.now
    (omega (arith, long))) (refl, refl)

pub returns : goal.returns
returns c =
    let long : c.number_length-length.result ≡ length (number_bytes c.args.value) = c.number_length-length.ensures.by_bytes in
    let fits : length (number_bytes c.args.value) ≤ length c.args.out.now = omega (arith, long) in
    rw (wrote-fits (number_bytes c.args.value) c.args.out.now fits)
    (ap accept long, c.put_fitting.ensures.is)
