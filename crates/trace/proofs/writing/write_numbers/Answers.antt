-- The length is known before the first byte is written, so a refusal leaves the buffer as it was.
use mathlib.Core.Path.{refl, ap}
use native.Mathlib.Omega.{arith}
use Rattle.number.specs.Reply.{accept}
use Rattle.number.specs.Number.{bytes_of}
use Rattle.number.proofs.SpliceLaws.{wrote-short, wrote-fits}
use Rattle.trace.proofs.writing.write_numbers.Goals as goal

pub returns-then-out-length : goal.returns-then-out-length
returns-then-out-length c = rw (wrote-short (bytes_of c.args.numbers.now) c.args.out.now (omega arith)) (refl, refl)

pub returns : goal.returns
returns c =
    rw (wrote-fits (bytes_of c.args.numbers.now) c.args.out.now (omega arith))
    (ap accept c.numbers_length-length.ensures, c.put_numbers.ensures)
