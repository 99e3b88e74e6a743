use mathlib.Core.Path.{refl, ap}
use Rattle.number.specs.Reply.{accept}
use Rattle.printed.proofs.TextLaws.{printed-short, printed-fits, puts-front}
use Rattle.printed.proofs.text.print.Goals as goal

pub returns-then-out-lt-MOST_TEXT : goal.returns-then-out-lt-MOST_TEXT
returns-then-out-lt-MOST_TEXT c =
    let a = c.args in
    rw (printed-short a.table.now a.trace.now a.out.now c.if-out-lt-MOST_TEXT.true) (refl, refl)

pub returns : goal.returns
returns c =
    let a = c.args in
    let w = puts-front c.put_text.ensures in
    rw (printed-fits a.table.now a.trace.now a.out.now c.if-out-lt-MOST_TEXT.false) (ap accept w.0, w.1)
