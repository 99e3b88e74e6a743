use Rattle.std.proofs.Common.{◌≡◌, false, ◌*◌, sym, ◌∙◌}
use Rattle.script.proofs.LineLaws.{fits_at, fit_next, fit_all, taken-fits}
use Rattle.script.proofs.takes.Goals as goal

pub returns-then-not-fits : goal.returns-then-not-fits
returns-then-not-fits c =
    let a = c.args in
    let no : fits_at a.shapes.now (a.command * 8) a.numbers.now c.loop-i.i ≡ false
    = rw (← c.number_at.ensures) (sym c.fits.ensures ∙ c.if-not-fits.true) in
    rw (taken-fits a.shapes.now a.command a.numbers.now c.if-shapes-command.false, ← c.loop-i.invariant, fit_next _ _ _ _ c.loop-i-test.true, no)

pub loop-i-preserved : goal.loop-i-preserved
loop-i-preserved c =
    let a = c.args in
    let next = fit_next a.shapes.now (a.command * 8) a.numbers.now c.loop-i.i c.loop-i-test.true in
    rw (← c.loop-i.invariant, next, ← c.number_at.ensures, ← c.fits.ensures, c.if-not-fits.false)

pub returns : goal.returns
returns c =
    let a = c.args in
    rw (taken-fits a.shapes.now a.command a.numbers.now c.if-shapes-command.false, ← c.loop-i.invariant, fit_all _ _ _ _ c.loop-i-test.false)
