use Rattle.std.proofs.Common.{◌≡◌, ◌-◌, ◌*◌}
use Rattle.script.specs.Shapes.{fit_from}
use Rattle.script.proofs.takes.Given as goal

abbrev pub invariant-loop-i : goal.invariant-loop-i
invariant-loop-i l = fit_from l.shapes (l.command * 8) l.numbers l.i (8 - l.i) ≡ fit_from l.shapes (l.command * 8) l.numbers 0 8
