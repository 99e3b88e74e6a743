-- The number goes out from its last digit: what is still to be put, spliced before the writer's place, makes the buffer that is promised.
use Rattle.shift.proofs.DigitLaws.{Righting}
use Rattle.shift.proofs.page.put_right.Given as goal

abbrev pub invariant-loop-place : goal.invariant-loop-place
invariant-loop-place l = Righting l.initial.out l.at l.width l.n l.out l.left l.place
