-- What is still to be written, spliced where the writer stands, makes the buffer that is promised.
use Rattle.number.proofs.SpliceLaws.{Putting}
use Rattle.number.proofs.writing.put_fitting.Given as goal

abbrev pub invariant-loop-left : goal.invariant-loop-left
invariant-loop-left l = Putting l.initial.out l.at l.value l.out l.left l.place

abbrev pub decreases-loop-left : goal.decreases-loop-left
decreases-loop-left l = l.left
