-- The bytes passed are groups of the number, worth `value`; what is left to read is the number of higher groups.
use Rattle.number.proofs.NumberLaws.{NumberSoFar, scale_of}
use Rattle.number.proofs.reading.read_number.Given as goal

abbrev pub invariant-loop-scale : goal.invariant-loop-scale
invariant-loop-scale l = NumberSoFar l.bytes l.at l.value (scale_of l.scale-index) l.place
