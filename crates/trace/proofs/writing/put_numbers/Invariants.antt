-- The numbers so far stand at the front of the buffer.
use lib.ListN.{take}
use Rattle.number.proofs.SpliceLaws.{NumbersPut}
use Rattle.trace.proofs.writing.put_numbers.Given as goal

abbrev pub invariant-loop-number : goal.invariant-loop-number
invariant-loop-number l = NumbersPut l.initial.out 0 (take l.number-index l.numbers) l.out l.place
