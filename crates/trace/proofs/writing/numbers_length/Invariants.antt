-- The total is the length of the numbers' bytes so far, five at most for each.
use Prim.Native.Nat.{◌≤◌, ◌*◌}
use Rattle.number.proofs.SpliceLaws.{BytesCounted}
use Rattle.trace.proofs.writing.numbers_length.Given as goal

abbrev pub invariant-loop-number : goal.invariant-loop-number
invariant-loop-number l = (l.total ≤ 5 * l.number-index) × BytesCounted l.numbers l.number-index l.total
