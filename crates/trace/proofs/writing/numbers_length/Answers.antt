-- The total is the length of the numbers' bytes so far, five at most for each.
use native.Mathlib.Omega.{arith}
use lib.ListN.{get_or}
use Rattle.number.proofs.SpliceLaws.{bytes_most, counted_more}
use Rattle.trace.proofs.writing.numbers_length.Goals as goal

pub overflow_add-total : goal.overflow_add-total
overflow_add-total c = omega (arith, c.number_length-total.ensures.by_bytes, bytes_most (get_or c.args.numbers.now c.loop-number.number-index 0))

pub loop-number-preserved : goal.loop-number-preserved
loop-number-preserved c = (
  omega (arith, c.loop-number.invariant.0, c.number_length-total.ensures.by_bytes, bytes_most (get_or c.args.numbers.now c.loop-number.number-index 0)),
  counted_more c.loop-number.invariant.1 c.loop-number-test.true c.number_length-total.ensures.by_bytes,
)
