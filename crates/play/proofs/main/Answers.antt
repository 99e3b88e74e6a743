-- What was printed stands in the buffer.
use Rattle.std.proofs.Common.{sym, length-take-le}
use Rattle.printed.proofs.TextFits.{printed-inside}
use Rattle.play.proofs.main.Goals as goal

pub slice_bounds-out-end : goal.slice_bounds-out-end
slice_bounds-out-end c = printed-inside _ _ _ c.in-Ok.ensures

pub slice_bounds-write_out-end : goal.slice_bounds-write_out-end
slice_bounds-write_out-end c = sym (length-take-le _ _ (printed-inside _ _ _ c.in-Ok.ensures))
