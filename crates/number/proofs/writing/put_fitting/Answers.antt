-- What is still to be written, spliced where the writer stands, makes the buffer that is promised.
use Rattle.number.proofs.SpliceLaws.{putting-room, putting-more, putting-end}
use Rattle.number.proofs.writing.put_fitting.Goals as goal

pub bounds-out-place : goal.bounds-out-place
bounds-out-place c = putting-room c.loop-left.invariant c.requires

pub loop-left-preserved : goal.loop-left-preserved
loop-left-preserved c = putting-more c.loop-left.invariant c.requires c.loop-left-test.true

pub bounds-out-place-2 : goal.bounds-out-place-2
bounds-out-place-2 c = putting-room c.loop-left.invariant c.requires

pub returns : goal.returns
returns c = putting-end c.loop-left.invariant c.requires c.loop-left-test.false
