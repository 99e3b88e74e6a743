-- The events up to a place are played and logged; each is read, played on the queue, and put into the buffers.
use Prim.Native.Nat.{◌-◌}
use lib.ListN.{length}
use Rattle.queue.specs.Contents.{contents_of}
use Rattle.replay.specs.Playing.{playing}
use Rattle.replay.proofs.ReplayLaws.{buffers, Walk}
use Rattle.replay.proofs.replaying.play_all.Given as goal

abbrev pub invariant-loop-event : goal.invariant-loop-event
invariant-loop-event l =
    Walk l.trace l.from (playing (contents_of l.initial.queue) l.initial.memory l.initial.counts) (buffers l.initial.answers l.initial.given l.initial.values)
    l.place l.i (playing (contents_of l.queue) l.memory l.counts) (buffers l.answers l.given l.values)

abbrev pub decreases-loop-event : goal.decreases-loop-event
decreases-loop-event l = length l.trace - l.place
