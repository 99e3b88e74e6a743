-- Each event is read again, beside what the replay put down of it.
use Rattle.paged.proofs.BufferLaws.{Along}
use Rattle.paged.proofs.recording.record_events.Given as goal

abbrev pub invariant-loop-given : goal.invariant-loop-given
invariant-loop-given l =
    (goal.iterator-loop-given).can_next l.given-iterator × (goal.iterator-loop-given).is_finite l.given-iterator
    × Along l.trace l.from l.fn.given l.values l.initial.kept l.place l.given-iterator.a.rest.now l.given-iterator.b.rest.now l.kept
