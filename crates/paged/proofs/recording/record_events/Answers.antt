-- Each event is read again, beside what the replay put down of it.
use mathlib.Core.Path.{◌≡◌, sym, ap, ◌∙◌}
use mathlib.Core.Logic.{inl, inr}
use borrow.Author.Rules.{rules}
use Rattle.std.proofs.lemmas.List.{nil_from_length}
use Rattle.trace.specs.Event.{event_reply}
use Rattle.trace.proofs.TraceSteps.{EventGot, event_got, event_end, event_fault}
use Rattle.paged.proofs.BufferLaws.{along_none, along-given-end, along-values-end, along-end, along-no-fault, along-more}
use Rattle.paged.proofs.recording.record_events.Goals as goal
use Rattle.paged.proofs.recording.record_events.Goals.{In-Ok-Some}

-- the event that was read
got : (c : In-Ok-Some) → EventGot c.args.trace.now c.loop-given.place c.in-Ok-Some.event c.in-Ok-Some.next
got c = event_got c.args.trace.now c.loop-given.place (sym (rw c.in-Ok-Some.field-0-is at c.in-Ok-Some.ensures))

pub loop-given-init : goal.loop-given-init
loop-given-init c =
    let given : c.into_iter-given-iterator.result.a.rest.now ≡ c.args.given.now = search rules in
    let values : c.into_iter-given-iterator.result.b.rest.now ≡ c.args.values.now = search rules in
    ((tt, tt), tt, rw (given, values) (along_none c.requires))

pub returns-in_default : goal.returns-in_default
returns-in_default c =
    along-end c.loop-given.invariant.2 (event_end c.args.trace.now c.loop-given.place (sym c.read_event.ensures ∙ search rules))

pub returns-in_default-2 : goal.returns-in_default-2
returns-in_default-2 c =
    absurd (along-no-fault c.loop-given.invariant.2
    (event_fault c.args.trace.now c.loop-given.place (sym c.read_event.ensures ∙ ap event_reply c.in_default.is)))

pub loop-given-preserved : goal.loop-given-preserved
loop-given-preserved c =
    let along = along-more c.loop-given.invariant.2 (got (goal.at.loop-given-preserved c).In-Ok-Some) c.in-Some.ensures.steps.0 c.in-Some.ensures.steps.1 in
    ((tt, tt), tt, rw c.record_event.ensures along)

pub returns : goal.returns
returns c = elim c.in-None.ensures.steps [
  | inl w ↦ along-given-end c.loop-given.invariant.2 (nil_from_length _ w.1.0)
  | inr w ↦ along-values-end c.loop-given.invariant.2 (nil_from_length _ w.1.0)
]
