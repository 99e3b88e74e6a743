-- The events up to a place are played and logged; each is read, played on the queue, and put into the buffers.
use mathlib.Core.Path.{sym, ap, ◌∙◌}
use native.Mathlib.Omega.{arith}
use borrow.Author.Rules.{rules}
use Rattle.trace.specs.Event.{event_reply}
use Rattle.trace.proofs.TraceSteps.{EventGot, event_got, event_end, event_fault}
use Rattle.queue.proofs.PartsLaws.{both-whole}
use Rattle.replay.proofs.ReplayLaws.{walk_none, walk-room, walk_more, walk_end, walk_no_fault}
use Rattle.replay.proofs.replaying.play_all.Goals as goal
use Rattle.replay.proofs.replaying.play_all.Goals.{In-Ok-Some}

-- the event that was read
got : (c : In-Ok-Some) → EventGot c.args.trace.now c.loop-event.place c.in-Ok-Some.event c.in-Ok-Some.next
got c = event_got c.args.trace.now c.loop-event.place (sym (rw c.in-Ok-Some.field-0-is at c.in-Ok-Some.ensures))

pub loop-event-init : goal.loop-event-init
loop-event-init c = walk_none c.requires

pub put-requires : goal.put-requires
put-requires c =
    let r = walk-room c.loop-event.invariant (got (goal.at.put-requires c).In-Ok-Some) in
    (r.answers, r.given, r.values)

pub loop-event-smaller : goal.loop-event-smaller
loop-event-smaller c = let g = got (goal.at.loop-event-smaller c).In-Ok-Some in omega (arith, g.later, g.inside)

pub loop-event-preserved : goal.loop-event-preserved
loop-event-preserved c =
    walk_more c.play_event-answer.result _ c.loop-event.invariant (got (goal.at.loop-event-preserved c).In-Ok-Some) c.play_event-answer.ensures.plays
    c.put.ensures

pub play_event-answer-requires : goal.play_event-answer-requires
play_event-answer-requires c =
    both-whole c.loop-event.queue.load_entries c.loop-event.queue.store_entries (search rules) (search rules)

pub returns-in_default : goal.returns-in_default
returns-in_default c = walk_end c.loop-event.invariant (event_end c.args.trace.now c.loop-event.place (sym c.read_event.ensures ∙ search rules))

pub returns-in_default-2 : goal.returns-in_default-2
returns-in_default-2 c =
    absurd (walk_no_fault c.loop-event.invariant
    (event_fault c.args.trace.now c.loop-event.place (sym c.read_event.ensures ∙ ap event_reply c.in_default.is)))
