use mathlib.Core.Path.{sym}
use native.Mathlib.Omega.{arith}
use borrow.Author.Rules.{rules}
use Rattle.trace.proofs.TraceSteps.{EventGot, event_got, event_end, event_fault}
use Rattle.replay.proofs.EventLaws.{counting_more, counting-end, counting-fault}
use Rattle.replay.proofs.counting.count_events.Goals as goal
use Rattle.replay.proofs.counting.count_events.Goals.{In-Some}

-- the event that was read
got : (c : In-Some) → EventGot c.args.trace.now c.loop-next.place c.in-Some.field-0-0 c.in-Some.next
got c = event_got c.args.trace.now c.loop-next.place (sym (rw c.in-Some.is at c.in_ok-next.ensures))

pub returns-in_err-next : goal.returns-in_err-next
returns-in_err-next c =
    rw (← counting-fault c.loop-next.invariant (event_fault c.args.trace.now c.loop-next.place (sym c.in_err-next.ensures))) (search rules)

pub overflow_add-count : goal.overflow_add-count
overflow_add-count c =
    let g = got (goal.at.overflow_add-count c).In-Some in
    omega (arith, c.loop-next.invariant.few, g.later, g.inside)

pub loop-next-smaller : goal.loop-next-smaller
loop-next-smaller c = let g = got (goal.at.loop-next-smaller c).In-Some in omega (arith, g.later, g.inside)

pub loop-next-preserved : goal.loop-next-preserved
loop-next-preserved c = counting_more c.loop-next.invariant (got (goal.at.loop-next-preserved c).In-Some)

pub returns : goal.returns
returns c = counting-end c.loop-next.invariant (event_end c.args.trace.now c.loop-next.place (sym (rw c.in_default.is at c.in_ok-next.ensures)))
