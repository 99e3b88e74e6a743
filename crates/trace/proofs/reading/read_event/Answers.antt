use mathlib.Core.Path.{sym}
use native.Mathlib.Omega.{arith}
use borrow.Author.Rules.{rules}
use Rattle.number.proofs.RoundTrip.{number_got, number_refused}
use Rattle.trace.specs.Event.{read_event}
use Rattle.trace.proofs.TraceLaws.{event_at_end, event_at_inside}
use Rattle.trace.proofs.reading.read_event.Goals as goal

pub returns-then-bytes-at : goal.returns-then-bytes-at
returns-then-bytes-at c = sym (event_at_end _ _ (omega (arith, c.if-bytes-at.true)))

pub returns-in_err-kind : goal.returns-in_err-kind
unfolding read_event
returns-in_err-kind c = rw (event_at_inside _ _ c.if-bytes-at.false, number_refused _ _ c.in_err-kind.ensures) (search rules)

pub returns-in_err-found : goal.returns-in_err-found
unfolding read_event
returns-in_err-found c =
    rw (event_at_inside _ _ c.if-bytes-at.false, (number_got _ _ c.in_ok-kind.ensures).is, ← c.in_err-found.ensures) (search rules)

pub returns : goal.returns
unfolding read_event
returns c = rw (event_at_inside _ _ c.if-bytes-at.false, (number_got _ _ c.in_ok-kind.ensures).is) c.in_ok-found.ensures
