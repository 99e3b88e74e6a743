-- A trace that cannot be read has no events here, and leaves the record.
use Prim.Native.Nat.{ℕ}
use mathlib.Core.Path.{◌≡◌, sym, ap, ◌∙◌}
use mathlib.Core.Bool.{false}
use mathlib.Core.List.{List, []}
use Rattle.std.specs.Prelude.{Result, Ok, Err}
use Rattle.std.specs.Result.{is_ok}
use Rattle.number.specs.declared.refusal.Refusal.{Refusal}
use Rattle.number.specs.Reply.{reply}
use Rattle.trace.specs.declared.Event.{Event}
use Rattle.replay.specs.Events.{events_from, counted_events}
use Rattle.replay.proofs.EventLaws.{not_read}
use Rattle.queue.proofs.Lists.{false-true}
use Rattle.paged.specs.Recorded.{record_buffered, events_read, trace_events}
use Rattle.paged.proofs.BufferLaws.{events-behind}
use Rattle.paged.proofs.recording.record_replay.Goals as goal
use Rattle.paged.proofs.recording.record_replay.Goals.{In-Ok}

-- the trace's events stand behind its leading numbers
behind : (c : In-Ok) → trace_events c.args.trace.now ≡ events_read (events_from c.args.trace.now c.in-Ok.at)
behind c = ap events_read (events-behind c.args.trace.now c.in-Ok.ensures)

-- one of them cannot be read
unread : (trace : List ℕ) (at : ℕ) (r : Result ℕ Refusal) → reply r ≡ counted_events (events_from trace at) → is_ok r ≡ false
    → events_read (events_from trace at) ≡ []
unread trace at (Ok n) e h = absurd (false-true (sym h))
unread trace at (Err k) e h = ap events_read (not_read trace at e)

pub returns-then-is_ok : goal.returns-then-is_ok
returns-then-is_ok c =
    let a = c.args in
    c.record_events.ensures
    ∙ ap (λ (es : List Event). record_buffered a.kept.now es a.given.now a.values.now) (sym (behind (goal.at.returns-then-is_ok c).In-Ok))

pub returns-else-is_ok : goal.returns-else-is_ok
returns-else-is_ok c =
    let a = c.args in
    let none = unread a.trace.now c.in-Ok.at c.count_events.result c.count_events.ensures (sym c.is_ok.ensures.value ∙ c.if-is_ok.false) in
    ap (λ (es : List Event). record_buffered a.kept.now es a.given.now a.values.now) (sym (behind (goal.at.returns-else-is_ok c).In-Ok ∙ none))
