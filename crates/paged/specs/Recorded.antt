-- The record of a replay: "each accepted take updates a record".
use Rattle.std.specs.Prelude.{ℕ, ◌<◌, ◌≡◌, Result, List, [], ◌∷◌, map, eqb, length}
use Rattle.std.proofs.Math.Option.{Option, none, some}
use Rattle.number.specs.Basics.{pick}
use Rattle.number.specs.declared.refusal.Refusal.{Refusal}
use Rattle.number.specs.Reply.{Reply, refuse, accept}
use Rattle.number.specs.Number.{AreBytes}
use Rattle.table.specs.Group.{GroupPairs}
use Rattle.trace.specs.declared.Event.{Event}
use Rattle.trace.specs.Event.{read_header}
use Rattle.counts.specs.declared.Counts.{Counts}
use Rattle.sequential.specs.Calls.{Call}
use Rattle.sequential.specs.Answers.{Answered, machine, answers}
use Rattle.sequential.specs.Plain.{Filling}
use Rattle.replay.specs.Playing.{call_of, Playing, playing, played, Logged, log}
use Rattle.replay.specs.Replay.{Start, events_behind, prepare, Replay, Buffers, replay}
use Rattle.replay.specs.Outcome.{Replayed, replayed_as, Replays}
use Rattle.shift.specs.declared.ShiftRecord.{ShiftRecord}
use Rattle.printed.specs.Files.{no_counts}
use Rattle.shift.specs.Record.{no_takes}
use Rattle.shift.specs.Lists.{after_accepted, record_after, Shows}

-- what an event that gave this value, or none, leaves of a record: what the call leaves that it stands for. What a serve is lent does not
-- matter here.
abbrev pub after_event : ShiftRecord → Event → Option ℕ → ShiftRecord
after_event r e value = after_accepted r (call_of no_counts e) value

-- what events leave of it that were answered so
abbrev pub record_from : ShiftRecord → List Event → List Logged → ShiftRecord
record_from r [] ls = r
record_from r (e ∷ es) [] = r
record_from r (e ∷ es) (l ∷ ls) = record_from (after_event r e l.value) es ls

-- the same by what a replay puts down of an event: 1 or 0 as it gave a value or none, and the value or 0
abbrev pub value_given : ℕ → ℕ → Option ℕ
value_given given value = pick (eqb given 1) (some value) none

-- along the events and both buffers, as far as all three go
abbrev pub record_buffered : ShiftRecord → List Event → List ℕ → List ℕ → ShiftRecord
record_buffered r [] given values = r
record_buffered r (e ∷ es) [] values = r
record_buffered r (e ∷ es) (g ∷ given) [] = r
record_buffered r (e ∷ es) (g ∷ given) (v ∷ values) = record_buffered (after_event r e (value_given g v)) es given values

-- the events of a trace's bytes; none where one of them, or a leading number, cannot be read
abbrev pub events_read : Reply (List Event) → List Event
events_read (accept es) = es
events_read (refuse n) = []

abbrev pub trace_events : List ℕ → List Event
trace_events trace = events_read (events_behind (read_header trace))

-- what a replay that keeps the record hands back: its answer, how many events were played, and the counts and the record that they leave
pub record ReplayRecorded : Type 0 where
  pub answer : ℕ
  pub events : ℕ
  pub counts : Counts
  pub kept : ShiftRecord

abbrev pub recorded_as : Result ℕ Refusal → Counts → ShiftRecord → ReplayRecorded
recorded_as r c kept = let p = replayed_as r c in record { answer = p.answer; events = p.events; counts = p.counts; kept = kept }

-- what a replay hands back but the record
abbrev pub without_record : ReplayRecorded → Replayed
without_record r = record { answer = r.answer; events = r.events; counts = r.counts }

-- the record that it leaves: a refused one the very record that it was handed
abbrev pub kept_after : ShiftRecord → List ℕ → Reply Replay → ShiftRecord
kept_after kept trace (refuse n) = kept
kept_after kept trace (accept p) = record_from kept (trace_events trace) p.log

-- a replay, by its own rule, and the record
pub record RecordsReplay (memory : List ℕ) (c : Counts) (b : Buffers) (kept : ShiftRecord) (trace : List ℕ) (rule : Reply Replay)
    (r : ReplayRecorded) (memory₂ : List ℕ) (b₂ : Buffers) : Type 0 where
  pub replays : Replays memory c b rule (without_record r) memory₂ b₂
  pub kept_is : r.kept ≡ kept_after kept trace rule

-- ---- a replay is a list of calls; the proof is proofs/Recorded.antt

-- the calls that events stand for, each serve with the counts that the last one left
abbrev pub calls_of : Playing → List Event → List Call
calls_of p [] = []
calls_of p (e ∷ es) = call_of p.counts e ∷ calls_of (played p e) es

-- What events are answered is what their calls are answered.
abbrev pub logged_of : Answered → Logged
logged_of a = record { number = a.number; value = a.value }

abbrev pub LogsOfCalls : Type 0
LogsOfCalls = (p : Playing) (es : List Event) → log p es ≡ map logged_of (answers p.machine (calls_of p es))

-- The record of events is that of their calls, so all that is said of whole lists of calls (`PagesShow` of the crate `shift`) holds
-- of it.
abbrev pub RecordsOfCalls : Type 0
RecordsOfCalls = (r : ShiftRecord) (p : Playing) (es : List Event) → record_from r es (log p es) ≡ record_after r (answers p.machine (calls_of p es))

-- Of a replay that is accepted, of a trace's bytes, on whatever memory and counts: from an empty record, its page shows for each port the
-- number of its accepted takes and the last of its taken values, and these are the plain run's of that table, that memory and these calls,
-- however missing arguments are filled in. The proof is proofs/RunsShow.antt.
abbrev pub ReplaysShow : Type 0
ReplaysShow =
    (gs : List GroupPairs) (trace memory : List ℕ) (c : Counts) (b : Buffers) → AreBytes trace →
    (p : Replay) → replay gs trace memory c b ≡ accept p →
    (s : Start) × (prepare gs trace ≡ accept s) ×
    ((fill : Filling) → ((k : ℕ) → fill.address k < length memory) →
    Shows gs memory (answers (machine s.queue memory) (calls_of (playing s.queue memory c) s.events)) fill
    (kept_after no_takes trace (accept p)))
