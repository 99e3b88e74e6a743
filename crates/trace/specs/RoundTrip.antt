-- What reading and writing events and traces promise together: what is written is read back, and what is read was written so. The
-- proofs are proofs/RoundTrip.antt, proofs/Traces.antt and proofs/TraceSteps.antt.
use Rattle.std.specs.Prelude.{ℕ, ◌≡◌, ◌↔◌, List, [], ◌∷◌, ◌++◌}
use Rattle.trace.specs.declared.Event.{Event}
use Rattle.trace.specs.declared.Header.{Header}
use Rattle.number.specs.Reply.{accept}
use Rattle.number.specs.Number.{got, reading, read_in, Fit, AreBytes}
use Rattle.trace.specs.Event.{event_numbers, read_event, event_bytes, events_bytes, yielded, at_end, event_at, header_numbers, header_bytes}
use Rattle.trace.specs.Event.{read_header}
use Rattle.trace.specs.Trace.{Trace, read_trace, trace_numbers, trace_bytes}

-- What is written of an event, and of the four leading numbers of a trace, is read back, whatever follows it.
abbrev pub EventsReadBack : Type 0
EventsReadBack = (e : Event) (rest : List ℕ) → Fit (event_numbers e) → read_event (event_bytes e ++ rest) ≡ accept (got e rest)

abbrev pub HeadersReadBack : Type 0
HeadersReadBack = (h : Header) (rest : List ℕ) → Fit (header_numbers h) → read_header (header_bytes h ++ rest) ≡ accept (got h rest)

-- S-4: an event is read just where the bytes that are written for it stand, every number one of 32 bits, whatever follows them.
abbrev pub EventsAreWritten : Type 0
EventsAreWritten =
    (s rest : List ℕ) (e : Event) → AreBytes s →
    (read_event s ≡ accept (got e rest)) ↔ (Fit (event_numbers e) × (s ≡ event_bytes e ++ rest))

-- The same of the four leading numbers of a trace.
abbrev pub HeadersAreWritten : Type 0
HeadersAreWritten =
    (s rest : List ℕ) (h : Header) → AreBytes s →
    (read_header s ≡ accept (got h rest)) ↔ (Fit (header_numbers h) × (s ≡ header_bytes h ++ rest))

-- S-4: "an accepted file is exactly what the writer gives for its meaning": reading accepts just the bytes that are written for a trace,
-- every number one of 32 bits, and gives that trace. Reader and writer are inverse to each other.
abbrev pub TracesAreWritten : Type 0
TracesAreWritten =
    (s : List ℕ) (t : Trace) → AreBytes s → (read_trace s ≡ accept t) ↔ (Fit (trace_numbers t) × (s ≡ trace_bytes t))

-- "so equal meanings have equal bytes"
abbrev pub EqualTracesEqualBytes : Type 0
EqualTracesEqualBytes =
    (s₁ s₂ : List ℕ) (t : Trace) → AreBytes s₁ → AreBytes s₂ → read_trace s₁ ≡ accept t → read_trace s₂ ≡ accept t → s₁ ≡ s₂

-- A trace that was written, its leading numbers and then its events, is read back.
abbrev pub TracesReadBack : Type 0
TracesReadBack = (t : Trace) → Fit (trace_numbers t) → read_trace (trace_bytes t) ≡ accept t

-- the events that reading yields from a place on, and then the end
pub data Yields (s : List ℕ) : ℕ → List Event → Type 0 where
  ends : {place : ℕ} → event_at s place ≡ accept at_end → Yields s place []
  yields : {place next : ℕ} {e : Event} {es : List Event} → event_at s place ≡ accept (yielded e next) → Yields s next es → Yields s place (e ∷ es)

-- Step by step it is the same: bytes are read as a trace just where its leading numbers are read, then each event at the place
-- after the last one, and then the end. So a trace that was written is read back by a reader that steps.
pub record SteppedThrough (s : List ℕ) (t : Trace) : Type 0 where
  pub place : ℕ
  pub header : read_in s (read_header s) ≡ accept (reading t.header place)
  pub events : Yields s place t.events

abbrev pub TracesStep : Type 0
TracesStep = (s : List ℕ) (t : Trace) → (read_trace s ≡ accept t) ↔ SteppedThrough s t

-- S-4: what was stepped through, written again number by number, gives the very bytes.
abbrev pub SteppedAreWritten : Type 0
SteppedAreWritten = (s : List ℕ) (t : Trace) → AreBytes s → SteppedThrough s t → s ≡ header_bytes t.header ++ events_bytes t.events

abbrev pub TracesStepBack : Type 0
TracesStepBack = (t : Trace) → Fit (trace_numbers t) → SteppedThrough (trace_bytes t) t
