-- Whole traces: they are read just where their numbers are, one after the other, to the end of the bytes. The statements are
-- specs/RoundTrip.antt.
use Prim.Native.Nat.{ℕ, zero, suc, ◌≤◌, ◌<◌}
use mathlib.Core.Path.{◌≡◌, refl, sym, ap, ◌∙◌}
use mathlib.Core.List.{List, [], ◌∷◌, append-nil}
use native.Mathlib.Omega.{arith}
use lib.ListN.{length, length-append}
use Rattle.trace.specs.declared.Event.{Event}
use Rattle.trace.specs.declared.Event.TheVariants.{Activate, LoadAddress, StoreAddress, StoreData, Serve, Write, Take}
use Rattle.trace.specs.declared.Header.{Header}
use Rattle.number.specs.Basics.{flat_map}
use Rattle.number.specs.Reply.{Reply, refuse, accept}
use Rattle.number.specs.Number.{Got, got, then_read, bytes_of, Fit}
use Rattle.trace.specs.Event.{event_numbers, read_event, events_bytes, header_numbers, read_header}
use Rattle.trace.specs.Trace.{Trace, with_first, events_up_to, read_events, read_trace, trace_numbers, trace_bytes}
use Rattle.trace.specs.RoundTrip.{TracesAreWritten, EqualTracesEqualBytes, TracesReadBack}
use Rattle.number.proofs.ReplyLaws.{refused-accepted, and_then_accepts, then_read_accepts}
use Rattle.number.proofs.SpliceLaws.{bytes_append}
use Rattle.number.proofs.RoundTrip.{Left, Reads, reads_none, reads_append, reads-split, written-reads, reads-written, reads_left}
use Rattle.trace.proofs.RoundTrip.{reads_event, event_reads, reads-header, header-reads}

numbers_some : (e : Event) → 0 < length (event_numbers e)
numbers_some (Activate g) = omega arith
numbers_some (LoadAddress p a) = omega arith
numbers_some (StoreAddress p a) = omega arith
numbers_some (StoreData p d) = omega arith
numbers_some (Serve s) = omega arith
numbers_some (Write s) = omega arith
numbers_some (Take p) = omega arith

-- an event that is read takes a byte at least, and what is left is the last part of the bytes
pub event_left : (s : List ℕ) {rest : List ℕ} {e : Event} → read_event s ≡ accept (got e rest) → Left s rest 1
event_left s {e = e} h =
    let w = reads_left (event_reads s h) in
    record { front = w.front; many = omega (arith, w.many, numbers_some e); whole = w.whole; is = w.is }

-- ---- reading events to the end: at the end there is none, however many there might be
pub events_end : (most : ℕ) → events_up_to most [] ≡ accept []
unfolding events_up_to
events_end zero = refl
events_end (suc most) = refl

-- as many as there are bytes are enough
abbrev Enough : ℕ → Type 0
Enough m = (n : ℕ) (s : List ℕ) → length s ≤ m → length s ≤ n → events_up_to m s ≡ events_up_to n s

events-enough : (m : ℕ) → Enough m
unfolding events_up_to
events-enough zero n [] h k = sym (events_end n)
events-enough zero n (b ∷ s) h k = absurd (omega arith)
events-enough (suc m) n [] h k = sym (events_end n)
events-enough (suc m) zero (b ∷ s) h k = absurd (omega arith)
events-enough (suc m) (suc n) (b ∷ s) h k = go (read_event (b ∷ s)) refl (events-enough m)
  where
    up_to : ℕ → Event → List ℕ → Reply (List Event)
    up_to most e rest = with_first e (events_up_to most rest)

    go : (r : Reply (Got Event)) → read_event (b ∷ s) ≡ r → Enough m → then_read r (up_to m) ≡ then_read r (up_to n)
    go (refuse k) d ih = refl
    go (accept (got e rest)) d ih =
        let w = event_left (b ∷ s) d in
        ap (with_first e) (ih n rest (omega (arith, w.many, w.whole)) (omega (arith, w.many, w.whole)))

-- one event more
pub events_more : (s : List ℕ) {rest : List ℕ} {e : Event} → read_event s ≡ accept (got e rest) → read_events s ≡ with_first e (read_events rest)
unfolding events_up_to
events_more [] h = absurd (omega (arith, (event_left [] h).many, (event_left [] h).whole))
events_more (b ∷ s) {rest} {e} h =
    let w = event_left (b ∷ s) h in
    rw h (ap (with_first e) (events-enough (length s) (length rest) rest (omega (arith, w.many, w.whole)) (omega arith)))

pub events-refused : (b : ℕ) (s : List ℕ) {k : ℕ} → read_event (b ∷ s) ≡ refuse k → read_events (b ∷ s) ≡ refuse k
unfolding events_up_to
events-refused b s h = rw h

-- ---- events are read just where their numbers are
reads-events : (es : List Event) {s : List ℕ} → Reads s (flat_map event_numbers es) [] → read_events s ≡ accept es
reads-events [] reads_none = events_end 0
reads-events (e ∷ es) {s} w =
    let (rest, a, b) = reads-split (event_numbers e) w in
    events_more s (reads_event e a) ∙ ap (with_first e) (reads-events es b)

abbrev ReadUpTo : ℕ → Type 0
ReadUpTo most = (s : List ℕ) (es : List Event) → events_up_to most s ≡ accept es → Reads s (flat_map event_numbers es) []

none_read : (es : List Event) → accept [] ≡ accept es → Reads [] (flat_map event_numbers es) []
none_read [] h = reads_none
none_read (e ∷ es) h = let z : ◌≡◌ {A = ℕ} 0 1 = cc in absurd (omega arith)

events_read_lem : (most : ℕ) → ReadUpTo most
unfolding events_up_to
events_read_lem zero [] es h = none_read es h
events_read_lem zero (b ∷ s) es h = refused-accepted h
events_read_lem (suc most) [] es h = none_read es h
events_read_lem (suc most) (b ∷ s) es h = go (events_read_lem most) (then_read_accepts (read_event (b ∷ s)) (λ e rest. with_first e (events_up_to most rest)) h)
  where
    more : {l : List Event} → l ≡ es → Reads (b ∷ s) (flat_map event_numbers l) [] → Reads (b ∷ s) (flat_map event_numbers es) []
    more d w = rw d at w

    go : ReadUpTo most
        → (e : Event) × (rest : List ℕ) × (read_event (b ∷ s) ≡ accept (got e rest)) × (with_first e (events_up_to most rest) ≡ accept es)
        → Reads (b ∷ s) (flat_map event_numbers es) []
    go ih (e, rest, a, h₁) =
        let (fs, c, h₂) = and_then_accepts (events_up_to most rest) (λ l. accept (e ∷ l)) h₁ in
        let d : e ∷ fs ≡ es = cc in
        more d (reads_append (event_reads (b ∷ s) a) (ih rest fs c))

-- there are no more events than bytes
pub events-few : (s : List ℕ) {es : List Event} → read_events s ≡ accept es → length es ≤ length s
events-few s {es} h = let w = reads_left (events_read_lem (length s) s es h) in omega (arith, w.many, w.whole, go es)
  where
    go : (l : List Event) → length l ≤ length (flat_map event_numbers l)
    go [] = omega arith
    go (e ∷ l) = omega (arith, length-append (event_numbers e) (flat_map event_numbers l), numbers_some e, go l)

-- ---- traces
abbrev pub trace_of : Header → List Event → Trace
trace_of h es = record { header = h; events = es }

-- what a trace that was read is: its leading numbers, and the events of the rest
pub record TraceParts (s : List ℕ) (t : Trace) : Type 0 where
  pub rest : List ℕ
  pub header : read_header s ≡ accept (got t.header rest)
  pub events : read_events rest ≡ accept t.events

pub trace_of_parts : (s rest : List ℕ) (h : Header) (es : List Event) → read_header s ≡ accept (got h rest) → read_events rest ≡ accept es
    → read_trace s ≡ accept (trace_of h es)
unfolding read_trace
trace_of_parts s rest h es a b = rw (a, b)

pub trace-parts : (s : List ℕ) (t : Trace) → read_trace s ≡ accept t → TraceParts s t
unfolding read_trace
trace-parts s t e₀ =
    let (h, rest, a, e₁) = then_read_accepts (read_header s) _ e₀ in
    let (es, b, e₂) = and_then_accepts (read_events rest) (λ l. accept (trace_of h l)) e₁ in
    let x : trace_of h es ≡ t = cc in
    made x (record { rest = rest; header = a; events = b })
  where
    made : {u : Trace} → u ≡ t → TraceParts s u → TraceParts s t
    made x w = rw x at w

reads-trace : {s : List ℕ} (t : Trace) → Reads s (trace_numbers t) [] → read_trace s ≡ accept t
reads-trace {s} t w =
    let (rest, a, b) = reads-split (header_numbers t.header) w in
    trace_of_parts s rest t.header t.events (reads-header t.header a) (reads-events t.events b)

trace-reads : (s : List ℕ) (t : Trace) → read_trace s ≡ accept t → Reads s (trace_numbers t) []
trace-reads s t e =
    let w = trace-parts s t e in
    reads_append (header-reads s w.header) (events_read_lem (length w.rest) w.rest t.events w.events)

-- what is written of a trace is the bytes of its numbers
events-bytes : (es : List Event) → events_bytes es ≡ bytes_of (flat_map event_numbers es)
events-bytes [] = refl
events-bytes (e ∷ es) = rw (events-bytes es) (sym (bytes_append (event_numbers e) (flat_map event_numbers es)))

trace-bytes : (t : Trace) → trace_bytes t ≡ bytes_of (trace_numbers t)
trace-bytes t = rw (events-bytes t.events) (sym (bytes_append (header_numbers t.header) (flat_map event_numbers t.events)))

pub traces_read_back : TracesReadBack
traces_read_back t f = reads-trace t (rw (trace-bytes t, ← append-nil (bytes_of (trace_numbers t))) (written-reads [] f))

pub traces_are_written : TracesAreWritten
traces_are_written s t a = (there, λ w. ap read_trace w.1 ∙ traces_read_back t w.0)
  where
    there : read_trace s ≡ accept t → Fit (trace_numbers t) × (s ≡ trace_bytes t)
    there e =
        let (fit, whole) = reads-written a (trace-reads s t e) in
        (fit, whole ∙ append-nil (bytes_of (trace_numbers t)) ∙ sym (trace-bytes t))

pub equal_traces_equal_bytes : EqualTracesEqualBytes
equal_traces_equal_bytes s₁ s₂ t a b e f = ((traces_are_written s₁ t a).0 e).1 ∙ sym ((traces_are_written s₂ t b).0 f).1
