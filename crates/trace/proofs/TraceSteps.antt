-- A trace read step by step: the leading numbers, each event at its place, and then the end. The statement is
-- specs/RoundTrip.antt.
use Prim.Native.Nat.{ℕ, ◌+◌, ◌≤◌, ◌<◌}
use mathlib.Core.Path.{◌≡◌, refl, sym, ap, ◌∙◌}
use mathlib.Core.List.{List, [], ◌∷◌}
use native.Mathlib.Omega.{arith}
use lib.ListN.{length, drop, length-drop}
use lib.Seq.{drop-drop}
use Rattle.trace.specs.declared.Event.{Event}
use Rattle.trace.specs.declared.Header.{Header}
use Rattle.number.specs.Reply.{Reply, refuse, accept}
use Rattle.number.specs.Number.{Got, got, place_of, reading, read_in}
use Rattle.trace.specs.Event.{read_event, Yield, yielded, at_end, event_read_in, event_in, event_at, read_header}
use Rattle.trace.specs.Trace.{with_first, read_events, read_trace}
use Rattle.trace.specs.RoundTrip.{Yields, ends, yields, SteppedThrough, TracesStep, SteppedAreWritten, TracesStepBack}
use Rattle.number.proofs.ReplyLaws.{refused-accepted, and_then_accepts, then_read_accepts}
use Rattle.number.proofs.NumberLaws.{place_drop}
use Rattle.number.proofs.RoundTrip.{left_place, reads_left}
use Rattle.trace.proofs.RoundTrip.{header-reads}
use Rattle.trace.proofs.Traces.{event_left, events_end, events_more, events-refused, trace_of_parts, trace-parts, traces_read_back, traces_are_written}

-- ---- the leading numbers: what is left is the last part of the bytes
pub header_place : (s : List ℕ) {rest : List ℕ} {h : Header} → read_header s ≡ accept (got h rest) → rest ≡ drop (place_of s rest) s
header_place s e = left_place (reads_left (header-reads s e))

pub record HeaderGot (s : List ℕ) (h : Header) (place : ℕ) : Type 0 where
  pub is : read_header s ≡ accept (got h (drop place s))
  pub at : place_of s (drop place s) ≡ place

pub header-got : (s : List ℕ) {h : Header} {place : ℕ} → read_in s (read_header s) ≡ accept (reading h place) → HeaderGot s h place
header-got s {h} {place} e =
    let (x, rest, d, f) = then_read_accepts (read_header s) (λ a l. accept (reading a (place_of s l))) e in
    let p : x ≡ h = cc in
    let y : place_of s rest ≡ place = cc in
    let r : rest ≡ drop place s = header_place s d ∙ ap (λ (k : ℕ). drop k s) y in
    record { is = d ∙ cc; at = ap (place_of s) (sym r) ∙ y }

-- ---- an event at a place
-- reading at a place of s
pub record EventGot (s : List ℕ) (place : ℕ) (e : Event) (next : ℕ) : Type 0 where
  pub is : read_events (drop place s) ≡ with_first e (read_events (drop next s))
  pub later : place < next
  pub inside : next ≤ length s

-- what is left after an event at a place is the last part of the bytes
record After (s : List ℕ) (place : ℕ) (rest : List ℕ) : Type 0 where
  pub is : rest ≡ drop (place_of s rest) s
  pub later : place < place_of s rest
  pub inside : place_of s rest ≤ length s

after_event_lem : (s : List ℕ) (place : ℕ) {rest : List ℕ} {e : Event} → read_event (drop place s) ≡ accept (got e rest) → After s place rest
after_event_lem s place {rest} h =
    let w = event_left (drop place s) h in
    let l = length-drop place s in
    let r : rest ≡ drop (place + w.front) s = sym w.is ∙ drop-drop w.front place s in
    let m : place_of s rest ≡ place + w.front = ap (place_of s) r ∙ place_drop s (place + w.front) (omega (arith, w.whole, w.many)) in
    record { is = r ∙ ap (λ (n : ℕ). drop n s) (sym m); later = omega (arith, w.many); inside = omega (arith, w.whole) }

-- what a step at a place yields, by what is read there: an event, the end, or a refusal
pub data Step (s : List ℕ) (place : ℕ) : Reply Yield → Type 0 where
  event_there : {e : Event} {next : ℕ} → EventGot s place e next → Step s place (accept (yielded e next))
  end_there : read_events (drop place s) ≡ accept [] → Step s place (accept at_end)
  fault_there : {k : ℕ} → read_events (drop place s) ≡ refuse k → Step s place (refuse k)

pub step_there : (s : List ℕ) (place : ℕ) → Step s place (event_at s place)
unfolding event_at
step_there s place = go (drop place s) refl
  where
    found : (b : ℕ) (t : List ℕ) → drop place s ≡ b ∷ t → (r : Reply (Got Event)) → read_event (b ∷ t) ≡ r → Step s place (event_read_in s r)
    found b t d (refuse k) q = fault_there (ap read_events d ∙ events-refused b t q)
    found b t d (accept (got e rest)) q =
        let w = after_event_lem s place (ap read_event d ∙ q) in
        event_there (record {
          is = ap read_events d ∙ events_more (b ∷ t) q ∙ ap (λ (l : List ℕ). with_first e (read_events l)) w.is;
          later = w.later;
          inside = w.inside;
        })

    go : (t : List ℕ) → drop place s ≡ t → Step s place (event_in s t)
    go [] d = end_there (ap read_events d ∙ events_end 0)
    go (b ∷ t) d = found b t d (read_event (b ∷ t)) refl

pub event_got : (s : List ℕ) (place : ℕ) {e : Event} {next : ℕ} → event_at s place ≡ accept (yielded e next) → EventGot s place e next
event_got s place {e} {next} h = go (rw h at (step_there s place))
  where
    go : Step s place (accept (yielded e next)) → EventGot s place e next
    go (event_there w) = w

pub event_end : (s : List ℕ) (place : ℕ) → event_at s place ≡ accept at_end → read_events (drop place s) ≡ accept []
event_end s place h = go (rw h at (step_there s place))
  where
    go : Step s place (accept at_end) → read_events (drop place s) ≡ accept []
    go (end_there w) = w

pub event_fault : (s : List ℕ) (place : ℕ) {k : ℕ} → event_at s place ≡ refuse k → read_events (drop place s) ≡ refuse k
event_fault s place {k} h = go (rw h at (step_there s place))
  where
    go : Step s place (refuse k) → read_events (drop place s) ≡ refuse k
    go (fault_there w) = w

-- ---- events to the end of the bytes are those that are yielded
yields_all : (s : List ℕ) (es : List Event) (place : ℕ) → read_events (drop place s) ≡ accept es → Yields s place es
yields_all s [] place h = go (event_at s place) refl (step_there s place)
  where
    go : (r : Reply Yield) → event_at s place ≡ r → Step s place r → Yields s place []
    go (accept at_end) d w = ends d
    go (accept (yielded e next)) d (event_there w) =
        let (l, a, b) = and_then_accepts (read_events (drop next s)) (λ m. accept (e ∷ m)) (sym w.is ∙ h) in
        let z : ◌≡◌ {A = ℕ} 0 1 = cc in
        absurd (omega arith)
    go (refuse k) d (fault_there w) = refused-accepted (sym w ∙ h)
yields_all s (e ∷ es) place h = go (event_at s place) refl (step_there s place) (λ next k. yields_all s es next k)
  where
    go : (r : Reply Yield) → event_at s place ≡ r → Step s place r → ((next : ℕ) → read_events (drop next s) ≡ accept es → Yields s next es)
        → Yields s place (e ∷ es)
    go (accept at_end) d (end_there w) ih =
        let c : accept [] ≡ accept (e ∷ es) = sym w ∙ h in
        let z : ◌≡◌ {A = ℕ} 0 1 = cc in
        absurd (omega arith)
    go (accept (yielded x next)) d (event_there w) ih =
        let (l, a, b) = and_then_accepts (read_events (drop next s)) (λ m. accept (x ∷ m)) (sym w.is ∙ h) in
        let p : x ≡ e = cc in
        let q : l ≡ es = cc in
        yields (d ∙ ap (λ (y : Event). accept (yielded y next)) p) (ih next (a ∙ ap accept q))
    go (refuse k) d (fault_there w) ih = refused-accepted (sym w ∙ h)

all_yielded : {s : List ℕ} {place : ℕ} {es : List Event} → Yields s place es → read_events (drop place s) ≡ accept es
all_yielded {s} (ends {place} h) = event_end s place h
all_yielded {s} (yields {place} {e = e} h k) = (event_got s place h).is ∙ ap (with_first e) (all_yielded k)

-- ---- traces
pub traces_step : TracesStep
traces_step s t = (λ h. there h, λ w. back w)
  where
    there : read_trace s ≡ accept t → SteppedThrough s t
    there h =
        let w = trace-parts s t h in
        record {
          place = place_of s w.rest;
          header = rw w.header;
          events = yields_all s t.events (place_of s w.rest) (ap read_events (sym (header_place s w.header)) ∙ w.events);
        }

    back : SteppedThrough s t → read_trace s ≡ accept t
    back w = trace_of_parts s (drop w.place s) t.header t.events (header-got s w.header).is (all_yielded w.events)

pub stepped_are_written : SteppedAreWritten
stepped_are_written s t a w = ((traces_are_written s t a).0 ((traces_step s t).1 w)).1

pub traces_step_back : TracesStepBack
traces_step_back t f = (traces_step _ t).0 (traces_read_back t f)
