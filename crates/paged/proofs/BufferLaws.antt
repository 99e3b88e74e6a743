-- Laws of going through events beside what a replay put into its buffers.
use Prim.Native.Nat.{ℕ}
use mathlib.Core.Path.{◌≡◌, refl, sym, ap, ◌∙◌}
use mathlib.Core.List.{List, [], ◌∷◌, ◌++◌, map}
use mathlib.Core.Option.{Option, none, some}
use native.Mathlib.Omega.{arith}
use lib.ListN.{length, drop}
use lib.Dec.{eqb}
use Rattle.number.specs.Reply.{Reply, refuse, accept}
use Rattle.number.proofs.ReplyLaws.{refused-accepted, need-accepts, and_then_accepts, then_read_accepts, refused_some}
use Rattle.number.specs.Number.{place_of, reading, read_in}
use Rattle.std.specs.Prelude.{Ok}
use Rattle.number.specs.Refusal.{too_short, wrong_memory}
use Rattle.table.specs.Group.{GroupPairs}
use Rattle.trace.specs.declared.Event.{Event}
use Rattle.trace.specs.declared.Header.{Header}
use Rattle.trace.specs.Event.{read_header}
use Rattle.trace.specs.Trace.{read_events}
use Rattle.trace.proofs.TraceSteps.{EventGot, header_place}
use Rattle.counts.specs.declared.Counts.{Counts}
use Rattle.replay.specs.Events.{events_from}
use Rattle.replay.specs.Replay.{Start, open_trace, events_behind, prepare, Replay, replayed, Buffers, fits, replay_start, replay}
use Rattle.replay.specs.Outcome.{Replayed, replayed_as, Replays}
use Rattle.replay.proofs.ReplayLaws.{next_left, log-many, replay_proper}
use Rattle.replay.specs.Playing.{Logged, given_in, word_in, given_of, word_of}
use Rattle.shift.specs.declared.ShiftRecord.{ShiftRecord}
use Rattle.paged.specs.Recorded.{after_event, record_from, value_given, record_buffered, events_read, trace_events, kept_after}
use Rattle.paged.specs.Internal.{AllReadable}

-- ---- event by event
-- The events up to a place are gone through: these are left, and what they and the rest of both buffers make of the record is what is
-- promised.
pub record Along (trace : List ℕ) (from : ℕ) (given₀ values₀ : List ℕ) (kept₀ : ShiftRecord) (place : ℕ) (given values : List ℕ)
    (kept : ShiftRecord) : Type 0 where
  pub left : List Event
  pub reads : events_from trace place ≡ accept left
  pub is : record_buffered kept left given values ≡ record_buffered kept₀ (events_read (events_from trace from)) given₀ values₀

pub along_none : {trace : List ℕ} {from : ℕ} {given values : List ℕ} {kept : ShiftRecord} → AllReadable trace from
    → Along trace from given values kept from given values kept
along_none {given = given} {values} {kept} w = record {
  left = w.events;
  reads = w.is;
  is = sym (ap (λ (g : Reply (List Event)). record_buffered kept (events_read g) given values) w.is);
}

-- where a buffer ends, or the events do, nothing more is recorded
buffered_no_given : (r : ShiftRecord) (es : List Event) (values : List ℕ) → record_buffered r es [] values ≡ r
buffered_no_given r [] values = refl
buffered_no_given r (e ∷ es) values = refl

buffered_no_value : (r : ShiftRecord) (es : List Event) (given : List ℕ) → record_buffered r es given [] ≡ r
buffered_no_value r [] given = refl
buffered_no_value r (e ∷ es) [] = refl
buffered_no_value r (e ∷ es) (g ∷ given) = refl

module _ {trace : List ℕ} {from : ℕ} {given₀ values₀ : List ℕ} {kept₀ : ShiftRecord} {place : ℕ} {given values : List ℕ} {kept : ShiftRecord}
    (w : Along trace from given₀ values₀ kept₀ place given values kept) where
  abbrev Promised : Type 0
  Promised = kept ≡ record_buffered kept₀ (events_read (events_from trace from)) given₀ values₀

  pub along-given-end : given ≡ [] → Promised
  along-given-end h = sym (buffered_no_given kept w.left values) ∙ ap (λ (l : List ℕ). record_buffered kept w.left l values) (sym h) ∙ w.is

  pub along-values-end : values ≡ [] → Promised
  along-values-end h = sym (buffered_no_value kept w.left given) ∙ ap (record_buffered kept w.left given) (sym h) ∙ w.is

  pub along-end : events_from trace place ≡ accept [] → Promised
  along-end h =
      let z : accept w.left ≡ accept [] = sym w.reads ∙ h in
      let none : w.left ≡ [] = cc in
      ap (λ (es : List Event). record_buffered kept es given values) (sym none) ∙ w.is

  pub along-no-fault : {k : ℕ} → events_from trace place ≡ refuse k → ⊥
  along-no-fault h = refused-accepted (sym h ∙ w.reads)

  pub along-more : {e : Event} {next g v : ℕ} {given₂ values₂ : List ℕ} → EventGot trace place e next → given ≡ g ∷ given₂ → values ≡ v ∷ values₂
      → Along trace from given₀ values₀ kept₀ next given₂ values₂ (after_event kept e (value_given g v))
  along-more {e} {next} ev h k =
      let n = next_left w.left w.reads ev in
      record {
        left = n.rest;
        reads = n.reads;
        is = rw (n.is, h, k) at w.is;
      }

-- ---- the buffers that a replay fills
value_back : (v : Option ℕ) → value_given (given_in v) (word_in v) ≡ v
value_back none = refl
value_back (some v) = refl

pub buffered_log : (r : ShiftRecord) (es : List Event) (ls : List Logged) (given values : List ℕ) → length ls ≡ length es
    → record_buffered r es (map given_of ls ++ given) (map word_of ls ++ values) ≡ record_from r es ls
buffered_log r [] ls given values h = refl
buffered_log r (e ∷ es) [] given values h = absurd (omega (arith, h))
buffered_log r (e ∷ es) (l ∷ ls) given values h =
    ap (λ (k : ShiftRecord). record_buffered k es (map given_of ls ++ given) (map word_of ls ++ values)) (ap (after_event r e) (value_back l.value))
    ∙ buffered_log (after_event r e l.value) es ls given values (omega (arith, h))

-- ---- a trace's bytes
module _ (trace : List ℕ) where
  -- the events stand behind the leading numbers
  pub events-behind : {h : Header} {at : ℕ} → accept (reading h at) ≡ read_in trace (read_header trace)
      → events_behind (read_header trace) ≡ events_from trace at
  events-behind {h} {at} e =
      let (x, rest, d, f) = then_read_accepts (read_header trace) (λ a l. accept (reading a (place_of trace l))) (sym e) in
      let place : place_of trace rest ≡ at = cc in
      ap events_behind d ∙ ap read_events (header_place trace d ∙ ap (λ (i : ℕ). drop i trace) place)

pub start-events : (gs : List GroupPairs) (trace : List ℕ) {s : Start} → prepare gs trace ≡ accept s → trace_events trace ≡ s.events
unfolding prepare
start-events gs trace {s} e₀ =
    let (q, opens, e₁) = and_then_accepts (open_trace gs (read_header trace)) _ e₀ in
    let (es, d, e₂) = and_then_accepts (events_behind (read_header trace)) (λ l. accept (record { queue = q; events = l })) e₁ in
    let x : record { queue = q; events = es } ≡ s = cc in
    ap events_read d ∙ ap (λ (y : Start). y.events) x

-- ---- a replay
module _ (gs : List GroupPairs) (trace memory : List ℕ) (c : Counts) (b : Buffers) where
  pub replay-events : (p : Replay) → replay gs trace memory c b ≡ accept p → length p.log ≡ length (trace_events trace)
  unfolding replay
  replay-events p e₀ =
      let (s, d, e₁) = and_then_accepts (prepare gs trace) (replay_start memory c b) e₀ in
      let (t, e₂) = need-accepts (eqb (length memory) s.queue.memory_length) wrong_memory _ e₁ in
      let (u, e₃) = need-accepts (fits (length s.events) b) too_short (accept (replayed s memory c)) e₂ in
      let same : p ≡ replayed s memory c = cc in
      ap (λ (x : Replay). length x.log) same ∙ log-many _ s.events ∙ ap length (sym (start-events gs trace d))

  -- what is kept of the record
  module _ (kept : ShiftRecord) (events : ℕ) (counts : Counts) (memory₂ : List ℕ) (b₂ : Buffers)
      (w : Replays memory c b (replay gs trace memory c b) (replayed_as (Ok events) counts) memory₂ b₂) where
    pub kept-accepted : {next : ShiftRecord} → next ≡ record_buffered kept (trace_events trace) b₂.given b₂.values
        → next ≡ kept_after kept trace (replay gs trace memory c b)
    kept-accepted {next} e = go (replay gs trace memory c b) refl w
      where
        go : (rule : Reply Replay) → replay gs trace memory c b ≡ rule → Replays memory c b rule (replayed_as (Ok events) counts) memory₂ b₂
            → next ≡ kept_after kept trace rule
        go (refuse n) d v = absurd (refused_some _ (replay_proper gs trace memory c b) d (sym (ap (λ (x : Replayed). x.answer) v.outcome)))
        go (accept p) d v =
            e ∙ ap (λ (x : Buffers). record_buffered kept (trace_events trace) x.given x.values) v.buffers_are
            ∙ buffered_log kept (trace_events trace) p.log _ _ (replay-events p d)
