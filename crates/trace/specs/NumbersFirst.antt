-- S-4: "42: padded number, checked after 1 and 2 of that number." Whatever a number of a trace is refused with, 1, 2 or 42, is told
-- before anything else is asked of it and before anything behind it is read. The proof is proofs/NumbersFirst.antt.
use Rattle.std.specs.Prelude.{ℕ, ◌≤◌, ◌<◌, ◌≡◌, true, List}
use Rattle.number.specs.Refusal.{bad_kind}
use Rattle.number.specs.Reply.{refuse, accept}
use Rattle.number.specs.Number.{got, read_number}
use Rattle.trace.specs.Event.{has_second, read_event, read_header}

-- an event's kind, whatever it would be; then 35 of a kind above 6, whatever follows; then the event's numbers
pub record EventInOrder (s : List ℕ) : Type 0 where
  pub kind : {k : ℕ} → read_number s ≡ refuse k → read_event s ≡ refuse k
  pub above : {kind : ℕ} {s₁ : List ℕ} → read_number s ≡ accept (got kind s₁) → 6 < kind → read_event s ≡ refuse bad_kind
  pub first : {kind k : ℕ} {s₁ : List ℕ} → read_number s ≡ accept (got kind s₁) → kind ≤ 6 → read_number s₁ ≡ refuse k → read_event s ≡ refuse k
  pub second :
      {kind x k : ℕ} {s₁ s₂ : List ℕ} → read_number s ≡ accept (got kind s₁) → has_second kind ≡ true →
      read_number s₁ ≡ accept (got x s₂) → read_number s₂ ≡ refuse k → read_event s ≡ refuse k

-- the leading numbers one after the other; nothing is asked of them here
pub record HeaderInOrder (s : List ℕ) : Type 0 where
  pub first : {k : ℕ} → read_number s ≡ refuse k → read_header s ≡ refuse k
  pub second : {a k : ℕ} {s₁ : List ℕ} → read_number s ≡ accept (got a s₁) → read_number s₁ ≡ refuse k → read_header s ≡ refuse k
  pub third :
      {a b k : ℕ} {s₁ s₂ : List ℕ} → read_number s ≡ accept (got a s₁) → read_number s₁ ≡ accept (got b s₂) →
      read_number s₂ ≡ refuse k → read_header s ≡ refuse k
  pub fourth :
      {a b c k : ℕ} {s₁ s₂ s₃ : List ℕ} → read_number s ≡ accept (got a s₁) → read_number s₁ ≡ accept (got b s₂) →
      read_number s₂ ≡ accept (got c s₃) → read_number s₃ ≡ refuse k → read_header s ≡ refuse k

abbrev pub EventsInOrder : Type 0
EventsInOrder = (s : List ℕ) → EventInOrder s

abbrev pub HeadersInOrder : Type 0
HeadersInOrder = (s : List ℕ) → HeaderInOrder s
