-- Events and leading numbers: they are read just where their numbers are, one after the other. The statements are specs/RoundTrip.antt.
use Prim.Native.Nat.{ℕ, zero, suc}
use mathlib.Core.Path.{◌≡◌, refl, ap, ◌∙◌}
use mathlib.Core.Bool.{Bool, true, false, true≢false, false≢true}
use mathlib.Core.List.{List, [], ◌∷◌}
use native.Mathlib.Omega.{arith}
use lib.Dec.{leb}
use borrow.Author.Tests.{leb-true}
use Rattle.trace.specs.declared.Event.{Event}
use Rattle.trace.specs.declared.Event.TheVariants.{Activate, LoadAddress, StoreAddress, StoreData, Serve, Write, Take}
use Rattle.trace.specs.declared.Header.{Header}
use Rattle.number.specs.Basics.{pick}
use Rattle.number.specs.Refusal.{bad_kind}
use Rattle.number.specs.Reply.{accept}
use Rattle.number.specs.Number.{got, then_read, read_number}
use Rattle.trace.specs.Event.{event_numbers, has_second, event_of, read_kind, read_event, header_numbers, read_header}
use Rattle.trace.specs.RoundTrip.{EventsReadBack, HeadersReadBack, EventsAreWritten, HeadersAreWritten}
use Rattle.number.proofs.Both.{and_right}
use Rattle.number.proofs.ReplyLaws.{need-accepts, then_read_accepts, of_read}
use Rattle.number.proofs.RoundTrip.{Reads, reads_none, reads_one, written-reads, reads-written}

-- ---- events

pub reads_event : {s rest : List ℕ} (e : Event) → Reads s (event_numbers e) rest → read_event s ≡ accept (got e rest)
unfolding read_event
reads_event (Activate group) (reads_one a (reads_one b reads_none)) = rw (a, b)
reads_event (LoadAddress port address) (reads_one a (reads_one b (reads_one c reads_none))) = rw (a, b, c)
reads_event (StoreAddress port address) (reads_one a (reads_one b (reads_one c reads_none))) = rw (a, b, c)
reads_event (StoreData port word) (reads_one a (reads_one b (reads_one c reads_none))) = rw (a, b, c)
reads_event (Serve serial) (reads_one a (reads_one b reads_none)) = rw (a, b)
reads_event (Write serial) (reads_one a (reads_one b reads_none)) = rw (a, b)
reads_event (Take port) (reads_one a (reads_one b reads_none)) = rw (a, b)

-- the numbers of the event that a kind and its numbers make
numbers_of_one : (kind x : ℕ) → leb kind 6 ≡ true → has_second kind ≡ false → event_numbers (event_of kind x 0) ≡ kind ∷ x ∷ []
numbers_of_one zero x h k = refl
numbers_of_one (suc zero) x h k = absurd (true≢false k)
numbers_of_one (suc (suc zero)) x h k = absurd (true≢false k)
numbers_of_one (suc (suc (suc zero))) x h k = absurd (true≢false k)
numbers_of_one (suc (suc (suc (suc zero)))) x h k = refl
numbers_of_one (suc (suc (suc (suc (suc zero))))) x h k = refl
numbers_of_one (suc (suc (suc (suc (suc (suc zero)))))) x h k = refl
numbers_of_one (suc (suc (suc (suc (suc (suc (suc n))))))) x h k = absurd (omega (arith, leb-true (suc (suc (suc (suc (suc (suc (suc n))))))) 6 h))

numbers_of_two : (kind x y : ℕ) → has_second kind ≡ true → event_numbers (event_of kind x y) ≡ kind ∷ x ∷ y ∷ []
numbers_of_two zero x y k = absurd (false≢true k)
numbers_of_two (suc zero) x y k = refl
numbers_of_two (suc (suc zero)) x y k = refl
numbers_of_two (suc (suc (suc zero))) x y k = refl
numbers_of_two (suc (suc (suc (suc n)))) x y k = absurd (omega (arith, leb-true (suc (suc (suc (suc n)))) 3 (and_right (leb 1 (suc (suc (suc (suc n))))) _ k)))

abbrev EventReads : List ℕ → Event → List ℕ → Type 0
EventReads s e rest = Reads s (event_numbers e) rest

pub event_reads : (s : List ℕ) {rest : List ℕ} {e : Event} → read_event s ≡ accept (got e rest) → Reads s (event_numbers e) rest
unfolding read_event
event_reads s {rest} {e} h₀ =
    let (kind, s₁, a, h₁) = then_read_accepts (read_number s) read_kind h₀ in
    let (t, h₂) = need-accepts (leb kind 6) bad_kind _ h₁ in
    let (x, s₂, b, h₃) = then_read_accepts (read_number s₁) _ h₂ in
    kinds kind x s₁ s₂ t a b (has_second kind) refl h₃
  where
    kinds : (kind x : ℕ) (s₁ s₂ : List ℕ) → leb kind 6 ≡ true → read_number s ≡ accept (got kind s₁)
        → read_number s₁ ≡ accept (got x s₂) → (t : Bool)
        → has_second kind ≡ t
        → pick t (then_read (read_number s₂) λ y s₃. accept (got (event_of kind x y) s₃)) (accept (got (event_of kind x 0) s₂)) ≡ accept (got e rest)
        → Reads s (event_numbers e) rest
    kinds kind x s₁ s₂ h a b true k f =
        let (y, s₃, c, g) = then_read_accepts (read_number s₂) _ f in
        of_read (EventReads s) g (rw (numbers_of_two kind x y k) (reads_one a (reads_one b (reads_one c reads_none))))
    kinds kind x s₁ s₂ h a b false k f = of_read (EventReads s) f (rw (numbers_of_one kind x h k) (reads_one a (reads_one b reads_none)))

pub events_read_back : EventsReadBack
events_read_back e rest f = reads_event e (written-reads rest f)

pub events_are_written : EventsAreWritten
events_are_written s rest e a = (λ h. reads-written a (event_reads s h), λ w. ap read_event w.1 ∙ events_read_back e rest w.0)

-- ---- the leading numbers of a trace
pub reads-header : {s rest : List ℕ} (h : Header) → Reads s (header_numbers h) rest → read_header s ≡ accept (got h rest)
unfolding read_header
reads-header h (reads_one a (reads_one b (reads_one c (reads_one d reads_none)))) = rw (a, b, c, d)

pub header-reads : (s : List ℕ) {rest : List ℕ} {h : Header} → read_header s ≡ accept (got h rest) → Reads s (header_numbers h) rest
unfolding read_header
header-reads s e₀ =
    let (loads, s₁, a, e₁) = then_read_accepts (read_number s) _ e₀ in
    let (stores, s₂, b, e₂) = then_read_accepts (read_number s₁) _ e₁ in
    let (serial, s₃, c, e₃) = then_read_accepts (read_number s₂) _ e₂ in
    let (words, s₄, d, e₄) = then_read_accepts (read_number s₃) _ e₃ in
    of_read (λ h rest. Reads s (header_numbers h) rest) e₄ (reads_one a (reads_one b (reads_one c (reads_one d reads_none))))

pub headers_read_back : HeadersReadBack
headers_read_back h rest f = reads-header h (written-reads rest f)

pub headers_are_written : HeadersAreWritten
headers_are_written s rest h a = (λ e. reads-written a (header-reads s e), λ w. ap read_header w.1 ∙ headers_read_back h rest w.0)
