-- Events and traces. "A trace is load depth, store depth, first serial, memory length, then events to the end of the bytes.
-- An event is one of seven kinds with its own numbers."
use Rattle.std.specs.Prelude.{ℕ, Bool, Option, Some, None, Result, Ok, Err, List, [], ◌∷◌, ◌≡◌, eqb, leb, drop}
use Rattle.trace.specs.declared.Event.{Event}
use Rattle.trace.specs.declared.Event.TheVariants.{Activate, LoadAddress, StoreAddress, StoreData, Serve, Write, Take}
use Rattle.trace.specs.declared.Header.{Header}
use Rattle.trace.specs.declared.Stepped.{Stepped}
use Rattle.number.specs.Basics.{pick, flat_map, within}
use Rattle.number.specs.declared.refusal.Refusal.{Refusal}
use Rattle.number.specs.Refusal.{bad_kind, refusal_number}
use Rattle.number.specs.Reply.{Reply, refuse, accept, need, passed}
use Rattle.number.specs.Number.{Got, got, then_read, read_number, place_of, Reading, reading_reply, bytes_of, Wrote, wrote_if}
use Rattle.trace.specs.declared.reading.Reader.{Reader}

-- "0 activate (group), 1 load address (port, address), 2 store address (port, address), 3 store data (port, word), 4 serve
-- load (serial), 5 write store (serial), 6 take (port)": an event's numbers, its kind first.
abbrev pub event_numbers : Event → List ℕ
event_numbers (Activate group) = 0 ∷ group ∷ []
event_numbers (LoadAddress port address) = 1 ∷ port ∷ address ∷ []
event_numbers (StoreAddress port address) = 2 ∷ port ∷ address ∷ []
event_numbers (StoreData port word) = 3 ∷ port ∷ word ∷ []
event_numbers (Serve serial) = 4 ∷ serial ∷ []
event_numbers (Write serial) = 5 ∷ serial ∷ []
event_numbers (Take port) = 6 ∷ port ∷ []

-- the kinds that have a second number
abbrev pub has_second : ℕ → Bool
has_second kind = within 1 3 kind

-- the event of a kind and its numbers
abbrev pub event_of : ℕ → ℕ → ℕ → Event
event_of kind x y =
    pick (eqb kind 0) (Activate x)
    (pick (eqb kind 1) (LoadAddress x y)
    (pick (eqb kind 2) (StoreAddress x y)
    (pick (eqb kind 3) (StoreData x y)
    (pick (eqb kind 4) (Serve x)
    (pick (eqb kind 5) (Write x)
    (Take x))))))

-- what follows an event's kind: "35 kind above 6, 1 or 2 for the rest", and 42 for it by S-4
abbrev pub read_kind : ℕ → List ℕ → Reply (Got Event)
read_kind kind s =
    need (leb kind 6) bad_kind
    (then_read (read_number s) λ x s₁.
    pick (has_second kind)
    (then_read (read_number s₁) λ y s₂. accept (got (event_of kind x y) s₂))
    (accept (got (event_of kind x 0) s₁)))

-- "Reading an event: 1 or 2 for the kind, 35 kind above 6, 1 or 2 for the rest." S-4: and 42, after 1 and 2 of each number; a padded
-- kind above 6 gets 42.
unfoldable pub read_event : List ℕ → Reply (Got Event)
read_event s = then_read (read_number s) read_kind

-- what a reader yields: an event and the place after it, or the end
pub data Yield : Type 0 where
  yielded : Event → ℕ → Yield
  at_end : Yield

-- what a call that reads an event replies; the paper gives "end" no number, and here it is accepted
abbrev pub kind_reply : Result (Event × ℕ) Refusal → Reply Yield
kind_reply (Ok (e, next)) = accept (yielded e next)
kind_reply (Err e) = refuse (refusal_number e)

abbrev pub event_reply : Result (Option (Event × ℕ)) Refusal → Reply Yield
event_reply (Ok (Some (e, next))) = accept (yielded e next)
event_reply (Ok None) = accept at_end
event_reply (Err e) = refuse (refusal_number e)

-- the reply of a call that reads an event in s
abbrev pub event_read_in : List ℕ → Reply (Got Event) → Reply Yield
event_read_in s r = then_read r λ e rest. accept (yielded e (place_of s rest))

-- the same at a part of s: "at the end of the bytes it answers "end""
abbrev pub event_in : List ℕ → List ℕ → Reply Yield
event_in s [] = accept at_end
event_in s (b ∷ rest) = event_read_in s (read_event (b ∷ rest))

-- at a place of s: "a place past the end counts as the end"
unfoldable pub event_at : List ℕ → ℕ → Reply Yield
event_at s place = event_in s (drop place s)

-- where a reader stands after it has read: past the event, or where it was
abbrev pub place_after : ℕ → Reply Yield → ℕ
place_after place (accept (yielded e next)) = next
place_after place (accept at_end) = place
place_after place (refuse k) = place

-- one step of a reader at a place of s: what it yields, and where it stands then
pub record Steps (s : List ℕ) (place : ℕ) (r : Stepped) : Type 0 where
  pub read : event_reply r.read ≡ event_at s place
  pub next : r.next ≡ place_after place (event_at s place)

-- "A reader stays attached to the lent trace and yields one event per step": it is a byte slice and a position. The same slice, at
-- another position:
abbrev pub moved_to : Reader → ℕ → Reader
moved_to r n = record { bytes = r.bytes; at = n }

abbrev pub event_bytes : Event → List ℕ
event_bytes e = bytes_of (event_numbers e)

-- writing an event by its kind and its numbers: 35 kind above 6, then 10; a kind with one number leaves the second alone
abbrev pub wrote_event_of : ℕ → ℕ → ℕ → List ℕ → Wrote
wrote_event_of kind x y = wrote_if (need (leb kind 6) bad_kind passed) (event_bytes (event_of kind x y))

abbrev pub events_bytes : List Event → List ℕ
events_bytes = flat_map event_bytes

-- the four leading numbers of a trace
abbrev pub header_numbers : Header → List ℕ
header_numbers h = h.load_depth ∷ h.store_depth ∷ h.first ∷ h.memory_length ∷ []

abbrev pub header_bytes : Header → List ℕ
header_bytes h = bytes_of (header_numbers h)

unfoldable pub read_header : List ℕ → Reply (Got Header)
read_header s =
    then_read (read_number s) λ loads s₁.
    then_read (read_number s₁) λ stores s₂.
    then_read (read_number s₂) λ serial s₃.
    then_read (read_number s₃) λ words s₄.
    accept (got (record { load_depth = loads; store_depth = stores; first = serial; memory_length = words }) s₄)

-- what a call that reads them replies
abbrev pub header_reply : Result (Header × ℕ) Refusal → Reply (Reading Header)
header_reply = reading_reply
