-- Demand 3, one statement about a whole list of calls. It says: take any queue that an accepted opening gave, any memory of
-- the length opened for, and any list of calls, refused ones included. Then
--   1. the nth value taken at a port is the nth value that this port loads in the plain run;
--   2. when as many writes were accepted as the accepted activations have stores, memory is the plain run's, word for word;
--   3. while fewer serves were accepted than they have loads, or fewer writes than stores, and every access has its
--      arguments, some serve or some write would be accepted by the queue and memory that the list left.
-- 1 and 2 hold however missing arguments are filled in. The proof is proofs/Demand3.antt.
use Rattle.std.specs.Prelude.{ℕ, ◌<◌, ◌^◌, ◌≡◌, ◌⊎◌, Bool, true, false, List, [], ◌∷◌, map, eqb, length}
use Rattle.std.proofs.Math.Option.{Option, none, some}
use Rattle.std.proofs.Math.ListN.{get_elem?}
use Rattle.number.specs.Basics.{pick, count_where}
use Rattle.table.specs.Group.{GroupPairs, Access, load, store, is_load, is_store}
use Rattle.queue.specs.declared.arguments.Argument.{Argument}
use Rattle.queue.specs.declared.arguments.Argument.TheVariants.{LoadAddress, StoreAddress, StoreData}
use Rattle.number.specs.Reply.{accept, number}
use Rattle.queue.specs.Sound.{sound}
use Rattle.queue.specs.Open.{open_queue}
use Rattle.queue.specs.Serve.{serve}
use Rattle.queue.specs.Write.{write}
use Rattle.sequential.specs.Calls.{Call, Activate, Give, Serve, Write, Take, Ready}
use Rattle.sequential.specs.Answers.{Machine, Answered, answers, machine_after}
use Rattle.sequential.specs.Plain.{Told, Filling, gather, activation_of, rows_of, accesses, cons_option, plain_loads, plain_memory}

-- which calls were answered 0: all that the plain run is told of the answers
abbrev pub tell : Answered → Told
tell a = record { call = a.call; accepted = eqb a.number 0 }

abbrev pub told : List Answered → List Told
told = map tell

-- "A value taken is the value that an accepted take gives, numbered for each port from the list's beginning."
abbrev pub take_of : ℕ → Call → Bool
take_of port (Activate g) = false
take_of port (Give kind p x) = false
take_of port (Serve c s) = false
take_of port (Write s) = false
take_of port (Take p) = eqb p port
take_of port (Ready kind run) = false

abbrev pub taken_at : ℕ → List Answered → List ℕ
taken_at port [] = []
taken_at port (a ∷ rest) =
    pick (take_of port a.call)
    (pick (eqb a.number 0) (cons_option a.value (taken_at port rest)) (taken_at port rest))
    (taken_at port rest)

-- the serves and the writes among the accepted calls
abbrev pub serve_of : Call → Option ℕ
serve_of (Activate g) = none
serve_of (Give kind p x) = none
serve_of (Serve c s) = some s
serve_of (Write s) = none
serve_of (Take p) = none
serve_of (Ready kind run) = none

abbrev pub write_of : Call → Option ℕ
write_of (Activate g) = none
write_of (Give kind p x) = none
write_of (Serve c s) = none
write_of (Write s) = some s
write_of (Take p) = none
write_of (Ready kind run) = none

-- does the access use this kind of argument of this port
abbrev pub uses : Argument → ℕ → Access → Bool
uses LoadAddress port (load p) = eqb p.port port
uses LoadAddress port (store p) = false
uses StoreAddress port (load p) = false
uses StoreAddress port (store p) = eqb p.port port
uses StoreData port (load p) = false
uses StoreData port (store p) = eqb p.port port

-- "A load is unserved while accepted serves are fewer than the loads of the accepted activations; a store is unwritten while
-- accepted writes are fewer than their stores, and every store is written when they are as many."
abbrev pub some_unserved : List GroupPairs → List Told → Type 0
some_unserved groups ts = length (gather serve_of ts) < count_where is_load (accesses groups ts)

abbrev pub some_unwritten : List GroupPairs → List Told → Type 0
some_unwritten groups ts = length (gather write_of ts) < count_where is_store (accesses groups ts)

abbrev pub all_written : List GroupPairs → List Told → Type 0
all_written groups ts = length (gather write_of ts) ≡ count_where is_store (accesses groups ts)

-- "All accesses have their arguments when each row is as long as its port has accesses in these activations."
abbrev pub all_arguments : List GroupPairs → List Told → Type 0
all_arguments groups ts = (kind : Argument) (port : ℕ) → length (rows_of ts kind port) ≡ count_where (uses kind port) (accesses groups ts)

-- "A serve or write would be accepted when one of some serial, given the queue and memory that the list left, is answered 0."
abbrev pub would_move : Machine → Type 0
would_move m =
    (serial : ℕ) × (serial < 2 ^ 32) ×
    ((number (serve m.queue m.memory serial) ≡ 0) ⊎ (number (write m.queue m.memory serial) ≡ 0))

-- What holds of a list's answers and of the machine that it left.
pub record Sequential (groups : List GroupPairs) (memory : List ℕ) (log : List Answered) (left : Machine) (fill : Filling) : Type 0 where
  pub takes : (port n v : ℕ) → get_elem? (taken_at port log) n ≡ some v → get_elem? (plain_loads groups memory (told log) fill port) n ≡ some v
  pub writes : all_written groups (told log) → left.memory ≡ plain_memory groups memory (told log) fill
  pub moves : (some_unserved groups (told log) ⊎ some_unwritten groups (told log)) → all_arguments groups (told log) → would_move left

-- a list's beginning: the queue that an accepted opening gave, and a memory of the length opened for
pub record Opening (groups : List GroupPairs) (memory : List ℕ) (m : Machine) : Type 0 where
  pub load_depth : ℕ
  pub store_depth : ℕ
  pub first : ℕ
  pub serial : first < 2 ^ 32
  pub accepted : open_queue groups load_depth store_depth first (length memory) ≡ accept m.queue
  pub lent : m.memory ≡ memory

-- DEMAND 3.
abbrev pub Demand3 : Type 0
Demand3 =
    (groups : List GroupPairs) (memory : List ℕ) (m : Machine) → Opening groups memory m →
    (calls : List Call) (fill : Filling) → ((k : ℕ) → fill.address k < length memory) →
    Sequential groups memory (answers m calls) (machine_after m calls) fill

-- No queue that a list of calls leads to is refused for its record: none of them gets 40.
abbrev pub ReachedSound : Type 0
ReachedSound =
    (groups : List GroupPairs) (memory : List ℕ) (m : Machine) → Opening groups memory m →
    (calls : List Call) → sound (machine_after m calls).queue ≡ true

-- "So two lists alike in table, opening memory, accepted activations and each port's accepted arguments give a port's nth
-- take the same value, where both have one." The depths and first serials may differ, and so may all else in the lists.
pub record Alike (a b : List Told) : Type 0 where
  pub activations : gather activation_of a ≡ gather activation_of b
  pub arguments : (kind : Argument) (port : ℕ) → rows_of a kind port ≡ rows_of b kind port

abbrev pub AlikeLists : Type 0
AlikeLists =
    (groups : List GroupPairs) (memory : List ℕ) (m₁ m₂ : Machine) → Opening groups memory m₁ → Opening groups memory m₂ →
    (calls₁ calls₂ : List Call) → Alike (told (answers m₁ calls₁)) (told (answers m₂ calls₂)) →
    (port n v w : ℕ) → get_elem? (taken_at port (answers m₁ calls₁)) n ≡ some v →
    get_elem? (taken_at port (answers m₂ calls₂)) n ≡ some w → v ≡ w
