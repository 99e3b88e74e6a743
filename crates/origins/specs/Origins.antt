-- Where the words that the plain run loads come from. S-7: "a source being a particular store or the opening word". That source is called
-- an origin here, since the queue's walk has a source too: a store or memory, and memory may hold the word of a store that has left.
-- The proofs are in proofs/Words.antt, proofs/Last.antt and proofs/Lists.antt.
use Rattle.std.specs.Prelude.{ℕ, zero, suc, ◌<◌, ◌≡◌, Bool, false, List, [], ◌∷◌, ◌++◌, map, eqb, length, take, drop, get_or}
use Rattle.std.proofs.Math.Option.{Option, none, some}
use Rattle.std.proofs.Math.ListN.{get_elem?}
use Rattle.number.specs.Basics.{pick, count_where}
use Rattle.table.specs.declared.Pair.{Pair}
use Rattle.table.specs.Group.{GroupPairs, Access, load, store, is_load}
use Rattle.queue.specs.declared.arguments.Argument.{Argument}
use Rattle.queue.specs.declared.arguments.Argument.TheVariants.{LoadAddress, StoreAddress, StoreData}
use Rattle.sequential.specs.Plain.{Told, Rows, rows_of, accesses, Filling, next_of, Reading, PortValue, values_from, plain_start, values_at, plain_loads}
use Rattle.sequential.specs.Calls.{Call}
use Rattle.sequential.specs.Answers.{Machine, answers}
use Rattle.sequential.specs.Demand3.{uses, told, Opening}

-- the opening word at an address; what the kth of the run's accesses stored
pub data Origin : Type 0 where
  opening : ℕ → Origin
  by : ℕ → Origin

-- ---- the plain run, read by origins: a word of memory is here its origin

-- `end` is the memory's length. The plain run reads 0 at an address that is not below it, which no list of calls from an opening leads to;
-- the origin is then said to be the opening word at `end`, which `get_or` makes 0 too.
abbrev pub origin_reading : ℕ → Reading Origin
origin_reading end = record { beyond = opening end; put = λ k w. by k }

-- the opening memory, from an address on
abbrev pub openings : ℕ → List ℕ → List Origin
openings a [] = []
openings a (w ∷ ws) = opening a ∷ openings (suc a) ws

-- the origins of the words that are loaded, each with its port, in the run's order
abbrev pub origins_loaded : List GroupPairs → List ℕ → List Told → Filling → List (PortValue Origin)
origins_loaded groups memory ts fill = values_from (origin_reading (length memory)) fill 0 (plain_start (openings 0 memory) ts) (accesses groups ts)

-- the origins of the words that a port loads, in order
unfoldable pub plain_origins : List GroupPairs → List ℕ → List Told → Filling → ℕ → List Origin
plain_origins groups memory ts fill port = values_at port (origins_loaded groups memory ts fill)

abbrev pub loaded : {A : Type 0} → PortValue A → A
loaded v = v.value

-- the origin of the word that the nth of all loads loads, counted from 0; none where there are not so many
unfoldable pub origin_of : List GroupPairs → List ℕ → List Told → Filling → ℕ → Option Origin
origin_of groups memory ts fill n = get_elem? (map loaded (origins_loaded groups memory ts fill)) n

-- ---- what an access uses, said by counting, with no run

-- Of a port's row, the next after those that the accesses before it used, or what is filled in.
abbrev pub used_by : Rows → List Access → Argument → ℕ → ℕ → ℕ
used_by rows before argument port filled = next_of (drop (count_where (uses argument port) before) (rows argument port)) filled

-- the argument of this kind that a store uses, these being the accesses before it; none where there is no access, or it is a load
abbrev pub store_uses : Rows → List Access → Argument → ℕ → Option Access → Option ℕ
store_uses rows before argument filled none = none
store_uses rows before argument filled (some (load p)) = none
store_uses rows before argument filled (some (store p)) = some (used_by rows before argument p.port filled)

-- the same of the run's kth access
abbrev pub nth_uses : List GroupPairs → List Told → ℕ → Argument → ℕ → Option ℕ
nth_uses groups ts k argument filled = store_uses (rows_of ts) (take k (accesses groups ts)) argument filled (get_elem? (accesses groups ts) k)

-- ---- an origin gives the word

abbrev pub word_of : List GroupPairs → List ℕ → List Told → Filling → Origin → Option ℕ
word_of groups memory ts fill (opening a) = some (get_or memory a 0)
word_of groups memory ts fill (by k) = nth_uses groups ts k StoreData (fill.word k)

-- The nth value that a port loads is the word of its nth origin, however missing arguments are filled in.
abbrev pub OriginsGiveWords : Type 0
OriginsGiveWords =
    (groups : List GroupPairs) (memory : List ℕ) (ts : List Told) (fill : Filling) (port : ℕ) →
    map (word_of groups memory ts fill) (plain_origins groups memory ts fill port) ≡ map some (plain_loads groups memory ts fill port)

-- ---- an origin is the last store to the load's address

-- is there such an address, and is it this one
abbrev pub is_at : ℕ → Option ℕ → Bool
is_at a none = false
is_at a (some b) = eqb b a

-- Of the first k accesses the last that stores to the address, `address` giving the one that each stores to; the opening word where none
-- does.
abbrev pub last_to : (ℕ → Option ℕ) → ℕ → ℕ → Origin
last_to address a zero = opening a
last_to address a (suc k) = pick (is_at a (address k)) (by k) (last_to address a k)

-- the address that the kth access stores to
abbrev pub stores_at : List GroupPairs → List Told → Filling → ℕ → Option ℕ
stores_at groups ts fill k = nth_uses groups ts k StoreAddress (fill.address k)

-- However missing arguments are filled in, the origin of a load's word is the last store before it to its address, whether that store is
-- queued or has left, or else the opening word. An address beyond the memory is told apart, since a store there leaves nothing.
abbrev pub OriginsAreLast : Type 0
OriginsAreLast =
    (groups : List GroupPairs) (memory : List ℕ) (ts : List Told) (fill : Filling) (before : List Access) (p : Pair) (rest : List Access) →
    accesses groups ts ≡ before ++ load p ∷ rest →
    let a = used_by (rows_of ts) before LoadAddress p.port (fill.address (length before)) in
    a < length memory →
    origin_of groups memory ts fill (count_where is_load before) ≡ some (last_to (stores_at groups ts fill) a (length before))

-- The same after every list of calls from an opening. Accepted addresses are then in the memory (23), and those that are filled in are so by
-- premise, so no address is told apart.
abbrev pub ListsOriginsAreLast : Type 0
ListsOriginsAreLast =
    (groups : List GroupPairs) (memory : List ℕ) (m : Machine) → Opening groups memory m → (calls : List Call) →
    (fill : Filling) → ((k : ℕ) → fill.address k < length memory) →
    let ts = told (answers m calls) in
    (before : List Access) (p : Pair) (rest : List Access) → accesses groups ts ≡ before ++ load p ∷ rest →
    origin_of groups memory ts fill (count_where is_load before)
    ≡ some (last_to (stores_at groups ts fill) (used_by (rows_of ts) before LoadAddress p.port (fill.address (length before))) (length before))
