-- S-7: "For memories of at least two words, from opening, a serve past 27 gets 28 exactly if the missing addresses can be filled in two ways
-- that give this load different sources, a source being a particular store or the opening word. Growers' tallies must still match the
-- one-after-another run." The last sentence is demand 3 (crates/sequential/specs/Demand3.antt), with the rule that S-7 makes. The proofs
-- are in proofs/Answers.antt, proofs/Exactly.antt and proofs/Given.antt.
use Rattle.std.specs.Prelude.{ℕ, ◌+◌, ◌≤◌, ◌<◌, ◌^◌, ◌≡◌, ◌↔◌, Bool, true, not, ◌||◌, List, [], ◌∷◌, eqb, length}
use Rattle.std.proofs.Math.Option.{some}
use Rattle.number.specs.Basics.{any_of, count_where}
use Rattle.number.specs.Refusal.{unsound, wrong_memory, no_serial, already_done, no_address, earlier_store_unknown, no_data}
use Rattle.number.specs.Reply.{accept, number}
use Rattle.table.specs.Group.{GroupPairs, is_load}
use Rattle.queue.specs.Contents.{Contents, after}
use Rattle.queue.specs.Serve.{Served, serve}
use Rattle.sequential.specs.Calls.{Call}
use Rattle.sequential.specs.Answers.{Machine, answers, machine_after}
use Rattle.sequential.specs.Plain.{Told, accesses, Filling}
use Rattle.sequential.specs.Demand3.{told, Opening}
use Rattle.origins.specs.Origins.{Origin, origin_of, word_of}

-- A load is named by counting: the nth of the accepted activations' loads, from 0, has the nth serial after the first. "0 follows 4294967295",
-- so loads that are 2 ^ 32 apart have the same serial; n is then the latest of them.
pub record Latest (groups : List GroupPairs) (ts : List Told) (n : ℕ) : Type 0 where
  pub activated : n < count_where is_load (accesses groups ts)
  pub latest : count_where is_load (accesses groups ts) ≤ n + 2 ^ 32

-- what a serve of the nth load is answered by the machine, where serials begin at `first`
abbrev pub serve_of_nth : Machine → ℕ → ℕ → ℕ
serve_of_nth m first n = number (serve m.queue m.memory (after first n))

-- "a serve past 27": it is answered 0, 28 or 29
abbrev pub past27 : ℕ → Bool
past27 answer = eqb answer 0 || (eqb answer earlier_store_unknown || eqb answer no_data)

-- It is just what is not refused before: no serve gets any other number.
abbrev pub Past27IsTheRest : Type 0
Past27IsTheRest =
    (q : Contents) (memory : List ℕ) (serial : ℕ) →
    past27 (number (serve q memory serial))
    ≡ not (any_of (eqb (number (serve q memory serial))) (unsound ∷ wrong_memory ∷ no_serial ∷ already_done ∷ no_address ∷ []))

-- Every serve past 27 is handed the serial of such a load.
abbrev pub ServesNameLoads : Type 0
ServesNameLoads =
    (groups : List GroupPairs) (memory : List ℕ) (m : Machine) (o : Opening groups memory m) →
    (calls : List Call) (serial : ℕ) → serial < 2 ^ 32 →
    past27 (number (serve (machine_after m calls).queue (machine_after m calls).memory serial)) ≡ true →
    (n : ℕ) × Latest groups (told (answers m calls)) n × (after o.first n ≡ serial)

-- "The missing addresses can be filled in two ways that give this load different sources." A filling chooses for every access. What it
-- chooses for data and for loads changes no origin of this load, which has its address.
pub record TwoOrigins (groups : List GroupPairs) (memory : List ℕ) (ts : List Told) (n : ℕ) : Type 0 where
  pub one : Filling
  pub other : Filling
  pub one_below : (k : ℕ) → one.address k < length memory
  pub other_below : (k : ℕ) → other.address k < length memory
  pub differ : ¬ (origin_of groups memory ts one n ≡ origin_of groups memory ts other n)

-- S-7, EXACTLY: a load waits at 28 exactly if two fillings give it different origins. It is false of memories of one word: a store and then
-- a load, of which the load has its address, have one filling and get 28 (a case of crates/queue_cases).
abbrev pub ServesExactly : Type 0
ServesExactly =
    (groups : List GroupPairs) (memory : List ℕ) (m : Machine) (o : Opening groups memory m) → 2 ≤ length memory →
    (calls : List Call) (n : ℕ) → Latest groups (told (answers m calls)) n →
    past27 (serve_of_nth (machine_after m calls) o.first n) ≡ true →
    (serve_of_nth (machine_after m calls) o.first n ≡ earlier_store_unknown) ↔ TwoOrigins groups memory (told (answers m calls)) n

-- Where a serve past 27 is not answered 28, every filling gives its load the same origin; in memories of one word too.
abbrev pub ServedOneOrigin : Type 0
ServedOneOrigin =
    (groups : List GroupPairs) (memory : List ℕ) (m : Machine) (o : Opening groups memory m) →
    (calls : List Call) (n : ℕ) → Latest groups (told (answers m calls)) n →
    past27 (serve_of_nth (machine_after m calls) o.first n) ≡ true → ¬ (serve_of_nth (machine_after m calls) o.first n ≡ earlier_store_unknown) →
    (one other : Filling) → ((k : ℕ) → one.address k < length memory) → ((k : ℕ) → other.address k < length memory) →
    origin_of groups memory (told (answers m calls)) one n ≡ origin_of groups memory (told (answers m calls)) other n

-- The value that an accepted serve gives is the word of the load's origin: the data of that store, or the opening word. It is so however
-- missing arguments are filled in, and whether or not the load is ever taken.
abbrev pub ServesGiveWords : Type 0
ServesGiveWords =
    (groups : List GroupPairs) (memory : List ℕ) (m : Machine) (o : Opening groups memory m) →
    (calls : List Call) (n : ℕ) → Latest groups (told (answers m calls)) n →
    (s : Served) → serve (machine_after m calls).queue (machine_after m calls).memory (after o.first n) ≡ accept s →
    (fill : Filling) → ((k : ℕ) → fill.address k < length memory) →
    (x : Origin) × (origin_of groups memory (told (answers m calls)) fill n ≡ some x)
    × (word_of groups memory (told (answers m calls)) fill x ≡ some s.value)
