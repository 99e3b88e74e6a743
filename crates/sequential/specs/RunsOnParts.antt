-- Lists of calls on a queue's parts: the same frame and the same two runs of entries are lent to every call, and each call finds
-- them as the last one left them. Two runs of 64 numbers make such a list a run of the records that frame and entries make, so
-- demand 3 is said of it. The proofs are in proofs/RunsOnParts.antt.
use Rattle.std.specs.Prelude.{ℕ, ◌<◌, ◌^◌, ◌≡◌, true, List, [], ◌∷◌, length}
use Rattle.table.specs.declared.Table.{Table}
use Rattle.number.specs.Basics.{all_of}
use Rattle.table.specs.Table.{groups_of}
use Rattle.counts.specs.declared.Counts.{Counts}
use Rattle.queue.specs.declared.Queue.{Queue}
use Rattle.queue.specs.declared.Kind.{Kind}
use Rattle.queue.specs.Outcome.{Outcome}
use Rattle.queue.specs.Parts.{OpenedFrame}
use Rattle.number.specs.Reply.{Reply, number}
use Rattle.queue.specs.Contents.{contents_of}
use Rattle.queue.specs.Open.{open_queue, fresh_frame}
use Rattle.queue.specs.Activate.{activate}
use Rattle.queue.specs.Arguments.{give}
use Rattle.queue.specs.Serve.{serve}
use Rattle.queue.specs.Write.{write}
use Rattle.queue.specs.Take.{take_rule}
use Rattle.queue.specs.Ready.{ready, Readied, Readies}
use Rattle.queue.specs.Outcome.{no_value, Moves, Takes, Serves, Writes, with_counts}
use Rattle.queue.specs.Parts.{queue_of, on_parts, answered, OpensFrame}
use Rattle.sequential.specs.Calls.{Call, Activate, Give, Serve, Write, Take, Ready}
use Rattle.sequential.specs.Answers.{Answered}
use Rattle.sequential.specs.Plain.{Filling}
use Rattle.sequential.specs.Demand3.{Sequential}
use Rattle.sequential.specs.Records.{answered_with, machine_of, Runs}
use Rattle.sequential.specs.RunsExist.{bits_fit, argument_fits, StoredEntries, StoredOutcome}

-- a rule, on the runs of entries of the record that the parts make
abbrev pub on_entries : {A : Type 0} → Queue → Reply A → Reply A
on_entries q rule = on_parts q.load_entries q.store_entries rule

-- What each call on the parts hands over, as its contract says: `Hands`, with each rule on the parts.
abbrev pub HandsOnParts : Queue → List ℕ → Call → Outcome → List ℕ → Type 0
HandsOnParts q m (Activate g) r left = Moves q (on_entries q (activate (contents_of q) g)) r × (left ≡ m)
HandsOnParts q m (Give kind port x) r left = Moves q (on_entries q (give kind (contents_of q) port x)) r × (left ≡ m)
HandsOnParts q m (Serve lent s) r left =
    ((counts : Counts) × Serves q lent (on_entries q (serve (contents_of q) m s)) (with_counts r counts)) × (left ≡ m)
HandsOnParts q m (Write s) r left = Writes q m (on_entries q (write (contents_of q) m s)) r left
HandsOnParts q m (Take p) r left = Takes q (on_entries q (take_rule (contents_of q) p)) r × (left ≡ m)
HandsOnParts q m (Ready kind run) r left = (r ≡ no_value (number (on_entries q (ready kind (contents_of q) run))) q) × (left ≡ m)

-- A lent run keeps its length. No contract says so: it is the language's own rule of a lent slice, which the logic tells every
-- caller of a function that one is lent to.
pub record SameLengths (q r : Queue) : Type 0 where
  pub loads : length r.load_entries ≡ length q.load_entries
  pub stores : length r.store_entries ≡ length q.store_entries

-- Calls on the parts of a queue and a memory, with their answers, up to the parts and the memory that they leave.
pub data RunsOnParts : Queue → List ℕ → List Call → List Answered → Queue → List ℕ → Type 0 where
  parts_none : {q : Queue} {m : List ℕ} → RunsOnParts q m [] [] q m
  parts_one : {q q₂ : Queue} {m m₁ m₂ : List ℕ} {c : Call} {cs : List Call} {log : List Answered} (r : Outcome)
      → HandsOnParts q m c r m₁ → SameLengths q r.queue → RunsOnParts r.queue m₁ cs log q₂ m₂
      → RunsOnParts q m (c ∷ cs) (answered_with c r ∷ log) q₂ m₂

-- The contracts of `serve_in` and of `ready_in` give what is handed over; those of the others say it as it stands.
abbrev pub ServeInHands : Type 0
ServeInHands =
    (q : Queue) (m : List ℕ) (lent left : Counts) (serial : ℕ) (r : Outcome) →
    Serves q lent (on_entries q (serve (contents_of q) m serial)) (with_counts r left) →
    HandsOnParts q m (Serve lent serial) r m

abbrev pub ReadyInHands : Type 0
ReadyInHands =
    (q : Queue) (m run left : List ℕ) (kind : Kind) (r : Readied) →
    Readies q run (on_entries q (ready kind (contents_of q) run)) r left →
    HandsOnParts q m (Ready kind run) (answered r.answer q) m

-- with two runs of 64 numbers it is a run of records
abbrev pub PartsAreRecords : Type 0
PartsAreRecords =
    (q q₂ : Queue) (m m₂ : List ℕ) (calls : List Call) (log : List Answered) →
    length q.load_entries ≡ 64 → length q.store_entries ≡ 64 →
    RunsOnParts q m calls log q₂ m₂ → Runs q m calls log q₂ m₂

-- DEMAND 3, of parts: an opened frame, any two runs of 64 numbers, any memory of the length opened for, any list of calls.
abbrev pub PartsDemand3 : Type 0
PartsDemand3 =
    (table : Table) (load_depth store_depth first : ℕ) (memory : List ℕ) (o : OpenedFrame) → first < 2 ^ 32 →
    OpensFrame
    (fresh_frame table load_depth store_depth first (length memory))
    (open_queue (groups_of table) load_depth store_depth first (length memory))
    o → o.answer ≡ 0 →
    (loads stores : List ℕ) → length loads ≡ 64 → length stores ≡ 64 →
    (calls : List Call) (log : List Answered) (q : Queue) (left : List ℕ) →
    RunsOnParts (queue_of o.frame loads stores) memory calls log q left →
    (fill : Filling) → ((k : ℕ) → fill.address k < length memory) →
    Sequential (groups_of table) memory log (machine_of q left) fill

-- so it is after every call of such a list
abbrev pub ThroughoutParts : (Outcome → List ℕ → Type 0) → {q q₂ : Queue} {m m₂ : List ℕ} {calls : List Call} {log : List Answered} →
    RunsOnParts q m calls log q₂ m₂ → Type 0
ThroughoutParts P parts_none = Unit {0}
ThroughoutParts P (parts_one {m₁ = m₁} r hands same run) = P r m₁ × ThroughoutParts P run

-- And there is such a list of calls, as there is a run of records (`RunsExist`): all that it hands over is what a program holds.
pub record SomeRunOnParts (q : Queue) (memory : List ℕ) (calls : List Call) : Type 0 where
  pub log : List Answered
  pub last : Queue
  pub left : List ℕ
  pub run : RunsOnParts q memory calls log last left
  pub stored : ThroughoutParts (StoredOutcome q.frame.table) run

abbrev pub RunsOnPartsExist : Type 0
RunsOnPartsExist =
    (table : Table) (load_depth store_depth first : ℕ) (memory : List ℕ) (o : OpenedFrame) → first < 2 ^ 32 →
    OpensFrame
    (fresh_frame table load_depth store_depth first (length memory))
    (open_queue (groups_of table) load_depth store_depth first (length memory))
    o → o.answer ≡ 0 →
    (loads stores : List ℕ) → StoredEntries loads → StoredEntries stores → all_of (bits_fit 32) memory ≡ true →
    (calls : List Call) → all_of argument_fits calls ≡ true →
    SomeRunOnParts (queue_of o.frame loads stores) memory calls
