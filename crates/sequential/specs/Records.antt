-- Demand 3 of the records themselves. A run of calls on queue records: each call is lent the record and the memory that the
-- last one left, and answers and leaves what its contract says. Nothing is said of places beyond the counts, so there may be many
-- such runs; demand 3 holds of every one of them. The proof is proofs/RecordsDemand3.antt.
use Rattle.std.specs.Borrow.{MutBor}
use Rattle.std.specs.Prelude.{ℕ, ◌<◌, ◌^◌, ◌≡◌, true, Result, List, [], ◌∷◌, length}
use Rattle.std.proofs.Math.Option.{some}
use Rattle.std.proofs.Math.ListN.{get_elem?}
use Rattle.table.specs.declared.Table.{Table}
use Rattle.table.specs.Table.{groups_of}
use Rattle.counts.specs.declared.Counts.{Counts}
use Rattle.queue.specs.declared.Queue.{Queue}
use Rattle.queue.specs.declared.Kind.{Kind}
use Rattle.queue.specs.Parts.{OpenedFrame}
use Rattle.number.specs.Reply.{number}
use Rattle.number.specs.declared.refusal.Refusal.{Refusal}
use Rattle.queue.specs.Contents.{contents_of}
use Rattle.queue.specs.Sound.{sound}
use Rattle.queue.specs.Open.{open_queue, fresh_frame}
use Rattle.queue.specs.Activate.{activate}
use Rattle.queue.specs.Arguments.{give}
use Rattle.queue.specs.Serve.{serve}
use Rattle.queue.specs.Write.{write}
use Rattle.queue.specs.Take.{take_rule}
use Rattle.queue.specs.Ready.{Readied, ready, Readies, Fronts, front_of, front_reply}
use Rattle.queue.specs.Outcome.{Outcome, Opened, Counted, no_value, Moves, Takes, Serves, Writes, Opens, with_counts, without_counts}
use Rattle.queue.specs.Parts.{queue_of, answered, OpensFrame}
use Rattle.sequential.specs.Calls.{Call, Activate, Give, Serve, Write, Take, Ready}
use Rattle.sequential.specs.Answers.{Machine, Answered}
use Rattle.sequential.specs.Plain.{Filling}
use Rattle.sequential.specs.Demand3.{told, taken_at, Sequential, Alike}

-- a call with the answer and the value that it handed back
abbrev pub answered_with : Call → Outcome → Answered
answered_with c r = record { call = c; number = r.answer; value = r.value }

-- What each call hands over, as its contract says: its answer, its value and the queue that follows, and beside them the memory
-- that it leaves. "A call that isn't lent the memory leaves it as it was." Of the counts that a serve leaves, and of the run of
-- numbers that a ready call leaves, the next call is told nothing.
abbrev pub Hands : Queue → List ℕ → Call → Outcome → List ℕ → Type 0
Hands q m (Activate g) r left = Moves q (activate (contents_of q) g) r × (left ≡ m)
Hands q m (Give kind port x) r left = Moves q (give kind (contents_of q) port x) r × (left ≡ m)
Hands q m (Serve lent s) r left = ((counts : Counts) × Serves q lent (serve (contents_of q) m s) (with_counts r counts)) × (left ≡ m)
Hands q m (Write s) r left = Writes q m (write (contents_of q) m s) r left
Hands q m (Take p) r left = Takes q (take_rule (contents_of q) p) r × (left ≡ m)
Hands q m (Ready kind run) r left = (r ≡ no_value (number (ready kind (contents_of q) run)) q) × (left ≡ m)

-- Calls on a queue and a memory, with their answers, up to the queue and the memory that they leave.
pub data Runs : Queue → List ℕ → List Call → List Answered → Queue → List ℕ → Type 0 where
  run_none : {q : Queue} {m : List ℕ} → Runs q m [] [] q m
  run_one : {q q₂ : Queue} {m m₁ m₂ : List ℕ} {c : Call} {cs : List Call} {log : List Answered} (r : Outcome)
      → Hands q m c r m₁ → Runs r.queue m₁ cs log q₂ m₂ → Runs q m (c ∷ cs) (answered_with c r ∷ log) q₂ m₂

-- What a serve hands over is said with the counts in one record or beside it, and two calls tell what is ready; all give the same
-- premise. Before the last arrow stand what `Serves` says of one record, the own words of the contracts of `serve` and of `ready_into`,
-- and what `ready` hands back in the paper's terms. The proofs are in proofs/RecordsDemand3.antt.
abbrev pub ServeCountedHands : Type 0
ServeCountedHands =
    (q : Queue) (m : List ℕ) (lent : Counts) (serial : ℕ) (r : Counted) →
    Serves q lent (serve (contents_of q) m serial) r →
    Hands q m (Serve lent serial) (without_counts r) m

abbrev pub ServeHands : Type 0
ServeHands =
    (q : Queue) (m : List ℕ) (lent left : Counts) (serial : ℕ) (r : Outcome) →
    Serves q lent (serve (contents_of q) m serial) (with_counts r left) →
    Hands q m (Serve lent serial) r m

abbrev pub ReadyIntoHands : Type 0
ReadyIntoHands =
    (q : Queue) (m run left : List ℕ) (kind : Kind) (r : Readied) →
    Readies q run (ready kind (contents_of q) run) r left →
    Hands q m (Ready kind run) (answered r.answer r.queue) m

abbrev pub ReadyHands : Type 0
ReadyHands =
    (q : Queue) (m run serials : List ℕ) (kind : Kind) (answer : ℕ) (queue : Queue) →
    Fronts q (ready kind (contents_of q) run) answer serials queue →
    Hands q m (Ready kind run) (answered answer queue) m

-- What the contract of `ready` says, a reply, is such a front part: the queue is lent and left as it is.
abbrev pub ReadyFronts : Type 0
ReadyFronts =
    (q : Queue) (run : List ℕ) (kind : Kind) (r : Result (MutBor (List ℕ)) Refusal) →
    front_reply r ≡ ready kind (contents_of q) run →
    Fronts q (ready kind (contents_of q) run) (number (front_reply r)) (front_of (front_reply r)) q

abbrev pub machine_of : Queue → List ℕ → Machine
machine_of q m = record { queue = contents_of q; memory = m }

-- the beginning of such a run: an accepted opening of the table for memories of this length
pub record OpenedRecord (table : Table) (memory : List ℕ) (o : Opened) : Type 0 where
  pub load_depth : ℕ
  pub store_depth : ℕ
  pub first : ℕ
  pub serial : first < 2 ^ 32
  pub refused : Queue
  pub opens : Opens refused (open_queue (groups_of table) load_depth store_depth first (length memory)) o
  pub accepted : o.answer ≡ 0

-- DEMAND 3, of records: an accepted opening, any memory of the length opened for, any run of calls from there.
abbrev pub RecordsDemand3 : Type 0
RecordsDemand3 =
    (table : Table) (memory : List ℕ) (o : Opened) → OpenedRecord table memory o →
    (calls : List Call) (log : List Answered) (q : Queue) (left : List ℕ) → Runs o.queue memory calls log q left →
    (fill : Filling) → ((k : ℕ) → fill.address k < length memory) →
    Sequential (groups_of table) memory log (machine_of q left) fill

-- The same from an opened frame, with whatever two runs of entries are lent to the calls.
abbrev pub FramesDemand3 : Type 0
FramesDemand3 =
    (table : Table) (load_depth store_depth first : ℕ) (memory : List ℕ) (o : OpenedFrame) → first < 2 ^ 32 →
    OpensFrame
    (fresh_frame table load_depth store_depth first (length memory))
    (open_queue (groups_of table) load_depth store_depth first (length memory))
    o → o.answer ≡ 0 →
    (loads stores : List ℕ) (calls : List Call) (log : List Answered) (q : Queue) (left : List ℕ) →
    Runs (queue_of o.frame loads stores) memory calls log q left →
    (fill : Filling) → ((k : ℕ) → fill.address k < length memory) →
    Sequential (groups_of table) memory log (machine_of q left) fill

-- The corollary for two lists, of records: "two lists alike in table", so of tables that mean the same groups, whatever else
-- their records hold.
abbrev pub AlikeRecords : Type 0
AlikeRecords =
    (table₁ table₂ : Table) → groups_of table₁ ≡ groups_of table₂ →
    (memory : List ℕ) (o₁ o₂ : Opened) → OpenedRecord table₁ memory o₁ → OpenedRecord table₂ memory o₂ →
    (calls₁ calls₂ : List Call) (log₁ log₂ : List Answered) (q₁ q₂ : Queue) (left₁ left₂ : List ℕ) →
    Runs o₁.queue memory calls₁ log₁ q₁ left₁ → Runs o₂.queue memory calls₂ log₂ q₂ left₂ → Alike (told log₁) (told log₂) →
    (port n v w : ℕ) → get_elem? (taken_at port log₁) n ≡ some v → get_elem? (taken_at port log₂) n ≡ some w → v ≡ w

-- No record that such a run leaves is refused for what it holds.
abbrev pub RecordsSound : Type 0
RecordsSound =
    (table : Table) (memory : List ℕ) (o : Opened) → OpenedRecord table memory o →
    (calls : List Call) (log : List Answered) (q : Queue) (left : List ℕ) → Runs o.queue memory calls log q left →
    sound (contents_of q) ≡ true
