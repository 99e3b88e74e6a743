-- Demand 3 of records is said of every run of calls, and this says that there is one: from every accepted opening, of every list
-- of calls. All that it hands from call to call can be what a program's variables hold. The proof is proofs/RunsExist.antt.
use Rattle.std.specs.Prelude.{ℕ, ◌<◌, ◌^◌, ◌≡◌, Bool, true, List, ltb, length}
use Rattle.std.proofs.Math.Option.{Option, none, some}
use Rattle.table.specs.declared.Table.{Table}
use Rattle.number.specs.Basics.{all_of}
use Rattle.table.specs.Table.{groups_of}
use Rattle.queue.specs.declared.Side.{Side}
use Rattle.queue.specs.declared.Queue.{Queue}
use Rattle.queue.specs.Outcome.{Outcome}
use Rattle.queue.specs.Outcome.{Opened}
use Rattle.number.specs.Reply.{number}
use Rattle.queue.specs.Open.{open_queue, no_queue}
use Rattle.queue.specs.Outcome.{Opens}
use Rattle.sequential.specs.Calls.{Call, Activate, Give, Serve, Write, Take, Ready}
use Rattle.sequential.specs.Answers.{Answered}
use Rattle.sequential.specs.Records.{Runs, run_none, run_one, OpenedRecord}

-- a number below 2 to the power `bits`; a word of 32 bits, where there is one
abbrev pub bits_fit : ℕ → ℕ → Bool
bits_fit bits n = ltb n (2 ^ bits)

abbrev pub word_fits : Option ℕ → Bool
word_fits none = true
word_fits (some w) = bits_fit 32 w

-- Of a call's numbers a queue keeps only an argument, which is of 32 bits. The others may be any numbers.
abbrev pub argument_fits : Call → Bool
argument_fits (Activate g) = true
argument_fits (Give kind port x) = bits_fit 32 x
argument_fits (Serve c s) = true
argument_fits (Write s) = true
argument_fits (Take p) = true
argument_fits (Ready kind run) = true

-- A queue's record as a program holds it: each number has its bits, and there are 64 places on each side.
pub record StoredSide (s : Side) : Type 0 where
  pub depth : s.depth < 2 ^ 8
  pub count : s.count < 2 ^ 8
  pub next : s.next < 2 ^ 32

pub record StoredEntries (l : List ℕ) : Type 0 where
  pub places : length l ≡ 64
  pub numbers : all_of (bits_fit 64) l ≡ true

pub record Stored (q : Queue) : Type 0 where
  pub words : q.frame.memory_length < 2 ^ 16
  pub loads : StoredSide q.frame.loads
  pub stores : StoredSide q.frame.stores
  pub load_entries : StoredEntries q.load_entries
  pub store_entries : StoredEntries q.store_entries

-- What a call hands over, as a program holds it. The table is the very record that the queue was opened with.
pub record StoredOutcome (table : Table) (r : Outcome) (memory : List ℕ) : Type 0 where
  pub answer : r.answer < 2 ^ 8
  pub value : word_fits (r.value) ≡ true
  pub queue : Stored r.queue
  pub table_is : r.queue.frame.table ≡ table
  pub words : all_of (bits_fit 32) memory ≡ true

-- so it is after every call of a run
abbrev pub Throughout : (Outcome → List ℕ → Type 0) → {q q₂ : Queue} {m m₂ : List ℕ} {calls : List Call} {log : List Answered} →
    Runs q m calls log q₂ m₂ → Type 0
Throughout P run_none = Unit {0}
Throughout P (run_one {m₁ = m₁} r hands run) = P r m₁ × Throughout P run

-- some run of these calls; where the first record is one that a program holds, so is all that the run hands over
pub record SomeRun (q : Queue) (memory : List ℕ) (calls : List Call) : Type 0 where
  pub log : List Answered
  pub last : Queue
  pub left : List ℕ
  pub run : Runs q memory calls log last left
  pub stored : Stored q → Throughout (StoredOutcome q.frame.table) run

-- An opening exists: where the rule accepts these depths and this serial, there is a record that opening with them may hand
-- back, and that a program holds.
abbrev pub OpeningsExist : Type 0
OpeningsExist =
    (table : Table) (memory : List ℕ) (load_depth store_depth first : ℕ) → first < 2 ^ 32 →
    number (open_queue (groups_of table) load_depth store_depth first (length memory)) ≡ 0 →
    (o : Opened) × Opens no_queue (open_queue (groups_of table) load_depth store_depth first (length memory)) o × (o.answer ≡ 0)
    × Stored o.queue × (o.queue.frame.table ≡ table)

-- A run exists: after an accepted opening, with any memory of the length opened for whose words are of 32 bits.
abbrev pub RunsExist : Type 0
RunsExist =
    (table : Table) (memory : List ℕ) (o : Opened) → OpenedRecord table memory o → all_of (bits_fit 32) memory ≡ true →
    (calls : List Call) → all_of argument_fits calls ≡ true →
    SomeRun o.queue memory calls
