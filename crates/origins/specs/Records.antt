-- S-7 of what the calls hand back: of lists of calls on records, and of lists of calls on parts. Each list ends with the serve that is spoken
-- of. The proofs are in proofs/Records.antt.
use Rattle.std.specs.Prelude.{ℕ, ◌≤◌, ◌<◌, ◌^◌, ◌≡◌, ◌↔◌, true, List, [], ◌∷◌, ◌++◌, length}
use Rattle.std.proofs.Math.Option.{some}
use Rattle.number.specs.Refusal.{earlier_store_unknown}
use Rattle.table.specs.declared.Table.{Table}
use Rattle.table.specs.Group.{GroupPairs}
use Rattle.table.specs.Table.{groups_of}
use Rattle.counts.specs.declared.Counts.{Counts}
use Rattle.queue.specs.declared.Queue.{Queue}
use Rattle.queue.specs.Outcome.{Opened}
use Rattle.queue.specs.Parts.{OpenedFrame}
use Rattle.queue.specs.Contents.{after}
use Rattle.queue.specs.Open.{open_queue, fresh_frame}
use Rattle.queue.specs.Parts.{queue_of, OpensFrame}
use Rattle.sequential.specs.Calls.{Call, Serve}
use Rattle.sequential.specs.Answers.{Answered}
use Rattle.sequential.specs.Plain.{Filling}
use Rattle.sequential.specs.Demand3.{told}
use Rattle.sequential.specs.Records.{Runs, OpenedRecord}
use Rattle.sequential.specs.RunsOnParts.{RunsOnParts}
use Rattle.origins.specs.Origins.{Origin, origin_of, word_of}
use Rattle.origins.specs.Exactly.{Latest, past27, TwoOrigins}

-- What is said of a serve of the nth load that is answered `a`, where `log` was answered before: past 27 it is answered 28 exactly if two
-- fillings give the load different origins; and the value that it gives is the word of its origin, however missing arguments are filled in.
pub record ServedSo (groups : List GroupPairs) (memory : List ℕ) (log : List Answered) (n : ℕ) (a : Answered) : Type 0 where
  pub exactly : 2 ≤ length memory → past27 a.number ≡ true → (a.number ≡ earlier_store_unknown) ↔ TwoOrigins groups memory (told log) n
  pub gives : (v : ℕ) → a.number ≡ 0 → a.value ≡ some v → (fill : Filling) → ((k : ℕ) → fill.address k < length memory)
      → (x : Origin) × (origin_of groups memory (told log) fill n ≡ some x) × (word_of groups memory (told log) fill x ≡ some v)

-- of records
abbrev pub RecordsExactly : Type 0
RecordsExactly =
    (table : Table) (memory : List ℕ) (o : Opened) (w : OpenedRecord table memory o) →
    (calls : List Call) (lent : Counts) (n : ℕ) (log : List Answered) (a : Answered) (q : Queue) (left : List ℕ) →
    Runs o.queue memory (calls ++ Serve lent (after w.first n) ∷ []) (log ++ a ∷ []) q left →
    Latest (groups_of table) (told log) n → ServedSo (groups_of table) memory log n a

-- and of parts
abbrev pub PartsExactly : Type 0
PartsExactly =
    (table : Table) (load_depth store_depth first : ℕ) (memory : List ℕ) (o : OpenedFrame) → first < 2 ^ 32 →
    OpensFrame
    (fresh_frame table load_depth store_depth first (length memory))
    (open_queue (groups_of table) load_depth store_depth first (length memory))
    o → o.answer ≡ 0 →
    (loads stores : List ℕ) → length loads ≡ 64 → length stores ≡ 64 →
    (calls : List Call) (lent : Counts) (n : ℕ) (log : List Answered) (a : Answered) (q : Queue) (left : List ℕ) →
    RunsOnParts (queue_of o.frame loads stores) memory (calls ++ Serve lent (after first n) ∷ []) (log ++ a ∷ []) q left →
    Latest (groups_of table) (told log) n → ServedSo (groups_of table) memory log n a
