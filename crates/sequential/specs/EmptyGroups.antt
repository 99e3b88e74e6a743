-- S-2, "branches that touch no tally": lists of calls that activate groups with no load and no store. Such an activation is an
-- accepted one like any other, so demand 3 is said of these lists as it stands. The proofs are in proofs/EmptyGroups.antt.
use Rattle.std.specs.Prelude.{ℕ, ◌+◌, ◌<◌, ◌^◌, ◌≡◌, Bool, true, false, List, [], ◌∷◌, ◌++◌, ltb, length}
use Rattle.std.proofs.Math.Option.{Option, none, some}
use Rattle.std.proofs.Math.ListN.{get_elem?}
use Rattle.number.specs.Basics.{keep_where}
use Rattle.table.specs.declared.Table.{Table}
use Rattle.table.specs.Group.{GroupPairs, empty_group}
use Rattle.table.specs.Table.{groups_of}
use Rattle.table.specs.RightTables.{Each}
use Rattle.queue.specs.declared.Queue.{Queue}
use Rattle.queue.specs.Outcome.{Opened}
use Rattle.queue.specs.Parts.{OpenedFrame}
use Rattle.queue.specs.declared.arguments.Argument.{Argument}
use Rattle.queue.specs.Contents.{Contents, contents_of}
use Rattle.queue.specs.Open.{open_queue, fresh_frame}
use Rattle.queue.specs.Parts.{queue_of, OpensFrame}
use Rattle.sequential.specs.Calls.{Call, Activate}
use Rattle.sequential.specs.Answers.{Machine, step, Answered, answers, machine_after}
use Rattle.sequential.specs.Plain.{Told, Filling, gather, activation_of, rows_of, plain_loads, plain_memory}
use Rattle.sequential.specs.Demand3.{told, taken_at, Opening}
use Rattle.sequential.specs.Records.{Runs, machine_of, OpenedRecord}
use Rattle.sequential.specs.RunsOnParts.{RunsOnParts}

-- "Always accepted unless 40 or 20 applies": 40 applies to no queue that calls lead to from an opening (`ReachedSound`). So after any
-- list of calls, whatever is queued, activating an empty group of the table is answered 0 and leaves queue and memory as they are.
abbrev pub EmptyAlwaysAccepted : Type 0
EmptyAlwaysAccepted =
    (groups : List GroupPairs) (memory : List ℕ) (m : Machine) → Opening groups memory m →
    (calls : List Call) (group : ℕ) → get_elem? groups group ≡ some empty_group →
    step (machine_after m calls) (Activate group) ≡ record { number = 0; value = none; machine = machine_after m calls }

-- "The one-after-another run passes over it": wherever in the list it was activated, the values that each port loads and the
-- memory are those of the list without it, whatever is filled in.
pub record PassesOver (groups : List GroupPairs) (memory : List ℕ) (fill : Filling) (with without : List Told) : Type 0 where
  pub loads : (port : ℕ) → plain_loads groups memory with fill port ≡ plain_loads groups memory without fill port
  pub memories : plain_memory groups memory with fill ≡ plain_memory groups memory without fill

abbrev pub PlainRunPassesOver : Type 0
PlainRunPassesOver =
    (groups : List GroupPairs) (memory : List ℕ) (fill : Filling) (before after : List Told) (group : ℕ) →
    get_elem? groups group ≡ some empty_group →
    PassesOver groups memory fill (before ++ record { call = Activate group; accepted = true } ∷ after) (before ++ after)

-- Document 01 compares two lists that are "alike in table, opening memory, accepted activations and each port's accepted
-- arguments". They may differ in activations of empty groups: it is enough that the others are the same, in the same order.
abbrev pub has_access : Option GroupPairs → Bool
has_access none = false
has_access (some g) = ltb 0 (length g.loads + length g.stores)

abbrev pub activations_with_access : List GroupPairs → List Told → List ℕ
activations_with_access groups ts = keep_where (λ (group : ℕ). has_access (get_elem? groups group)) (gather activation_of ts)

pub record AlikeButForEmpty (groups : List GroupPairs) (a b : List Told) : Type 0 where
  pub activations : activations_with_access groups a ≡ activations_with_access groups b
  pub arguments : (kind : Argument) (port : ℕ) → rows_of a kind port ≡ rows_of b kind port

-- so a port's nth take gives the same value, where both have one
abbrev pub ListsAlikeButForEmpty : Type 0
ListsAlikeButForEmpty =
    (groups : List GroupPairs) (memory : List ℕ) (m₁ m₂ : Machine) → Opening groups memory m₁ → Opening groups memory m₂ →
    (calls₁ calls₂ : List Call) → AlikeButForEmpty groups (told (answers m₁ calls₁)) (told (answers m₂ calls₂)) →
    (port n v w : ℕ) → get_elem? (taken_at port (answers m₁ calls₁)) n ≡ some v →
    get_elem? (taken_at port (answers m₂ calls₂)) n ≡ some w → v ≡ w

-- the same of runs of records, whose tables mean the same groups
abbrev pub RecordsAlikeButForEmpty : Type 0
RecordsAlikeButForEmpty =
    (table₁ table₂ : Table) → groups_of table₁ ≡ groups_of table₂ →
    (memory : List ℕ) (o₁ o₂ : Opened) → OpenedRecord table₁ memory o₁ → OpenedRecord table₂ memory o₂ →
    (calls₁ calls₂ : List Call) (log₁ log₂ : List Answered) (q₁ q₂ : Queue) (left₁ left₂ : List ℕ) →
    Runs o₁.queue memory calls₁ log₁ q₁ left₁ → Runs o₂.queue memory calls₂ log₂ q₂ left₂ →
    AlikeButForEmpty (groups_of table₁) (told log₁) (told log₂) →
    (port n v w : ℕ) → get_elem? (taken_at port log₁) n ≡ some v → get_elem? (taken_at port log₂) n ≡ some w → v ≡ w

-- each accepted activation of a list was of an empty group
abbrev pub OnlyEmpty : List GroupPairs → List Answered → Type 0
OnlyEmpty groups log = Each (λ (group : ℕ). get_elem? groups group ≡ some empty_group) (gather activation_of (told log))

-- a queue holds no entry
pub record NoEntry (q : Contents) : Type 0 where
  pub loads : q.loads.entries ≡ []
  pub stores : q.stores.entries ≡ []

-- "A queue with only empty groups activated since opening holds no entry", whatever other calls were made and however they were
-- answered. More than that: queue and memory are as they were at the opening, serials included.
abbrev pub OnlyEmptyHoldsNone : Type 0
OnlyEmptyHoldsNone =
    (groups : List GroupPairs) (memory : List ℕ) (m : Machine) → Opening groups memory m →
    (calls : List Call) → OnlyEmpty groups (answers m calls) →
    NoEntry (machine_after m calls).queue × (machine_after m calls ≡ m)

-- the same of every run of records
abbrev pub OnlyEmptyRecords : Type 0
OnlyEmptyRecords =
    (table : Table) (memory : List ℕ) (o : Opened) → OpenedRecord table memory o →
    (calls : List Call) (log : List Answered) (q : Queue) (left : List ℕ) → Runs o.queue memory calls log q left →
    OnlyEmpty (groups_of table) log →
    NoEntry (contents_of q) × (machine_of q left ≡ machine_of o.queue memory)

-- and of every list of calls on parts
abbrev pub OnlyEmptyParts : Type 0
OnlyEmptyParts =
    (table : Table) (load_depth store_depth first : ℕ) (memory : List ℕ) (o : OpenedFrame) → first < 2 ^ 32 →
    OpensFrame
    (fresh_frame table load_depth store_depth first (length memory))
    (open_queue (groups_of table) load_depth store_depth first (length memory))
    o → o.answer ≡ 0 →
    (loads stores : List ℕ) → length loads ≡ 64 → length stores ≡ 64 →
    (calls : List Call) (log : List Answered) (q : Queue) (left : List ℕ) →
    RunsOnParts (queue_of o.frame loads stores) memory calls log q left →
    OnlyEmpty (groups_of table) log →
    NoEntry (contents_of q) × (machine_of q left ≡ machine_of (queue_of o.frame loads stores) memory)
