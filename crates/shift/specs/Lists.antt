-- The page after whole lists of calls: "each accepted take updates a record".
use Rattle.std.specs.Prelude.{ℕ, zero, suc, ◌≤◌, ◌<◌, ◌^◌, ◌≡◌, Bool, ◌&&◌, List, [], ◌∷◌, eqb, ltb, length, get_or}
use Rattle.std.proofs.Math.Option.{Option}
use Rattle.number.specs.Basics.{pick, count_where}
use Rattle.table.specs.declared.Table.{Table}
use Rattle.table.specs.Group.{GroupPairs}
use Rattle.table.specs.Table.{groups_of}
use Rattle.queue.specs.declared.Queue.{Queue}
use Rattle.queue.specs.Contents.{contents_of}
use Rattle.queue.specs.Outcome.{Outcome, Opened}
use Rattle.queue.specs.Take.{take_rule}
use Rattle.queue.specs.Open.{open_queue, fresh_frame}
use Rattle.queue.specs.Parts.{queue_of, OpenedFrame, OpensFrame}
use Rattle.sequential.specs.Calls.{Call, Activate, Give, Serve, Write, Take, Ready}
use Rattle.sequential.specs.Answers.{Machine, Answered, answers}
use Rattle.sequential.specs.Plain.{Told, Filling, plain_loads}
use Rattle.sequential.specs.Demand3.{told, take_of, taken_at, Opening}
use Rattle.sequential.specs.Records.{Hands, Runs, answered_with, OpenedRecord}
use Rattle.sequential.specs.RunsOnParts.{RunsOnParts}
use Rattle.shift.specs.declared.ShiftRecord.{ShiftRecord}
use Rattle.shift.specs.Record.{takes_of, last_value_of, no_takes, after_take}
use Rattle.shift.specs.Page.{page_with, page}
use Rattle.shift.specs.Outcome.{TakesRecorded, with_record}

-- what an accepted call leaves of a record: a take its value, every other call the record
abbrev pub after_accepted : ShiftRecord → Call → Option ℕ → ShiftRecord
after_accepted r (Activate g) value = r
after_accepted r (Give kind p x) value = r
after_accepted r (Serve c s) value = r
after_accepted r (Write s) value = r
after_accepted r (Take p) value = after_take r p value
after_accepted r (Ready kind run) value = r

abbrev pub after_call : ShiftRecord → Answered → ShiftRecord
after_call r a = pick (eqb a.number 0) (after_accepted r a.call a.value) r

-- what a list of answered calls leaves of it
abbrev pub record_after : ShiftRecord → List Answered → ShiftRecord
record_after r [] = r
record_after r (a ∷ log) = record_after (after_call r a) log

-- ---- the page by counting over the list, with no record

-- "The count of takes stops at 4294967295."
abbrev pub stopped : ℕ → ℕ
stopped n = pick (ltb n 4294967295) n 4294967295

-- the last of these values, or this one where there is none
abbrev pub last_or : ℕ → List ℕ → ℕ
last_or value [] = value
last_or value (v ∷ vs) = last_or v vs

-- the nth of these values, counted from 1; 0 for none
abbrev pub nth_of : ℕ → List ℕ → ℕ
nth_of zero vs = 0
nth_of (suc n) vs = get_or vs n 0

-- how many takes of a port were accepted, among calls of which is told whether they were answered 0
abbrev pub accepted_take : ℕ → Told → Bool
accepted_take port t = take_of port t.call && t.accepted

abbrev pub accepted_takes : ℕ → List Told → ℕ
accepted_takes port ts = count_where (accepted_take port) ts

-- each port with the number of its accepted takes and the last of its taken values, or 0 and 0
abbrev pub list_page : List Answered → List ℕ
list_page log = page_with (λ (port : ℕ). stopped (accepted_takes port (told log))) (λ (port : ℕ). last_or 0 (taken_at port log))

-- the same with the values that the plain run loads: of n takes the last has the value of the port's nth load
abbrev pub plain_page : List GroupPairs → List ℕ → List Told → Filling → List ℕ
plain_page groups memory ts fill =
    page_with
    (λ (port : ℕ). stopped (accepted_takes port ts))
    (λ (port : ℕ). nth_of (accepted_takes port ts) (plain_loads groups memory ts fill port))

-- ---- what holds of whole lists; the proofs are proofs/Lists.antt

-- From an empty record, after answered calls of every kind: a port has the number of its taken values, which stops at 4294967295, and the
-- last of them, or 0 and 0.
pub record Keeps (log : List Answered) (r : ShiftRecord) (port : ℕ) : Type 0 where
  pub takes : takes_of r port ≡ stopped (length (taken_at port log))
  pub last : last_value_of r port ≡ last_or 0 (taken_at port log)

abbrev pub RecordsKeep : Type 0
RecordsKeep = (log : List Answered) (port : ℕ) → port < 32 → Keeps log (record_after no_takes log) port

-- the page that a record shows, by the list and by the plain run, which loads at each port as often as it was taken from, or more
pub record Shows (groups : List GroupPairs) (memory : List ℕ) (log : List Answered) (fill : Filling) (r : ShiftRecord) : Type 0 where
  pub by_list : page r ≡ list_page log
  pub by_plain : page r ≡ plain_page groups memory (told log) fill
  pub loaded : (port : ℕ) → accepted_takes port (told log) ≤ length (plain_loads groups memory (told log) fill port)

-- THE PAGE, of every list of calls that demand 3 speaks of, and however missing arguments are filled in.
abbrev pub PagesShow : Type 0
PagesShow =
    (groups : List GroupPairs) (memory : List ℕ) (m : Machine) → Opening groups memory m →
    (calls : List Call) (fill : Filling) → ((k : ℕ) → fill.address k < length memory) →
    Shows groups memory (answers m calls) fill (record_after no_takes (answers m calls))

-- ---- the same of the records that the calls leave

-- What each call hands over where a record is kept: a take by its contract, and every other call leaves the record.
abbrev pub HandsRecord : Queue → List ℕ → ShiftRecord → Call → Outcome → List ℕ → ShiftRecord → Type 0
HandsRecord q m kept (Activate g) r left next = Hands q m (Activate g) r left × (next ≡ kept)
HandsRecord q m kept (Give kind port x) r left next = Hands q m (Give kind port x) r left × (next ≡ kept)
HandsRecord q m kept (Serve lent s) r left next = Hands q m (Serve lent s) r left × (next ≡ kept)
HandsRecord q m kept (Write s) r left next = Hands q m (Write s) r left × (next ≡ kept)
HandsRecord q m kept (Take p) r left next = TakesRecorded q kept p (take_rule (contents_of q) p) (with_record r next) × (left ≡ m)
HandsRecord q m kept (Ready kind run) r left next = Hands q m (Ready kind run) r left × (next ≡ kept)

-- Calls on a queue, a memory and a record, with their answers, up to what they leave.
pub data RunsRecorded : Queue → List ℕ → ShiftRecord → List Call → List Answered → Queue → List ℕ → ShiftRecord → Type 0 where
  recorded_none : {q : Queue} {m : List ℕ} {kept : ShiftRecord} → RunsRecorded q m kept [] [] q m kept
  recorded_one : {q q₂ : Queue} {m m₁ m₂ : List ℕ} {kept kept₁ kept₂ : ShiftRecord} {c : Call} {cs : List Call} {log : List Answered} (r : Outcome)
      → HandsRecord q m kept c r m₁ kept₁ → RunsRecorded r.queue m₁ kept₁ cs log q₂ m₂ kept₂
      → RunsRecorded q m kept (c ∷ cs) (answered_with c r ∷ log) q₂ m₂ kept₂

-- Such a run is a run of calls, and its record is what the list leaves; and every run of calls is one with a record kept.
abbrev pub RecordsAreKept : Type 0
RecordsAreKept =
    (q : Queue) (m : List ℕ) (kept : ShiftRecord) (calls : List Call) (log : List Answered) (last : Queue) (left : List ℕ) (end : ShiftRecord) →
    RunsRecorded q m kept calls log last left end → Runs q m calls log last left × (end ≡ record_after kept log)

abbrev pub RunsKeepRecords : Type 0
RunsKeepRecords =
    (q : Queue) (m : List ℕ) (kept : ShiftRecord) (calls : List Call) (log : List Answered) (last : Queue) (left : List ℕ) →
    Runs q m calls log last left → RunsRecorded q m kept calls log last left (record_after kept log)

-- THE PAGE, of records: an accepted opening, an empty record, any run of calls from there.
abbrev pub RecordsShow : Type 0
RecordsShow =
    (table : Table) (memory : List ℕ) (o : Opened) → OpenedRecord table memory o →
    (calls : List Call) (log : List Answered) (q : Queue) (left : List ℕ) (kept : ShiftRecord) →
    RunsRecorded o.queue memory no_takes calls log q left kept →
    (fill : Filling) → ((k : ℕ) → fill.address k < length memory) →
    Shows (groups_of table) memory log fill kept

-- THE PAGE, of lists of calls on a queue's parts, with two runs of 64 entries that are lent to every call: the record that their answers leave.
abbrev pub PartsShow : Type 0
PartsShow =
    (table : Table) (load_depth store_depth first : ℕ) (memory : List ℕ) (o : OpenedFrame) → first < 2 ^ 32 →
    OpensFrame
    (fresh_frame table load_depth store_depth first (length memory))
    (open_queue (groups_of table) load_depth store_depth first (length memory))
    o → o.answer ≡ 0 →
    (loads stores : List ℕ) → length loads ≡ 64 → length stores ≡ 64 →
    (calls : List Call) (log : List Answered) (q : Queue) (left : List ℕ) →
    RunsOnParts (queue_of o.frame loads stores) memory calls log q left →
    (fill : Filling) → ((k : ℕ) → fill.address k < length memory) →
    Shows (groups_of table) memory log fill (record_after no_takes log)
