-- "Each accepted take updates a record": for each load port 0 to 31 the accepted takes, and the last value taken.
use Rattle.std.specs.Prelude.{ℕ, ◌+◌, ◌≤◌, ◌<◌, ◌^◌, length, get_or, set, replicate, ◌≡◌, true}
use Rattle.std.proofs.Math.Option.{Option, none, some}
use Rattle.number.specs.Basics.{pick, all_of}
use Rattle.counts.specs.Counts.{full}
use Rattle.queue.specs.Contents.{update_at}
use Rattle.sequential.specs.RunsExist.{bits_fit}
use Rattle.shift.specs.declared.ShiftRecord.{ShiftRecord}

-- what the record has of a port
abbrev pub takes_of : ShiftRecord → ℕ → ℕ
takes_of r port = get_or r.takes port 0

abbrev pub last_value_of : ShiftRecord → ℕ → ℕ
last_value_of r port = get_or r.values port 0

-- "a port with none shows 0 and 0"
abbrev pub no_takes : ShiftRecord
no_takes = record { takes = replicate 32 0; values = replicate 32 0 }

-- "The count of takes stops at 4294967295, the value doesn't."
abbrev pub one_more : ℕ → ℕ
one_more n = pick (full n) n (n + 1)

-- A value was taken at a port: just this port's two numbers change. A record has no port above 31, and such a port changes nothing.
abbrev pub recorded : ℕ → ℕ → ShiftRecord → ShiftRecord
recorded port value r = record { takes = update_at one_more port r.takes; values = set r.values port value }

-- what a take leaves of a record: its value is recorded; a take that gives none changes nothing
abbrev pub after_take : ShiftRecord → ℕ → Option ℕ → ShiftRecord
after_take r port none = r
after_take r port (some v) = recorded port v r

-- a record as a program holds it: 32 places for both, and each number is of 32 bits
pub record StoredRecord (r : ShiftRecord) : Type 0 where
  pub ports : length r.takes ≡ 32
  pub takes : all_of (bits_fit 32) r.takes ≡ true
  pub ports_too : length r.values ≡ 32
  pub values : all_of (bits_fit 32) r.values ≡ true

-- ---- what holds of the record; the proofs are proofs/RecordLaws.antt

-- A take changes just its port's two numbers, and a port above 31 nothing; what follows is again such a record.
pub record OnePort (r : ShiftRecord) (port value : ℕ) : Type 0 where
  pub takes : port < 32 → takes_of (recorded port value r) port ≡ one_more (takes_of r port)
  pub last : port < 32 → last_value_of (recorded port value r) port ≡ value
  pub other_takes : (other : ℕ) → (other ≡ port → ⊥) → takes_of (recorded port value r) other ≡ takes_of r other
  pub other_values : (other : ℕ) → (other ≡ port → ⊥) → last_value_of (recorded port value r) other ≡ last_value_of r other
  pub outside : 32 ≤ port → recorded port value r ≡ r
  pub stored : value < 2 ^ 32 → StoredRecord (recorded port value r)

abbrev pub RecordsOnePort : Type 0
RecordsOnePort = (r : ShiftRecord) → StoredRecord r → (port value : ℕ) → OnePort r port value

abbrev pub NoTakesStored : Type 0
NoTakesStored = StoredRecord no_takes
