-- What a take that keeps the record hands back.
use Rattle.std.specs.Prelude.{ℕ, ◌≡◌}
use Rattle.std.proofs.Math.Option.{Option, some}
use Rattle.queue.specs.declared.Queue.{Queue}
use Rattle.number.specs.Reply.{Reply, refuse, accept}
use Rattle.queue.specs.Take.{Taken}
use Rattle.queue.specs.Outcome.{Outcome, no_value, Accepted}
use Rattle.shift.specs.declared.ShiftRecord.{ShiftRecord}
use Rattle.shift.specs.Record.{recorded}

-- what it hands back in the paper's terms: its number, its value or none, the queue and the record that follow
pub record Recorded : Type 0 where
  pub answer : ℕ
  pub value : Option ℕ
  pub queue : Queue
  pub kept : ShiftRecord

-- what it hands back but the record
abbrev pub without_record : Recorded → Outcome
without_record r = record { answer = r.answer; value = r.value; queue = r.queue }

abbrev pub with_record : Outcome → ShiftRecord → Recorded
with_record r kept = record { answer = r.answer; value = r.value; queue = r.queue; kept = kept }

-- A refused take leaves the very queue and the very record that were lent to it.
pub record Unrecorded (q : Queue) (kept : ShiftRecord) (n : ℕ) (r : Recorded) : Type 0 where
  pub outcome : without_record r ≡ no_value n q
  pub kept_is : r.kept ≡ kept

-- An accepted one hands back what take does, and the record with this port's two numbers changed.
pub record RecordedWell (kept : ShiftRecord) (port : ℕ) (t : Taken) (r : Recorded) : Type 0 where
  pub outcome : Accepted (some t.value) t.queue (without_record r)
  pub kept_is : r.kept ≡ recorded port t.value kept

abbrev pub TakesRecorded : Queue → ShiftRecord → ℕ → Reply Taken → Recorded → Type 0
TakesRecorded q kept port (refuse n) r = Unrecorded q kept n r
TakesRecorded q kept port (accept t) r = RecordedWell kept port t r
