-- What the crate's own functions promise each other: nothing here is promised to a caller from outside.
use Rattle.std.specs.Prelude.{ℕ, ◌-◌, not}
use Rattle.number.specs.Reply.{Reply, accept, need}
use Rattle.number.specs.Number.{padded_by, Reading, reading}
use Rattle.number.specs.Refusal.{padded_number}

-- what is replied where a number's bytes go from `at` to `next`: 42 where the last of several is 00
abbrev pub ended_by : ℕ → ℕ → ℕ → ℕ → Reply (Reading ℕ)
ended_by at next last value = need (not (padded_by (next - at) last)) padded_number (accept (reading value next))
