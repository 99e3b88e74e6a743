-- Serials: the serial of a place names that place, and every serial is of 32 bits.
use Rattle.std.proofs.Common.{◌≡◌, ℕ, ◌^◌, ◌<◌, arith}
use Rattle.queue.specs.Contents.{after, age, oldest}

-- the serial of the entry at place i names place i
pub place_of_serial : (from i : ℕ) → from < 2 ^ 32 → i < 2 ^ 32 → age from (after from i) ≡ i
place_of_serial from i h k = omega arith

pub oldest-small : (next n : ℕ) → oldest next n < 2 ^ 32
oldest-small next n = omega arith

pub after_small : (from i : ℕ) → after from i < 2 ^ 32
after_small from i = omega arith
