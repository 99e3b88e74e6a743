-- What an access is to the word at an address: serve (28, 29) and write (31, 32) ask this of the accesses before one.
use Rattle.std.specs.Prelude.{ℕ, Bool, true, false, ◌==◌}
use Rattle.std.proofs.Math.Option.{Option, none, some}
use Rattle.number.specs.Basics.{pick}

-- it has another address; it has no address yet; it has this one
pub data Touch : Type 0 where
  apart : Touch
  unknown : Touch
  same : Touch

-- what an access with this address, or none yet, is to the word at `a`
abbrev pub touch : ℕ → Option ℕ → Touch
touch a none = unknown
touch a (some b) = pick (b == a) same apart

-- is it known to have another address; has it this one
abbrev pub is_apart : Touch → Bool
is_apart apart = true
is_apart unknown = false
is_apart same = false

abbrev pub is_same : Touch → Bool
is_same apart = false
is_same unknown = false
is_same same = true
