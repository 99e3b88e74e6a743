-- S-3, "half to even in shares": what a share is, said without its formula, and that "all else is as it was". The proofs are
-- in proofs/Shares.antt.
use Rattle.std.specs.Prelude.{ℕ, ◌+◌, ◌-◌, ◌*◌, ◌/◌, ◌%◌, ◌≤◌, ◌<◌, ◌≡◌, ◌≢◌, eqb}
use Rattle.number.specs.Basics.{pick}
use Rattle.counts.specs.declared.Counts.{Counts}
use Rattle.counts.specs.Counts.{share}

-- how far two numbers lie apart
abbrev pub distance : ℕ → ℕ → ℕ
distance m n = (m - n) + (n - m)

-- twice the distance of s × loads from 1000 × forwarded
abbrev pub twice_off : Counts → ℕ → ℕ
twice_off c s = 2 * distance (s * c.loads) (1000 * c.forwarded)

-- s is nearest to 1000 × forwarded / loads: it is off by 1 / 2 at most, and where it is off by just that, an exact half, it is even
pub record NearestHalfToEven (c : Counts) (s : ℕ) : Type 0 where
  pub near : twice_off c s ≤ c.loads
  pub even : twice_off c s ≡ c.loads → s % 2 ≡ 0

-- Of one load or more the share is such a number, whatever is forwarded, and no other number is; of no loads it is 0.
abbrev pub SharesNearest : Type 0
SharesNearest = (c : Counts) → 0 < c.loads → NearestHalfToEven c (share c)

abbrev pub OnlySharesNearest : Type 0
OnlySharesNearest = (c : Counts) (s : ℕ) → 0 < c.loads → NearestHalfToEven c s → s ≡ share c

abbrev pub NoLoadsNoShare : Type 0
NoLoadsNoShare = (c : Counts) → c.loads ≡ 0 → share c ≡ 0

-- the share before S-3, "half going up": 1000 * forwarded / loads + 1 / 2, rounded down
abbrev pub share_half_up : Counts → ℕ
share_half_up c = pick (eqb c.loads 0) 0 ((2000 * c.forwarded + c.loads) / (2 * c.loads))

-- 1000 * forwarded / loads is n + 1 / 2, where there are loads
abbrev pub ExactHalf : Counts → ℕ → Type 0
ExactHalf c n = 2000 * c.forwarded ≡ (2 * n + 1) * c.loads

-- At an exact half the share was the upper neighbour before; now it is the even one of both.
pub record AtHalf (c : Counts) (n : ℕ) : Type 0 where
  pub was : share_half_up c ≡ n + 1
  pub is : share c ≡ n + n % 2

abbrev pub HalvesGoToEven : Type 0
HalvesGoToEven = (c : Counts) (n : ℕ) → 0 < c.loads → ExactHalf c n → AtHalf c n

-- "All else is as it was": the share is another than before only at an exact half whose lower neighbour is even.
pub record EvenBelowHalf (c : Counts) : Type 0 where
  pub some_loads : 0 < c.loads
  pub lower : ℕ
  pub half : ExactHalf c lower
  pub even : lower % 2 ≡ 0

abbrev pub OnlyHalvesDiffer : Type 0
OnlyHalvesDiffer = (c : Counts) → share c ≢ share_half_up c → EvenBelowHalf c
