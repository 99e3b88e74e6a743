-- "The counts record is lent to each serve and updated there: loads served, and loads forwarded. When either stands at
-- 4294967295 both stop."
use Rattle.std.specs.Prelude.{ℕ, ◌+◌, ◌*◌, ◌/◌, ◌%◌, Bool, ◌||◌, eqb, ltb}
use Rattle.number.specs.Basics.{pick}
use Rattle.counts.specs.declared.Counts.{Counts}

-- a count stands where it can go no further
abbrev pub full : ℕ → Bool
full n = eqb n 4294967295

abbrev pub counted : Bool → Counts → Counts
counted forwarded c =
    pick (full c.loads || full c.forwarded) c
    (record { loads = c.loads + 1; forwarded = pick forwarded (c.forwarded + 1) c.forwarded })

-- The whole number nearest to n / d: n / d rounded down where the rest is below half of d, one more where it is above, and of "an
-- exact half" (S-3) "the even neighbour".
abbrev pub nearest : ℕ → ℕ → ℕ
nearest n d = pick (ltb (2 * (n % d)) d) (n / d) (pick (ltb d (2 * (n % d))) (n / d + 1) (n / d + n / d % 2))

-- "The share is thousandths of loads that were forwarded, to the nearest, half going up; it is 0 for no loads." S-3 puts the even
-- neighbour in place of "half going up".
abbrev pub share : Counts → ℕ
share c = pick (eqb c.loads 0) 0 (nearest (1000 * c.forwarded) c.loads)
