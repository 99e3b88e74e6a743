-- The numbers that a command takes.
use Rattle.std.specs.Prelude.{ℕ, zero, suc, ◌+◌, ◌*◌, ◌/◌, Bool, true, false, List, eqb, ltb, leb, length, take, get_or, slice_get}
use Rattle.std.specs.Prelude.{Option, Some, None, Result, Ok, Err}
use Rattle.script.specs.declared.Numbers.{Numbers}
use Rattle.script.specs.Lines.{pick}
use Rattle.script.specs.Decimal.{numbers_from}

-- the largest number that a letter stands for: f k g q p r l b h a, and 32 bits for the others
abbrev pub most_of : ℕ → ℕ
most_of letter =
    pick (eqb letter 102) 1 (pick (eqb letter 107) 6 (pick (eqb letter 103) 15 (pick (eqb letter 113) 31 (pick (eqb letter 112) 63
    (pick (eqb letter 114) 80 (pick (eqb letter 108) 128 (pick (eqb letter 98) 255 (pick (eqb letter 104) 65535
    (pick (eqb letter 97) 18446744073709551615 4294967295)))))))))

-- a number stands where no point is, and is not too large; none stands where a point is, or the letter o
abbrev pub fits_of : ℕ → Option ℕ → Bool
fits_of letter (Some value) = pick (eqb letter 46) false (leb value (most_of letter))
fits_of letter None = pick (eqb letter 111) true (eqb letter 46)

-- so many places from the ith on, of the eight whose letters begin at a place
unfoldable pub fit_from : List ℕ → ℕ → List ℕ → ℕ → ℕ → Bool
fit_from shapes base numbers i zero = true
fit_from shapes base numbers i (suc left) =
    pick (fits_of (get_or shapes (base + i) 0) (slice_get numbers i)) (fit_from shapes base numbers (i + 1) left) false

-- eight letters for each command say what numbers it takes
abbrev pub taken : List ℕ → ℕ → List ℕ → Bool
taken shapes command numbers = pick (ltb command (length shapes / 8)) (fit_from shapes (command * 8) numbers 0 8) false

-- the numbers of a line from a place on, if the line has nothing else and a command with these letters takes them
abbrev pub if_taken : List ℕ → Result Numbers Numbers → Option Numbers
if_taken shape (Err numbers) = None
if_taken shape (Ok numbers) = pick (taken shape 0 (take numbers.count numbers.values)) (Some numbers) None

abbrev pub numbers_as : List ℕ → List ℕ → ℕ → Option Numbers
numbers_as shape line from = if_taken shape (numbers_from line from)
