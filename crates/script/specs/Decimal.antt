-- The decimal numbers of a line, read one byte after another: each rule gives what has been read once that byte is taken. Where the line
-- has something else it is wrong for good; what was read before stays, and the rest is read by the same rules.
use Rattle.std.specs.Prelude.{ℕ, ◌+◌, ◌-◌, ◌*◌, ◌%◌, true, false, List, Result, Ok, Err, eqb, ltb, get_or, set, drop, replicate}
use Rattle.script.specs.declared.Numbers.{Numbers}
use Rattle.script.specs.declared.NumbersRead.{NumbersRead}
use Rattle.script.specs.Lines.{pick, read_all}

-- a number with one more digit; those that are too large count as the largest
abbrev pub with_digit : ℕ → ℕ → ℕ
with_digit value digit = pick (ltb value 1844674407370955161) (value * 10 + digit % 10) 18446744073709551615

-- the line has something else, and the numbers that were read stay
abbrev pub wrong_numbers : NumbersRead → NumbersRead
wrong_numbers r = record { numbers = r.numbers; bare = false; right = false }

-- a space begins a number, if the one before has a digit and there is room
abbrev pub spaced : NumbersRead → NumbersRead
spaced r =
    pick r.bare (wrong_numbers r)
    (pick (ltb r.numbers.count 8)
    (record { numbers = record { count = r.numbers.count + 1; values = r.numbers.values }; bare = true; right = r.right })
    (wrong_numbers r))

-- the numbers with one more digit of the last
abbrev pub with_last : Numbers → ℕ → Numbers
with_last n digit = record { count = n.count; values = set n.values (n.count - 1) (with_digit (get_or n.values (n.count - 1) 0) digit) }

-- a digit belongs to the last number, and there is none before the first space
abbrev pub digited : NumbersRead → ℕ → NumbersRead
digited r digit =
    pick (eqb r.numbers.count 0) (wrong_numbers r)
    (pick (ltb (r.numbers.count - 1) 8) (record { numbers = with_last r.numbers digit; bare = false; right = r.right }) (wrong_numbers r))

-- what is read once one byte is taken: what is neither a space nor a digit is something else
abbrev pub number_step : NumbersRead → ℕ → NumbersRead
number_step r b = pick (eqb b 32) (spaced r) (pick (ltb b 48) (wrong_numbers r) (pick (ltb 57 b) (wrong_numbers r) (digited r (b - 48))))

-- what is read once some bytes are taken, one after another
abbrev pub number_steps : NumbersRead → List ℕ → NumbersRead
number_steps = read_all number_step

-- nothing is read yet
abbrev pub no_numbers : NumbersRead
no_numbers = record { numbers = record { count = 0; values = replicate 8 0 }; bare = false; right = true }

-- a space at the end begins no number
abbrev pub numbers_end : NumbersRead → NumbersRead
numbers_end r = pick r.bare (wrong_numbers r) r

-- the numbers that were read: `Ok` if there was nothing else
abbrev pub numbers_reply : NumbersRead → Result Numbers Numbers
numbers_reply r = pick r.right (Ok r.numbers) (Err r.numbers)

-- the numbers of a line from a place on
abbrev pub numbers_from : List ℕ → ℕ → Result Numbers Numbers
numbers_from line from = numbers_reply (numbers_end (number_steps no_numbers (drop from line)))
