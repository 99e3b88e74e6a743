-- Where a part of a line ends, and which lines are no commands.
use Rattle.std.specs.Prelude.{ℕ, ◌+◌, ◌-◌, ◌≤◌, ◌≡◌, Bool, true, false, List, [], ◌∷◌, eqb, nat_eq, length, get_or, drop}
use Rattle.std.specs.List.{position_or_len}

-- a where the test holds, else b
abbrev pub pick : {A : Type 0} → Bool → A → A → A
pick true a b = a
pick false a b = b

-- what is read of some bytes, one step for each
unfoldable pub read_all : {A : Type 0} → (A → ℕ → A) → A → List ℕ → A
read_all step r [] = r
read_all step r (b ∷ s) = read_all step (step r b) s

-- how many bytes stand before the first such byte, or before the end
abbrev pub until : ℕ → List ℕ → ℕ
until byte l = position_or_len (λ b. nat_eq b byte) l

-- the place of the first such byte from a place on, or the end
abbrev pub next_byte : List ℕ → ℕ → ℕ → ℕ
next_byte text from byte = from + until byte (drop from text)

-- that place, which lies within the text where the first does
pub record NextByte (text : List ℕ) (from byte r : ℕ) : Type 0 where
  pub is : r ≡ next_byte text from byte
  pub after : from ≤ r
  pub within : r ≤ length text + (from - length text)

-- a line that begins with a number sign, or has nothing, is no command
abbrev pub is_text : List ℕ → Bool
is_text line = pick (eqb (length line) 0) true (eqb (get_or line 0 0) 35)

-- the lines of a text: a line feed ends one, and so does the end of the text if something stands before it
abbrev pub begun_by : ℕ → List (List ℕ) → List (List ℕ)
begun_by b [] = (b ∷ []) ∷ []
begun_by b (line ∷ lines) = (b ∷ line) ∷ lines

unfoldable pub lines_in : List ℕ → List (List ℕ)
lines_in [] = []
lines_in (b ∷ s) = pick (nat_eq b 10) ([] ∷ lines_in s) (begun_by b (lines_in s))
