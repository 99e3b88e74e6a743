-- Texts as bytes: string literals, and numbers in decimal.
use Rattle.std.specs.Prelude.{ℕ, zero, suc, ◌+◌, ◌/◌, ◌%◌, List, [], ◌∷◌, ◌++◌, ltb}
use Prim.Native.Char.{code}
use Prim.Native.String.{String, [] as []ˢ, ◌∷◌ as ◌∷ˢ◌}
use Rattle.number.specs.Basics.{pick}

-- A text as its bytes. All texts are ASCII, where a character's code is its byte.
abbrev pub bytes : String → List ℕ
bytes []ˢ = []
bytes (c ∷ˢ s) = code c ∷ bytes s

-- A number in decimal: no leading zero, and 0 is one digit. Here one digit, and up to `more` before it.
unfoldable pub digits_up_to : ℕ → ℕ → List ℕ
digits_up_to zero n = (48 + n % 10) ∷ []
digits_up_to (suc more) n = let high = digits_up_to more (n / 10) in pick (ltb n 10) ((48 + n) ∷ []) (high ++ (48 + n % 10) ∷ [])

-- twenty digits hold every number of 64 bits
abbrev pub decimal : ℕ → List ℕ
decimal = digits_up_to 19
