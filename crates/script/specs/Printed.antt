-- Values that are printed one after the other.
use Rattle.std.specs.Prelude.{ℕ, List, [], ◌∷◌, Option, Some}
use Rattle.std.specs.Fmt.{option_append}

-- each value's text with a space before it, if each is known
abbrev pub all_spaced : {T : Type 0} → (T → Option (List ℕ)) → List T → Option (List ℕ)
all_spaced output [] = Some []
all_spaced output (v ∷ vs) = option_append (option_append (Some (32 ∷ [])) (output v)) (all_spaced output vs)
