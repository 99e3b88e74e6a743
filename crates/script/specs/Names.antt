-- A word among names.
use Rattle.std.specs.Prelude.{ℕ, List, [], ◌∷◌, Option, Some, None}
use Rattle.std.specs.Str.{bytes_eq}
use Rattle.script.specs.Lines.{pick}

-- what stands beside the first name that is the word, each entry with its name and what stands beside it
abbrev pub named_in : {E T : Type 0} → (E → List ℕ) → (E → T) → List ℕ → List E → Option T
named_in name value word [] = None
named_in name value word (e ∷ es) = pick (bytes_eq (name e) word) (Some (value e)) (named_in name value word es)
