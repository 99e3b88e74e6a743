-- The lines of the printed run, as bytes.
use Rattle.std.specs.Prelude.{ℕ, List, [], ◌∷◌, ◌++◌}
use Rattle.number.specs.Texts.{bytes}

-- "One space parts fields": a line of fields, ended by a line feed.
abbrev pub more_fields : List (List ℕ) → List ℕ
more_fields [] = bytes "\n"
more_fields (f ∷ fs) = bytes " " ++ f ++ more_fields fs

abbrev pub line : List ℕ → List (List ℕ) → List ℕ
line f fs = f ++ more_fields fs
