-- Laws of what is printed one after the other.
use Rattle.std.proofs.Common.{◌≡◌, ℕ, List, [], ◌∷◌, ◌++◌, refl, sym, ap, ◌∙◌, append_assoc, append-nil, Option, Some, None}
use Rattle.std.specs.Fmt.{option_append}
use Rattle.std.specs.Option.{IfSome}
use Rattle.std.specs.Io.KnownBytes.{Appends}
use Rattle.script.specs.Printed.{all_spaced}

-- what two prints append
pub appends_both : (a b c : Option (List ℕ)) (xs ys : List ℕ) → Appends a b xs → Appends b c ys → Appends a c (xs ++ ys)
appends_both None b c xs ys h k = tt
appends_both (Some a) None c xs ys h k = absurd h
appends_both (Some a) (Some b) None xs ys h k = absurd k
appends_both (Some a) (Some b) (Some c) xs ys h k = k ∙ ap (λ l. l ++ ys) h ∙ append_assoc a xs ys

-- one value more: its space, and its text if it is known
pub appends_value : (a b c d : Option (List ℕ)) (l o : Option (List ℕ)) → IfSome l (Appends a b) → Appends b c (32 ∷ []) → IfSome o (Appends c d)
    → IfSome (option_append l (option_append (Some (32 ∷ [])) o)) (Appends a d)
appends_value a b c d None o h k m = tt
appends_value a b c d (Some xs) None h k m = tt
appends_value a b c d (Some xs) (Some ys) h k m = appends_both a b d xs (32 ∷ ys) h (appends_both b c d (32 ∷ []) ys k m)

pub all_spaced-append : {T : Type 0} (output : T → Option (List ℕ)) (vs : List T) (v : T)
    → all_spaced output (vs ++ v ∷ []) ≡ option_append (all_spaced output vs) (option_append (Some (32 ∷ [])) (output v))
all_spaced-append output [] v = last (output v)
  where
    last : (o : Option (List ℕ)) → option_append (option_append (Some (32 ∷ [])) o) (Some []) ≡ option_append (Some []) (option_append (Some (32 ∷ [])) o)
    last None = refl
    last (Some ys) = rw append-nil
all_spaced-append output (w ∷ vs) v = rw (all_spaced-append output vs v) (assoc (output w) (all_spaced output vs) (output v))
  where
    assoc : (p q r : Option (List ℕ)) → option_append (option_append (Some (32 ∷ [])) p) (option_append q (option_append (Some (32 ∷ [])) r))
        ≡ option_append (option_append (option_append (Some (32 ∷ [])) p) q) (option_append (Some (32 ∷ [])) r)
    assoc None q r = refl
    assoc (Some a) None r = refl
    assoc (Some a) (Some b) None = refl
    assoc (Some a) (Some b) (Some c) = ap Some (sym (append_assoc (32 ∷ a) b (32 ∷ c)))
