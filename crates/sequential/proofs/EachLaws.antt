-- Laws of lists: a property of every element, and a relation between every element and each later one.
use mathlib.Core.List.{List, [], ◌∷◌, ◌++◌}
use Rattle.table.specs.RightTables.{Each}

module _ {A : Type 0} where
  -- every element is in R with each later one
  abbrev pub Pairs : (A → A → Type 0) → List A → Type 0
  Pairs R [] = Unit {0}
  Pairs R (x ∷ xs) = Each (R x) xs × Pairs R xs

  pub everywhere : (P : A → Type 0) → ((x : A) → P x) → (xs : List A) → Each P xs
  everywhere P h [] = record {}
  everywhere P h (x ∷ xs) = (h x, everywhere P h xs)

  pub each_weaken : (P Q : A → Type 0) → ((x : A) → P x → Q x) → (xs : List A) → Each P xs → Each Q xs
  each_weaken P Q w [] h = record {}
  each_weaken P Q w (x ∷ xs) h = (w x h.0, each_weaken P Q w xs h.1)

  pub each_both : (P Q R : A → Type 0) → ((x : A) → P x → Q x → R x) → (xs : List A) → Each P xs → Each Q xs → Each R xs
  each_both P Q R w [] h k = record {}
  each_both P Q R w (x ∷ xs) h k = (w x h.0 k.0, each_both P Q R w xs h.1 k.1)

  -- one element among others
  pub each-before : (P : A → Type 0) (xs ys : List A) (x : A) → Each P (xs ++ x ∷ ys) → Each P xs
  each-before P [] ys x h = record {}
  each-before P (y ∷ xs) ys x h = (h.0, each-before P xs ys x h.1)

  pub each_at : (P : A → Type 0) (xs ys : List A) (x : A) → Each P (xs ++ x ∷ ys) → P x
  each_at P [] ys x h = h.0
  each_at P (y ∷ xs) ys x h = each_at P xs ys x h.1

  pub each-change : (P : A → Type 0) (xs ys : List A) (x y : A) → (P x → P y) → Each P (xs ++ x ∷ ys) → Each P (xs ++ y ∷ ys)
  each-change P [] ys x y w h = (w h.0, h.1)
  each-change P (z ∷ xs) ys x y w h = (h.0, each-change P xs ys x y w h.1)

  pub each_more : (P : A → Type 0) (xs : List A) (x : A) → P x → Each P xs → Each P (xs ++ x ∷ [])
  each_more P [] x p h = (p, h)
  each_more P (y ∷ xs) x p h = (h.0, each_more P xs x p h.1)

  module _ (R : A → A → Type 0) where
    pub pairs-more : (xs : List A) (x : A) → ((a : A) → R a x) → Pairs R xs → Pairs R (xs ++ x ∷ [])
    pairs-more [] x f h = (record {}, h)
    pairs-more (y ∷ xs) x f h = (each_more (R y) xs x (f y) h.0, pairs-more xs x f h.1)

    pub pairs-prefix : (xs ys : List A) (x : A) → Pairs R (xs ++ x ∷ ys) → Pairs R xs
    pairs-prefix [] ys x h = record {}
    pairs-prefix (y ∷ xs) ys x h = (each-before (R y) xs ys x h.0, pairs-prefix xs ys x h.1)

    -- what each earlier element is to one
    pub pairs-before : (xs ys : List A) (x : A) → Pairs R (xs ++ x ∷ ys) → Each (λ a. R a x) xs
    pairs-before [] ys x h = record {}
    pairs-before (y ∷ xs) ys x h = (each_at (R y) xs ys x h.0, pairs-before xs ys x h.1)

    -- one element made anew: what earlier ones are to it, and what it is to later ones
    pub pairs-change : (xs ys : List A) (x y : A) → Each (λ a. R a x → R a y) xs → ((z : A) → R x z → R y z)
        → Pairs R (xs ++ x ∷ ys) → Pairs R (xs ++ y ∷ ys)
    pairs-change [] ys x y earlier later h = (each_weaken (R x) (R y) later ys h.0, h.1)
    pairs-change (z ∷ xs) ys x y earlier later h =
        (each-change (R z) xs ys x y earlier.0 h.0, pairs-change xs ys x y earlier.1 later h.1)
