-- Walks over a table's groups, from the first on: each invariant is a record, so that a law finds its arguments from it, and `here` says
-- which group the walk has come to. Walks over a side's entries are std's, whose words come last.
use Rattle.std.proofs.Common.{◌≡◌, ℕ, suc, ◌+◌, ◌≤◌, Bool, true, false, not, cond, ltb, Option, Some, None, List, [], ◌∷◌, map, length}
use Rattle.std.proofs.Common.{drop, refl, ◌∙◌, one-add, arith, ltb-true, ltb-false}
use Rattle.std.specs.List.{list_all, list_any, position_or_len, prefix_len}
use lib.ListN.{length-map}
use Rattle.number.specs.Basics.{pick, any_of, all_of, front_while}
use Rattle.queue.specs.Internal.{FirstPlace}
use Rattle.queue.specs.Contents.{first_place}

-- ---- every entry passes
pub record AllYet {B : Type 0} (p : B → Bool) (l : List B) (i : ℕ) : Type 0 where
  pub is : all_of p l ≡ all_of p (drop i l)

module _ {B : Type 0} {p : B → Bool} {l : List B} {i : ℕ} (w : AllYet p l i) where
  module _ {x : B} (here : drop i l ≡ x ∷ drop (i + 1) l) where
    pub all-on : p x ≡ true → AllYet p l (i + 1)
    all-on e = record { is = w.is ∙ rw (here, e) }

    pub all-stop : p x ≡ false → false ≡ all_of p l
    all-stop e = rw (w.is, here, e)

-- ---- no entry passes
pub record NoneYet {B : Type 0} (p : B → Bool) (l : List B) (i : ℕ) : Type 0 where
  pub is : any_of p l ≡ any_of p (drop i l)

module _ {B : Type 0} {p : B → Bool} {l : List B} {i : ℕ} (w : NoneYet p l i) where
  module _ {x : B} (here : drop i l ≡ x ∷ drop (i + 1) l) where
    pub none-on : p x ≡ false → NoneYet p l (i + 1)
    none-on e = record { is = w.is ∙ rw (here, e) }

    pub none-stop : p x ≡ true → true ≡ any_of p l
    none-stop e = rw (w.is, here, e)

-- ---- std's words for these walks, over numbers that `f` reads
module _ {A B : Type 0} (p : B → Bool) (f : A → B) where
  pub all-read : (l : List A) → list_all (λ x. p (f x)) l ≡ all_of p (map f l)
  all-read [] = refl
  all-read (x ∷ l) = rw (all-read l)

  pub any-read : (l : List A) → list_any (λ x. p (f x)) l ≡ any_of p (map f l)
  any-read [] = refl
  any-read (x ∷ l) = rw (any-read l)

  first-read : (l : List A) → position_or_len (λ x. p (f x)) l ≡ first_place p (map f l)
  first-read [] = refl
  first-read (x ∷ l) = go (p (f x)) (first-read l)
    where
      go : (t : Bool) → position_or_len (λ x. p (f x)) l ≡ first_place p (map f l)
          → cond (not t) (1 + position_or_len (λ x. p (f x)) l) 0 ≡ pick t 0 (suc (first_place p (map f l)))
      go true h = refl
      go false h = rw (h, one-add)

  pub front-read : (l : List A) → prefix_len (λ x. p (f x)) l ≡ length (front_while p (map f l))
  front-read [] = refl
  front-read (x ∷ l) = go (p (f x)) (front-read l)
    where
      go : (t : Bool) → prefix_len (λ x. p (f x)) l ≡ length (front_while p (map f l))
          → cond t (1 + prefix_len (λ x. p (f x)) l) 0 ≡ length (pick t (f x ∷ front_while p (map f l)) [])
      go true h = rw (h, one-add)
      go false h = refl

  -- what `position` answers
  pub first-found : (l : List A) {r : Option ℕ} → let at = position_or_len (λ x. p (f x)) l in
      r ≡ cond (ltb at (length l)) (Some at) None → FirstPlace p (map f l) r
  first-found l e = rw (e, first-read l) (go (ltb (first_place p (map f l)) (length l)) refl)
    where
      most : (xs : List B) → first_place p xs ≤ length xs
      most [] = omega arith
      most (x ∷ xs) = at (p x) (most xs)
        where
          at : (t : Bool) → first_place p xs ≤ length xs → pick t 0 (suc (first_place p xs)) ≤ suc (length xs)
          at true h = omega arith
          at false h = omega arith

      go : (t : Bool) → ltb (first_place p (map f l)) (length l) ≡ t → FirstPlace p (map f l) (cond t (Some (first_place p (map f l))) None)
      go true h = (refl, rw length-map (ltb-true _ _ h))
      go false h = omega (arith, most (map f l), ltb-false _ _ h, length-map l f)
