-- Laws of `all_of`: of one element, and along a list.
use Prim.Native.Nat.{ℕ, zero, suc, ◌+◌, ◌≤◌, ◌<◌}
use native.Mathlib.Omega.{arith}
use native.Mathlib.Numerals.{add-one}
use mathlib.Core.Path.{◌≡◌, refl, ◌∙◌}
use mathlib.Core.Bool.{Bool, true, false}
use mathlib.Core.List.{List, [], ◌∷◌}
use lib.ListN.{length, get_or, drop, drop_of_length-le}
use lib.Seq.{drop-cons}
use Rattle.number.specs.Basics.{all_of}
use Rattle.number.proofs.Both.{and_left, and_right}

pub all_at : {A : Type 0} (p : A → Bool) (xs : List A) (i : ℕ) (d : A) → all_of p xs ≡ true → i < length xs → p (get_or xs i d) ≡ true
all_at p [] i d h low = absurd (omega arith)
all_at p (x ∷ xs) zero d h low = and_left (p x) (all_of p xs) h
all_at p (x ∷ xs) (suc i) d h low = all_at p xs i d (and_right (p x) (all_of p xs) h) (omega arith)

-- all elements pass just where those from i on do
pub record AllYet {A : Type 0} (p : A → Bool) (xs : List A) (i : ℕ) : Type 0 where
  pub is : all_of p xs ≡ all_of p (drop i xs)

pub all_none : {A : Type 0} {p : A → Bool} {xs : List A} → AllYet p xs 0
all_none = record { is = refl }

module _ {A : Type 0} {p : A → Bool} {xs : List A} {i : ℕ} (so : AllYet p xs i) where
  pub all-on : (d : A) → i < length xs → p (get_or xs i d) ≡ true → AllYet p xs (i + 1)
  all-on d low e = record { is = so.is ∙ rw (drop-cons xs i d low, e, add-one) }

  pub all-stop : (d : A) → i < length xs → p (get_or xs i d) ≡ false → all_of p xs ≡ false
  all-stop d low e = so.is ∙ rw (drop-cons xs i d low, e)

  pub all_end : length xs ≤ i → all_of p xs ≡ true
  all_end high = so.is ∙ rw (drop_of_length-le xs {i = i} high)
