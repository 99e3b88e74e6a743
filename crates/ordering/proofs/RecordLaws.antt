-- Laws of the records: the pairs handed in, by their places, and the answer read back.
use Prim.Native.Nat.{ℕ, ◌<◌}
use mathlib.Core.Path.{◌≡◌, refl}
use mathlib.Core.Bool.{Bool, ◌&&◌}
use mathlib.Core.List.{List}
use lib.ListN.{length, get_or}
use Rattle.std.specs.List.{list_all}
use Rattle.std.proofs.lemmas.List.Recursion.{same_from_clauses}
use Rattle.number.specs.Basics.{all_of}
use Rattle.number.proofs.HeldLaws.{held-here, held-length}
use Rattle.ordering.specs.declared.Precedences.{Precedences}
use Rattle.ordering.specs.Records.{blank_precedence, precedences_of}

module _ (pairs : Precedences) where
  pub pairs-length : length (precedences_of pairs) ≡ pairs.count
  pairs-length = held-length blank_precedence pairs.count pairs.pairs

  pub pair-here : (i : ℕ) → i < pairs.count → get_or (precedences_of pairs) i blank_precedence ≡ get_or pairs.pairs i blank_precedence
  pair-here i low = held-here blank_precedence pairs.count pairs.pairs i low

-- std's word for `all_of`
pub list_all-is : {A : Type 0} (test : A → Bool) (xs : List A) → list_all test xs ≡ all_of test xs
list_all-is test = same_from_clauses (list_all test) (all_of test) (λ x rest. test x && rest) refl (λ _ _. refl) (λ _ _. refl)
