-- A group's program order holds the group's loads and its stores, each in the order of their pairs.
use Prim.Native.Nat.{ℕ, suc}
use mathlib.Core.Path.{◌≡◌, refl, ap, ◌∙◌}
use mathlib.Core.Bool.{Bool, true, false}
use mathlib.Core.List.{List, [], ◌∷◌, ◌++◌, map, append-nil}
use Rattle.table.specs.declared.Pair.{Pair}
use Rattle.number.specs.Basics.{pick, front_while, after_while}
use Rattle.table.specs.Group.{GroupPairs, Access, load, store, is_load, is_store, pairs_where, before_store, order_from, order}

pub front_while-after_while : {A : Type 0} (p : A → Bool) (xs : List A) → front_while p xs ++ after_while p xs ≡ xs
front_while-after_while p [] = refl
front_while-after_while {A} p (x ∷ xs) = go (p x) (front_while-after_while p xs)
  where
    go : (b : Bool) → front_while p xs ++ after_while p xs ≡ xs → pick b (x ∷ front_while p xs) [] ++ pick b (after_while p xs) (x ∷ xs) ≡ x ∷ xs
    go true h = ap (λ (l : List A). x ∷ l) h
    go false h = refl

-- the loads among the accesses are these, and the stores are those
abbrev Holds : List Access → List Pair → List Pair → Type 0
Holds accesses loads stores = (pairs_where is_load accesses ≡ loads) × (pairs_where is_store accesses ≡ stores)

loads_first : (ls loads stores : List Pair) (rest : List Access) → Holds rest loads stores → Holds (map load ls ++ rest) (ls ++ loads) stores
loads_first [] loads stores rest h = h
loads_first (l ∷ ls) loads stores rest h = let (a, b) = loads_first ls loads stores rest h in (ap (λ (t : List Pair). l ∷ t) a, b)

order_from_lem : (j : ℕ) (ls ss : List Pair) → Holds (order_from j ls ss) ls ss
order_from_lem j ls [] = rw (append-nil ls, append-nil (map load ls)) at (loads_first ls [] [] [] (refl, refl))
order_from_lem j ls (s ∷ ss) =
    let after = after_while (before_store j) ls in
    let (a, b) = order_from_lem (suc j) after ss in
    let rest = store s ∷ order_from (suc j) after ss in
    let (c, d) = loads_first (front_while (before_store j) ls) after (s ∷ ss) rest (a, ap (λ (t : List Pair). s ∷ t) b) in
    (c ∙ front_while-after_while (before_store j) ls, d)

pub order-pairs : (g : GroupPairs) → (pairs_where is_load (order g) ≡ g.loads) × (pairs_where is_store (order g) ≡ g.stores)
order-pairs g = order_from_lem 0 g.loads g.stores
