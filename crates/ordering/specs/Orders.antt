-- Orders of accesses, and what pairs ask of them; nothing here says how an order is found. Accesses are "numbered from 0".
use Rattle.std.specs.Prelude.{ℕ, suc, ◌<◌, ◌≤◌, ◌≡◌, ◌⊎◌, Bool, true, ◌&&◌, List, [], ◌∷◌, eqb, ltb, length}
use Rattle.ordering.specs.declared.Precedence.{Precedence}
use Rattle.number.specs.Basics.{pick, any_of, count_where}

-- "The first of a pair to come before the second": is it asked that a come before b?
abbrev pub asks : List Precedence → ℕ → ℕ → Bool
asks pairs a b = any_of (λ p. eqb p.first a && eqb p.second b) pairs

-- how often an access stands in an order
abbrev pub times : ℕ → List ℕ → ℕ
times a order = count_where (λ x. eqb x a) order

-- the place of an access in an order; the order's length where it is not there
abbrev pub position : ℕ → List ℕ → ℕ
position a [] = 0
position a (x ∷ xs) = pick (eqb x a) 0 (suc (position a xs))

-- "The order that respects all pairs": it has each of the n accesses once and no other, and each pair's first before its second. (An
-- access that is not there counts as behind all others.)
pub record Respects (n : ℕ) (pairs : List Precedence) (order : List ℕ) : Type 0 where
  pub once : (a : ℕ) → times a order ≡ pick (ltb a n) 1 0
  pub before : (a b : ℕ) → asks pairs a b ≡ true → position a order < position b order

-- "Compared by access number from the left": the same, or smaller at the first place where they differ. (Orders of the same accesses
-- have one length.)
abbrev pub AtMost : List ℕ → List ℕ → Type 0
AtMost [] ys = Unit {0}
AtMost (x ∷ xs) [] = ⊥
AtMost (x ∷ xs) (y ∷ ys) = (x < y) ⊎ ((x ≡ y) × AtMost xs ys)

-- "The order that respects all pairs and is first when orders are compared": against every other that respects them.
pub record First (n : ℕ) (pairs : List Precedence) (order : List ℕ) : Type 0 where
  pub respects : Respects n pairs order
  pub least : (other : List ℕ) → Respects n pairs other → AtMost order other

-- A chain of one or more pairs, each beginning where the one before it ends.
pub data Chain (pairs : List Precedence) : ℕ → ℕ → Type 0 where
  one : {a b : ℕ} → asks pairs a b ≡ true → Chain pairs a b
  more : {a b c : ℕ} → asks pairs a b ≡ true → Chain pairs b c → Chain pairs a c

-- A circle: a chain from an access back to itself. "An access paired with itself is a circle": a chain of one pair is enough.
abbrev pub Circle : List Precedence → Type 0
Circle pairs = (a : ℕ) × Chain pairs a a

-- "A pair naming an access not listed"
abbrev pub NamesUnlisted : ℕ → List Precedence → Type 0
NamesUnlisted n pairs = (a : ℕ) × (b : ℕ) × (asks pairs a b ≡ true) × ((n ≤ a) ⊎ (n ≤ b))

-- "43: more than 32 accesses or 64 pairs, or a pair naming an access not listed". A repeated pair counts each time: "each counts
-- towards the 64".
abbrev pub Outside : ℕ → List Precedence → Type 0
Outside n pairs = (32 < n) ⊎ ((64 < length pairs) ⊎ NamesUnlisted n pairs)
