-- What the rule gives, read as a property of the list: each access is the smallest ready one when it is taken. Everything claimed of
-- an order follows from that by going along the list, and one induction over the rule gives the property or else a circle.
use Prim.Native.Nat.{ℕ, zero, suc, ◌≤◌, ◌<◌}
use native.Mathlib.Omega.{arith}
use mathlib.Core.Path.{◌≡◌, refl, sym, ◌∙◌}
use mathlib.Core.Logic.{inl, inr}
use mathlib.Core.Bool.{Bool, true, false, ◌&&◌}
use mathlib.Core.List.{List, [], ◌∷◌}
use mathlib.Core.Option.{none, some}
use lib.Dec.{eqb, ltb}
use borrow.Author.Tests.{eqb-true, eqb-false, eq-eqb, not-true, ltb-true, ltb-false}
use Rattle.number.specs.Basics.{pick}
use Rattle.number.proofs.Both.{and_left, and_right}
use Rattle.ordering.specs.declared.Precedence.{Precedence}
use Rattle.ordering.specs.Orders.{asks, times, position, AtMost, one, Circle}
use Rattle.ordering.specs.Answer.{Waiting, without, ready, next, arrange}
use Rattle.ordering.proofs.Tests.{false-true, seek-passes, seek-least, ready-none-before, not-ready-some-before}
use Rattle.ordering.proofs.Tests.{without_other, tally, tally_none, tally_some, tally-without}
use Rattle.ordering.proofs.Circles.{Leads, preceded-circle}

-- ---- each once

-- those that wait, taken out one by one
abbrev pub Exhausts : Waiting → List ℕ → Type 0
Exhausts w [] = (a : ℕ) → w a ≡ false
Exhausts w (x ∷ xs) = (w x ≡ true) × Exhausts (without x w) xs

pub exhausts-times : (w : Waiting) (xs : List ℕ) → Exhausts w xs → (a : ℕ) → times a xs ≡ pick (w a) 1 0
exhausts-times w [] h a = rw (h a)
exhausts-times w (x ∷ xs) h a = go (eqb x a) refl (exhausts-times (without x w) xs h.1 a)
  where
    go : (t : Bool) → eqb x a ≡ t → times a xs ≡ pick (without x w a) 1 0 → pick t (suc (times a xs)) (times a xs) ≡ pick (w a) 1 0
    go true e rest = let is = eqb-true x a e in rw (rest, ← is, h.0, eq-eqb x x refl)
    go false e rest = rest ∙ rw (without_other w x a (eqb-false x a e))

pub times-exhausts : (w : Waiting) (xs : List ℕ) → ((a : ℕ) → times a xs ≡ pick (w a) 1 0) → Exhausts w xs
times-exhausts w [] h = λ a. go a (w a) refl (h a)
  where
    go : (a : ℕ) (t : Bool) → w a ≡ t → times a [] ≡ pick t 1 0 → w a ≡ false
    go a true e k = let z : ⊥ = omega arith in absurd z
    go a false e k = e
times-exhausts w (x ∷ xs) h = (waits (w x) refl (h x), times-exhausts (without x w) xs λ a. others a (eqb x a) refl (h a))
  where
    waits : (t : Bool) → w x ≡ t → times x (x ∷ xs) ≡ pick t 1 0 → w x ≡ true
    waits true e k = e
    waits false e k = let z : suc (times x xs) ≡ 0 = rw (eq-eqb x x refl) at k in let z : ⊥ = omega arith in absurd z

    both : (t : Bool) (m : ℕ) → suc m ≡ pick t 1 0 → m ≡ pick (t && false) 1 0
    both true m k = omega arith
    both false m k = let z : ⊥ = omega arith in absurd z

    others : (a : ℕ) (t : Bool) → eqb x a ≡ t → pick t (suc (times a xs)) (times a xs) ≡ pick (w a) 1 0 → times a xs ≡ pick (without x w a) 1 0
    others a true e k = rw e (both (w a) (times a xs) k)
    others a false e k = k ∙ rw (without_other w x a (eqb-false x a e))

-- ---- the list that the rule gives

module _ (pairs : List Precedence) where
  -- each is ready when it is taken, and the smallest that is
  abbrev pub Arranged : Waiting → List ℕ → Type 0
  Arranged w [] = (a : ℕ) → w a ≡ false
  Arranged w (x ∷ xs) = (ready pairs w x ≡ true) × ((b : ℕ) → ready pairs w b ≡ true → x ≤ b) × Arranged (without x w) xs

  -- the pairs among those that wait
  abbrev pub PairsKept : Waiting → List ℕ → Type 0
  PairsKept w order = (a b : ℕ) → w a ≡ true → w b ≡ true → asks pairs a b ≡ true → position a order < position b order

  pub arranged-exhausts : (w : Waiting) (xs : List ℕ) → Arranged w xs → Exhausts w xs
  arranged-exhausts w [] h = h
  arranged-exhausts w (x ∷ xs) h = (and_left (w x) _ h.0, arranged-exhausts (without x w) xs h.2)

  pub arranged-ordered : (w : Waiting) (xs : List ℕ) → Arranged w xs → PairsKept w xs
  arranged-ordered w [] h = λ a b wa wb k. false-true (sym (h a) ∙ wa)
  arranged-ordered w (x ∷ xs) h = λ a b wa wb k. go a b wa wb k (eqb x a) refl (eqb x b) refl (arranged-ordered (without x w) xs h.2 a b)
    where
      go : (a b : ℕ) → w a ≡ true → w b ≡ true → asks pairs a b ≡ true → (s : Bool) → eqb x a ≡ s → (t : Bool) → eqb x b ≡ t
          → (without x w a ≡ true → without x w b ≡ true → asks pairs a b ≡ true → position a xs < position b xs)
          → pick s 0 (suc (position a xs)) < pick t 0 (suc (position b xs))
      go a b wa wb k s d true e rest =
          let is = eqb-true x b e in
          false-true (sym (ready-none-before w x a pairs h.0 (rw is k)) ∙ wa)
      go a b wa wb k true d false e rest = omega arith
      go a b wa wb k false d false e rest =
          let less = rest (without_other w x a (eqb-false x a d) ∙ wa) (without_other w x b (eqb-false x b e) ∙ wb) k in omega arith

  -- the first of an order that respects the pairs is ready
  ordered-ready : (w : Waiting) (y : ℕ) (ys : List ℕ) → w y ≡ true → PairsKept w (y ∷ ys) → ready pairs w y ≡ true
  ordered-ready w y ys waits h = go (ready pairs w y) refl
    where
      go : (t : Bool) → ready pairs w y ≡ t → ready pairs w y ≡ true
      go true e = e
      go false e =
          let (a, wa, k) = not-ready-some-before w y pairs waits e in
          let less : position a (y ∷ ys) < 0 = rw (eq-eqb y y refl) at (h a y wa waits k) in
          let z : ⊥ = omega arith in absurd z

  ordered-rest : (w : Waiting) (y : ℕ) (ys : List ℕ) → PairsKept w (y ∷ ys) → PairsKept (without y w) ys
  ordered-rest w y ys h a b wa wb k =
      let less = h a b (and_left (w a) _ wa) (and_left (w b) _ wb) k in
      let less = rw (not-true (eqb y a) (and_right (w a) _ wa), not-true (eqb y b) (and_right (w b) _ wb)) at less in
      omega arith

  pub arranged-first : (w : Waiting) (xs ys : List ℕ) → Arranged w xs → Exhausts w ys → PairsKept w ys → AtMost xs ys
  arranged-first w [] ys h e o = record {}
  arranged-first w (x ∷ xs) [] h e o = false-true (sym (e x) ∙ and_left (w x) _ h.0)
  arranged-first w (x ∷ xs) (y ∷ ys) h e o = go (eqb x y) refl (λ e o. arranged-first (without x w) xs ys h.2 e o)
    where
      go : (t : Bool) → eqb x y ≡ t → (Exhausts (without x w) ys → PairsKept (without x w) ys → AtMost xs ys) → AtMost (x ∷ xs) (y ∷ ys)
      go true d rest = let is = eqb-true x y d in inr (is, rest (rw is e.1) (rw is (ordered-rest w y ys o)))
      go false d rest =
          let other = eqb-false x y d in
          let least = h.1 y (ordered-ready w y ys e.0 o) in
          inl (omega arith)

-- ---- one induction over the rule

module _ (n : ℕ) (pairs : List Precedence) where
  pub data Outcome (k : ℕ) (w : Waiting) : Type 0 where
    arranged : (order : List ℕ) → arrange n pairs k w ≡ some order → Arranged pairs w order → Outcome k w
    stuck : arrange n pairs k w ≡ none → Circle pairs → Outcome k w

  module _ (w : Waiting) (below : (a : ℕ) → w a ≡ true → a < n) where
    none_waits_lem : tally w n ≡ 0 → (a : ℕ) → w a ≡ false
    none_waits_lem empty a = go (w a) refl
      where
        go : (t : Bool) → w a ≡ t → w a ≡ false
        go true e = tally_none w n empty a (below a e)
        go false e = e

    -- some wait and none is ready
    stuck-circle : (k : ℕ) → tally w n ≡ suc k → n ≤ next n pairs w → Circle pairs
    stuck-circle k many none-ready =
        let (b, low, waits) = tally_some w n k many in
        preceded-circle pairs w n (λ c low waits. go c low waits (ready pairs w c) refl) b low waits
      where
        go : (c : ℕ) → c < n → w c ≡ true → (t : Bool) → ready pairs w c ≡ t → Leads pairs w n c
        go c low waits true e = let least = seek-least (ready pairs w) n 0 c (omega arith) e in let z : ⊥ = omega arith in absurd z
        go c low waits false e = let (a, wa, k) = not-ready-some-before w c pairs waits e in (a, below a wa, wa, one k)

    taken : (k : ℕ) → ltb (next n pairs w) n ≡ true → Outcome k (without (next n pairs w) w) → Outcome (suc k) w
    taken k e (arranged order is h) =
        let low = ltb-true (next n pairs w) n e in
        arranged (next n pairs w ∷ order) (rw (e, is))
        (seek-passes (ready pairs w) n 0 (omega arith), λ b r. seek-least (ready pairs w) n 0 b (omega arith) r, h)
    taken k e (stuck is l) = stuck (rw (e, is)) l

  pub arrange-outcome : (k : ℕ) (w : Waiting) → ((a : ℕ) → w a ≡ true → a < n) → tally w n ≡ k → Outcome k w
  arrange-outcome zero w below many = arranged [] refl (none_waits_lem w below many)
  arrange-outcome (suc k) w below many = go (ltb (next n pairs w) n) refl (λ below many. arrange-outcome k (without (next n pairs w) w) below many)
    where
      go : (t : Bool) → ltb (next n pairs w) n ≡ t
          → (((a : ℕ) → without (next n pairs w) w a ≡ true → a < n) → tally (without (next n pairs w) w) n ≡ k → Outcome k (without (next n pairs w) w))
          → Outcome (suc k) w
      go true e rest =
          let low = ltb-true (next n pairs w) n e in
          let is = seek-passes (ready pairs w) n 0 (omega arith) in
          let fewer = tally-without w (next n pairs w) n low (and_left (w (next n pairs w)) _ is) in
          taken w below k e (rest (λ a h. below a (and_left (w a) _ h)) (omega arith))
      go false e rest = stuck (rw e) (stuck-circle w below k many (ltb-false (next n pairs w) n e))
