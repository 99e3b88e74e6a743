-- Laws of tests, of the search, and of counting those that wait.
use Prim.Native.Nat.{ℕ, zero, suc, ◌+◌, ◌≤◌, ◌<◌}
use native.Mathlib.Omega.{arith}
use mathlib.Core.Path.{◌≡◌, refl, sym, ap, ◌∙◌}
use mathlib.Core.Bool.{Bool, true, false, not, ◌&&◌, ◌||◌, false≢true}
use mathlib.Core.List.{List, [], ◌∷◌}
use lib.Dec.{eqb, ltb}
use borrow.Author.Tests.{eqb-true, eqb-false, eq-eqb, ne_eqb, lt-ltb, not-true, not-false}
use Rattle.number.specs.Basics.{pick, any_of}
use Rattle.number.proofs.Both.{and_left, and_right}
use Rattle.ordering.specs.declared.Precedence.{Precedence}
use Rattle.ordering.specs.Orders.{asks}
use Rattle.ordering.specs.Answer.{seek, Waiting, without, blocks, ready}

pub false-true : {A : Type 0} → false ≡ true → A
false-true e = absurd (false≢true e)

pub or_true : (a : Bool) → a || true ≡ true
or_true true = refl
or_true false = refl

pick-suc : (t : Bool) (a b : ℕ) → pick t (suc a) (suc b) ≡ suc (pick t a b)
pick-suc true a b = refl
pick-suc false a b = refl

-- ---- the search

module _ (p : ℕ → Bool) where
  pub seek-passes : (k i : ℕ) → seek p k i < i + k → p (seek p k i) ≡ true
  seek-passes zero i h = let z : ⊥ = omega arith in absurd z
  seek-passes (suc k) i h = go (p i) refl h (λ l. seek-passes k (suc i) l)
    where
      go : (t : Bool) → p i ≡ t → pick t i (seek p k (suc i)) < i + suc k
          → (seek p k (suc i) < suc i + k → p (seek p k (suc i)) ≡ true) → p (pick t i (seek p k (suc i))) ≡ true
      go true e h rest = e
      go false e h rest = rest (omega arith)

  pub seek-least : (k i b : ℕ) → i ≤ b → p b ≡ true → seek p k i ≤ b
  seek-least zero i b h t = h
  seek-least (suc k) i b h t = go (p i) refl (λ l. seek-least k (suc i) b l t)
    where
      go : (s : Bool) → p i ≡ s → (suc i ≤ b → seek p k (suc i) ≤ b) → pick s i (seek p k (suc i)) ≤ b
      go true e rest = h
      go false e rest = let other : i ≡ b → ⊥ = λ q. false-true (sym e ∙ ap p q ∙ t) in rest (omega arith)

-- ---- which are ready

module _ (w : Waiting) (b : ℕ) where
  -- an access that is asked to come before b and waits holds b back
  asked-blocks : (a : ℕ) (pairs : List Precedence) → asks pairs a b ≡ true → w a ≡ true → any_of (blocks w b) pairs ≡ true
  asked-blocks a [] k waits = k
  asked-blocks a (p ∷ ps) k waits = go (eqb p.first a) refl (eqb p.second b) refl k (λ k. asked-blocks a ps k waits)
    where
      go : (s : Bool) → eqb p.first a ≡ s → (t : Bool) → eqb p.second b ≡ t → (s && t) || asks ps a b ≡ true
          → (asks ps a b ≡ true → any_of (blocks w b) ps ≡ true) → (w p.first && t) || any_of (blocks w b) ps ≡ true
      go false e t d k rest = rw (rest k) (or_true (w p.first && t))
      go true e false d k rest = rw (rest k) (or_true (w p.first && false))
      go true e true d k rest = rw (eqb-true p.first a e, waits)

  -- and only such a one does
  blocked-asks : (pairs : List Precedence) → any_of (blocks w b) pairs ≡ true → (a : ℕ) × (w a ≡ true) × (asks pairs a b ≡ true)
  blocked-asks [] h = false-true h
  blocked-asks (p ∷ ps) h = go (blocks w b p) refl h (λ h. blocked-asks ps h)
    where
      go : (t : Bool) → blocks w b p ≡ t → t || any_of (blocks w b) ps ≡ true
          → (any_of (blocks w b) ps ≡ true → (a : ℕ) × (w a ≡ true) × (asks ps a b ≡ true)) → (a : ℕ) × (w a ≡ true) × (asks (p ∷ ps) a b ≡ true)
      go true e h rest =
          (p.first, and_left (w p.first) (eqb p.second b) e, rw (eq-eqb p.first p.first refl, and_right (w p.first) (eqb p.second b) e))
      go false e h rest = let (a, waits, k) = rest h in (a, waits, rw k (or_true (eqb p.first a && eqb p.second b)))

  pub ready-none-before : (a : ℕ) (pairs : List Precedence) → ready pairs w b ≡ true → asks pairs a b ≡ true → w a ≡ false
  ready-none-before a pairs h k = go (w a) refl
    where
      go : (t : Bool) → w a ≡ t → w a ≡ false
      go true e = false-true (sym (not-true _ (and_right (w b) (not (any_of (blocks w b) pairs)) h)) ∙ asked-blocks a pairs k e)
      go false e = e

  pub not-ready-some-before : (pairs : List Precedence) → w b ≡ true → ready pairs w b ≡ false → (a : ℕ) × (w a ≡ true) × (asks pairs a b ≡ true)
  not-ready-some-before pairs waits h = blocked-asks pairs (not-false _ (rw waits at h))

-- ---- how many wait

abbrev pub tally : Waiting → ℕ → ℕ
tally w zero = 0
tally w (suc n) = pick (w n) (suc (tally w n)) (tally w n)

pub tally_none : (w : Waiting) (n : ℕ) → tally w n ≡ 0 → (a : ℕ) → a < n → w a ≡ false
tally_none w zero h a low = let z : ⊥ = omega arith in absurd z
tally_none w (suc n) h a low = go (w n) refl h (eqb a n) refl (λ h l. tally_none w n h a l)
  where
    go : (t : Bool) → w n ≡ t → pick t (suc (tally w n)) (tally w n) ≡ 0 → (s : Bool) → eqb a n ≡ s → (tally w n ≡ 0 → a < n → w a ≡ false) → w a ≡ false
    go true e h s d rest = let z : ⊥ = omega arith in absurd z
    go false e h true d rest = rw (eqb-true a n d) e
    go false e h false d rest = let other = eqb-false a n d in rest h (omega arith)

pub tally_some : (w : Waiting) (n k : ℕ) → tally w n ≡ suc k → (a : ℕ) × (a < n) × (w a ≡ true)
tally_some w zero k h = let z : ⊥ = omega arith in absurd z
tally_some w (suc n) k h = go (w n) refl h (λ h. tally_some w n k h)
  where
    go : (t : Bool) → w n ≡ t → pick t (suc (tally w n)) (tally w n) ≡ suc k
        → (tally w n ≡ suc k → (a : ℕ) × (a < n) × (w a ≡ true)) → (a : ℕ) × (a < suc n) × (w a ≡ true)
    go true e h rest = (n, omega arith, e)
    go false e h rest = let (a, low, waits) = rest h in (a, omega arith, waits)

pub without_other : (w : Waiting) (a b : ℕ) → (a ≡ b → ⊥) → without a w b ≡ w b
without_other w a b other = rw (ne_eqb a b other) (go (w b))
  where
    go : (t : Bool) → t && true ≡ t
    go true = refl
    go false = refl

tally_past : (w : Waiting) (a n : ℕ) → n ≤ a → tally (without a w) n ≡ tally w n
tally_past w a zero h = refl
tally_past w a (suc n) h = rw (without_other w a n (λ e. omega arith), tally_past w a n (omega arith))

pub tally-without : (w : Waiting) (a n : ℕ) → a < n → w a ≡ true → tally w n ≡ suc (tally (without a w) n)
tally-without w a zero low waits = let z : ⊥ = omega arith in absurd z
tally-without w a (suc n) low waits = go (eqb a n) refl (λ l. tally-without w a n l waits)
  where
    go : (t : Bool) → eqb a n ≡ t → (a < n → tally w n ≡ suc (tally (without a w) n)) → tally w (suc n) ≡ suc (tally (without a w) (suc n))
    go true e rest = let is = eqb-true a n e in rw (← is, waits, eq-eqb a a refl, tally_past w a a (omega arith))
    go false e rest =
        let other = eqb-false a n e in
        rw (without_other w a n other, rest (omega arith)) (pick-suc (w n) (suc (tally (without a w) n)) (tally (without a w) n))

pub tally_all : (m n : ℕ) → n ≤ m → tally (λ a. ltb a m) n ≡ n
tally_all m zero h = refl
tally_all m (suc n) h = rw (lt-ltb n m h, tally_all m n (omega arith))
