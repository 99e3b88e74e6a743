-- Where each of finitely many has one before it among them, there is a circle. No pigeonhole: leave the largest number out and let
-- the one before it stand in for it. Chains can be joined, so each of the others still has one before it among the others.
use Prim.Native.Nat.{ℕ, zero, suc, ◌<◌}
use native.Mathlib.Omega.{arith}
use mathlib.Core.Path.{◌≡◌, refl, sym, ap, ◌∙◌}
use mathlib.Core.Bool.{Bool, true, false}
use mathlib.Core.List.{List}
use lib.Dec.{eqb}
use borrow.Author.Tests.{eqb-true, eqb-false}
use Rattle.ordering.specs.declared.Precedence.{Precedence}
use Rattle.ordering.specs.Orders.{position, Respects, Chain, one, more, Circle}
use Rattle.ordering.specs.Answer.{Waiting}
use Rattle.ordering.proofs.Tests.{false-true}

module _ (pairs : List Precedence) where
  pub chain-join : {a b c : ℕ} → Chain pairs a b → Chain pairs b c → Chain pairs a c
  chain-join (one h) l = more h l
  chain-join (more h k) l = more h (chain-join k l)

  -- along a chain the position grows, so no order respects a circle
  pub chain-position : {a b : ℕ} (n : ℕ) (order : List ℕ) → Respects n pairs order → Chain pairs a b → position a order < position b order
  chain-position n order h (one {a} {b} k) = h.before a b k
  chain-position n order h (more {a} {b} k l) = let now = h.before a b k in let later = chain-position n order h l in omega arith

  pub circle-no-order : (n : ℕ) (order : List ℕ) → Respects n pairs order → Circle pairs → ⊥
  circle-no-order n order h (a, l) = let grows = chain-position n order h l in omega arith

  module _ (w : Waiting) where
    -- a waiting access below n, with a chain to b
    abbrev pub Leads : ℕ → ℕ → Type 0
    Leads n b = (a : ℕ) × (a < n) × (w a ≡ true) × Chain pairs a b

    abbrev pub Preceded : ℕ → Type 0
    Preceded n = (b : ℕ) → b < n → w b ≡ true → Leads n b

    -- the one that leads to b is below n, or it is n and there is another in its place
    leads-smaller : (n b : ℕ) → (w n ≡ true → Chain pairs n b → Leads n b) → Leads (suc n) b → Leads n b
    leads-smaller n b instead (a, low, waits, l) = go (eqb a n) refl
      where
        go : (t : Bool) → eqb a n ≡ t → Leads n b
        go true e = let is = eqb-true a n e in instead (rw is at waits) (rw is at l)
        go false e = let other = eqb-false a n e in (a, omega arith, waits, l)

    pub preceded-circle : (n : ℕ) → Preceded n → (b : ℕ) → b < n → w b ≡ true → Circle pairs
    preceded-circle zero h b low waits = let z : ⊥ = omega arith in absurd z
    preceded-circle (suc n) h b low waits = go (w n) refl (λ h b l k. preceded-circle n h b l k)
      where
        go : (t : Bool) → w n ≡ t → (Preceded n → (b : ℕ) → b < n → w b ≡ true → Circle pairs) → Circle pairs
        go false e rest =
            let other : b ≡ n → ⊥ = λ q. false-true (sym e ∙ ap w (sym q) ∙ waits) in
            rest (λ c l k. leads-smaller n c (λ k l. false-true (sym e ∙ k)) (h c (omega arith) k)) b (omega arith) waits
        go true e rest = through (h n (omega arith) e)
          where
            through : Leads (suc n) n → Circle pairs
            through (a, low, waits, l) = at (eqb a n) refl
              where
                at : (t : Bool) → eqb a n ≡ t → Circle pairs
                at true e = let is = eqb-true a n e in (n, rw is at l)
                at false e =
                    let other = eqb-false a n e in
                    let below : a < n = omega arith in
                    rest (λ c low k. leads-smaller n c (λ k m. (a, below, waits, chain-join l m)) (h c (omega arith) k)) a below waits
