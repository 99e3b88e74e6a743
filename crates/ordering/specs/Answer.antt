-- The answer, as a rule that computes: again and again the smallest waiting access that no waiting access has to come before.
use Rattle.std.specs.Prelude.{ℕ, zero, suc, Bool, not, ◌&&◌, List, [], ◌∷◌, eqb, leb, ltb, length}
use Rattle.std.proofs.Math.Option.{Option, none, some}
use Rattle.ordering.specs.declared.Precedence.{Precedence}
use Rattle.number.specs.Basics.{pick, any_of, all_of}
use Rattle.number.specs.Reply.{Reply, accept, need, have}
use Rattle.number.specs.Refusal.{unlisted, circle}

-- the accesses not placed yet, as a test
abbrev pub Waiting : Type 0
Waiting = ℕ → Bool

abbrev pub without : ℕ → Waiting → Waiting
without a waiting b = waiting b && not (eqb a b)

-- the pair asks for a waiting access before a
abbrev pub blocks : Waiting → ℕ → Precedence → Bool
blocks waiting a p = waiting p.first && eqb p.second a

-- it waits, and no waiting access has to come before it
abbrev pub ready : List Precedence → Waiting → ℕ → Bool
ready pairs waiting a = waiting a && not (any_of (blocks waiting a) pairs)

-- the first of k numbers from i on that passes; i + k if none does
abbrev pub seek : (ℕ → Bool) → ℕ → ℕ → ℕ
seek p zero i = i
seek p (suc k) i = pick (p i) i (seek p k (suc i))

-- the access and then the others, where there is an order of them
abbrev pub followed : ℕ → Option (List ℕ) → Option (List ℕ)
followed a none = none
followed a (some rest) = some (a ∷ rest)

module _ (n : ℕ) (pairs : List Precedence) where
  -- the smallest access that is ready; n if none is
  abbrev pub next : Waiting → ℕ
  next waiting = seek (ready pairs waiting) n 0

  -- k accesses wait: the next one and then the others; no order if none is ready
  abbrev pub arrange : ℕ → Waiting → Option (List ℕ)
  arrange zero waiting = some []
  arrange (suc k) waiting = pick (ltb (next waiting) n) (followed (next waiting) (arrange k (without (next waiting) waiting))) none

  -- "44: a circle": at first all n accesses wait
  abbrev pub arranged : Reply (List ℕ)
  arranged = have (arrange n (λ a. ltb a n)) circle accept

  -- both accesses of every pair are listed
  abbrev pub all_listed : Bool
  all_listed = all_of (λ p. ltb p.first n && ltb p.second n) pairs

  -- "43: more than 32 accesses or 64 pairs, or a pair naming an access not listed; 44: a circle, after 43"
  abbrev pub answer : Reply (List ℕ)
  answer = need (leb n 32) unlisted (need (leb (length pairs) 64) unlisted (need all_listed unlisted arranged))
