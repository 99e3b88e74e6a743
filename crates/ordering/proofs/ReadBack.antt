-- The record that is handed back says the answer.
use Prim.Native.Nat.{ℕ, zero, suc, ◌-◌, ◌≤◌, ◌<◌}
use native.Mathlib.Omega.{arith}
use mathlib.Core.Path.{◌≡◌, refl, sym, ap, ◌∙◌}
use mathlib.Core.Bool.{Bool, true, false, ◌&&◌, ◌||◌}
use mathlib.Core.List.{List, [], ◌∷◌}
use mathlib.Core.Option.{Option, none, some}
use lib.Dec.{eqb, leb, ltb}
use lib.ListN.{length, get_or, replicate}
use lib.Seq.{take_at}
use borrow.Author.Tests.{leb-true, eqb-true, eq-eqb}
use Rattle.number.specs.Basics.{pick}
use Rattle.number.specs.Reply.{Reply, refuse, accept}
use Rattle.number.specs.Refusal.{unlisted, circle}
use Rattle.number.proofs.ReplyLaws.{need-accepts, have-accepts, refuses_among, need-among, have-among, not_zero, refusal_not_zero}
use Rattle.ordering.specs.declared.Precedence.{Precedence}
use Rattle.ordering.specs.Orders.{asks}
use Rattle.ordering.specs.Answer.{Waiting, without, followed, next, arrange, all_listed, answer}
use Rattle.ordering.specs.Records.{blank_precedence, precedences_of, PairsCounted, PairsInPlace, PairsAsk, RefusalsHoldNothing}
use Rattle.ordering.specs.Records.{ordered, order_in, reply_of, AnswersReadBack, OrdersAreWhole, RecordsJustAnswered}
use Rattle.ordering.proofs.RecordLaws.{pairs-length, pair-here}
use Rattle.ordering.proofs.Tests.{false-true, or_true}
use Rattle.ordering.proofs.Theorem.{all_just_answered}

module _ (n : ℕ) (pairs : List Precedence) where
  arrange-length : (k : ℕ) (w : Waiting) (order : List ℕ) → arrange n pairs k w ≡ some order → length order ≡ k
  arrange-length zero w order h = let is : [] ≡ order = cc in rw (← is)
  arrange-length (suc k) w order h = go (ltb (next n pairs w) n) h (arrange n pairs k (without (next n pairs w) w)) refl
      (λ rest e. arrange-length k (without (next n pairs w) w) rest e)
    where
      go : (t : Bool) → pick t (followed (next n pairs w) (arrange n pairs k (without (next n pairs w) w))) none ≡ some order
          → (o : Option (List ℕ)) → arrange n pairs k (without (next n pairs w) w) ≡ o
          → ((rest : List ℕ) → arrange n pairs k (without (next n pairs w) w) ≡ some rest → length rest ≡ k) → length order ≡ suc k
      go false h o e shorter = let z : ◌≡◌ {A = ℕ} 0 1 = cc in absurd (omega arith)
      go true h none e shorter = let z : ◌≡◌ {A = ℕ} 0 1 = cc in absurd (omega arith)
      go true h (some rest) e shorter =
          let is : next n pairs w ∷ rest ≡ order = cc in
          rw (← is, shorter rest e)

  -- an order has at most 32 accesses, and as many as were asked for
  pub accepted-length : (order : List ℕ) → answer n pairs ≡ accept order → (n ≤ 32) × (length order ≡ n)
  accepted-length order h =
      let (few, h) = need-accepts (leb n 32) unlisted _ h in
      let (_, h) = need-accepts (leb (length pairs) 64) unlisted _ h in
      let (_, h) = need-accepts (all_listed n pairs) unlisted _ h in
      let (found, is, e) = have-accepts (arrange n pairs n (λ a. ltb a n)) circle accept h in
      let same : found ≡ order = cc in
      (leb-true n 32 few, ap length (sym same) ∙ arrange-length n (λ a. ltb a n) found is)

  pub no-refusal-is-zero : refuses_among not_zero (answer n pairs) ≡ true
  no-refusal-is-zero =
      need-among not_zero (leb n 32) unlisted _ refl
      (need-among not_zero (leb (length pairs) 64) unlisted _ refl
      (need-among not_zero (all_listed n pairs) unlisted _ refl
      (have-among not_zero (arrange n pairs n (λ a. ltb a n)) circle accept refl λ order. refl)))

pub orders_are_whole : OrdersAreWhole
orders_are_whole n pairs order h = (accepted-length n pairs order h).1

-- the front of the places is the order
pub order-front : (order : List ℕ) → order_in (ordered (accept order)) ≡ order
order-front order = take_at order (replicate (32 - length order) 0) (length order) refl

pub answers_read_back : AnswersReadBack
answers_read_back n pairs = go (answer n pairs) refl
  where
    go : (r : Reply (List ℕ)) → answer n pairs ≡ r → reply_of (ordered r) ≡ r
    go (refuse k) h = rw (refusal_not_zero (answer n pairs) k (no-refusal-is-zero n pairs) h)
    go (accept order) h = ap accept (order-front order)

pub records_just_answered : RecordsJustAnswered
records_just_answered n pairs r e = rw (e, answers_read_back n (precedences_of pairs)) (all_just_answered n (precedences_of pairs))

pub pairs-counted : PairsCounted
pairs-counted p = pairs-length p

pub pairs_in_place : PairsInPlace
pairs_in_place p i low = pair-here p i low

pub refusals_hold_nothing : RefusalsHoldNothing
refusals_hold_nothing n k pairs h = rw h

pub pairs_ask : PairsAsk
pairs_ask pairs a b = (to pairs, from pairs)
  where
    to : (pairs : List Precedence) → asks pairs a b ≡ true
        → (i : ℕ) × (i < length pairs) × (get_or pairs i blank_precedence ≡ record { first = a; second = b })
    to [] h = false-true h
    to (p ∷ ps) h = go (eqb p.first a) refl (eqb p.second b) refl h (λ h. to ps h)
      where
        later : (i : ℕ) × (i < length ps) × (get_or ps i blank_precedence ≡ record { first = a; second = b })
            → (i : ℕ) × (i < suc (length ps)) × (get_or (p ∷ ps) i blank_precedence ≡ record { first = a; second = b })
        later (i, low, is) = (suc i, omega arith, is)

        go : (s : Bool) → eqb p.first a ≡ s → (t : Bool) → eqb p.second b ≡ t → (s && t) || asks ps a b ≡ true
            → (asks ps a b ≡ true → (i : ℕ) × (i < length ps) × (get_or ps i blank_precedence ≡ record { first = a; second = b }))
            → (i : ℕ) × (i < suc (length ps)) × (get_or (p ∷ ps) i blank_precedence ≡ record { first = a; second = b })
        go true e true d h rest = (0, omega arith, rw (← eqb-true p.first a e, ← eqb-true p.second b d))
        go true e false d h rest = later (rest h)
        go false e t d h rest = later (rest h)

    from : (pairs : List Precedence) → (i : ℕ) × (i < length pairs) × (get_or pairs i blank_precedence ≡ record { first = a; second = b }) → asks pairs a b ≡ true
    from [] (i, low, is) = absurd (omega arith)
    from (p ∷ ps) (zero, low, is) =
        let f : p.first ≡ a = ap (λ (q : Precedence). q.first) is in
        let s : p.second ≡ b = ap (λ (q : Precedence). q.second) is in
        rw (eq-eqb p.first a f, eq-eqb p.second b s)
    from (p ∷ ps) (suc i, low, is) = rw (from ps (i, omega arith, is)) (or_true (eqb p.first a && eqb p.second b))
