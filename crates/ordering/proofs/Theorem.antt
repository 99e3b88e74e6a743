-- The theorems, from what the rule gives for all n accesses.
use Prim.Native.Nat.{ℕ, ◌≤◌, ◌<◌}
use native.Mathlib.Omega.{arith}
use mathlib.Core.Path.{◌≡◌, refl, sym, ◌∙◌}
use mathlib.Core.Logic.{◌⊎◌, inl, inr, ◌↔◌}
use mathlib.Core.Bool.{Bool, true, false, ◌&&◌, ◌||◌}
use mathlib.Core.List.{List, [], ◌∷◌}
use lib.Dec.{eqb, ltb, leb}
use lib.ListN.{length}
use borrow.Author.Tests.{eqb-true, eq-eqb, ltb-true, ltb-false, leb-true, leb-false}
use Rattle.number.specs.Reply.{refuse, accept}
use Rattle.number.specs.Refusal.{unlisted, circle}
use Rattle.number.proofs.Both.{and_left, and_right}
use Rattle.number.proofs.ReplyLaws.{refused-accepted}
use Rattle.ordering.specs.declared.Precedence.{Precedence}
use Rattle.ordering.specs.Orders.{asks, Respects, AtMost, First, Chain, one, more, Circle, NamesUnlisted, Outside}
use Rattle.ordering.specs.Answer.{Waiting, all_listed, answer}
use Rattle.ordering.specs.Theorems.{AllJustAnswered, NeverBoth, OneOfBoth, SameAsked}
use Rattle.ordering.proofs.Tests.{false-true, or_true, tally_all}
use Rattle.ordering.proofs.Circles.{circle-no-order}
use Rattle.ordering.proofs.Arranged.{exhausts-times, times-exhausts, Arranged, arranged-exhausts, arranged-ordered, arranged-first}
use Rattle.ordering.proofs.Arranged.{Outcome, arranged, stuck, arrange-outcome}

-- ---- orders, compared

at_most_both : (xs ys : List ℕ) → AtMost xs ys → AtMost ys xs → xs ≡ ys
at_most_both [] [] h k = refl
at_most_both [] (y ∷ ys) h k = absurd k
at_most_both (x ∷ xs) [] h k = absurd h
at_most_both (x ∷ xs) (y ∷ ys) h k = go h k (λ h k. at_most_both xs ys h k)
  where
    go : (x < y) ⊎ ((x ≡ y) × AtMost xs ys) → (y < x) ⊎ ((y ≡ x) × AtMost ys xs) → (AtMost xs ys → AtMost ys xs → xs ≡ ys) → x ∷ xs ≡ y ∷ ys
    go (inl l) (inl m) rest = let z : ⊥ = omega arith in absurd z
    go (inl l) (inr m) rest = let is = m.0 in let z : ⊥ = omega arith in absurd z
    go (inr l) (inl m) rest = let is = l.0 in let z : ⊥ = omega arith in absurd z
    go (inr l) (inr m) rest = rw (l.0, rest l.1 m.1)

-- ---- pairs that name accesses not listed

listed_asked : (n a b : ℕ) (pairs : List Precedence) → all_listed n pairs ≡ true → asks pairs a b ≡ true → (ltb a n ≡ true) × (ltb b n ≡ true)
listed_asked n a b [] h k = false-true k
listed_asked n a b (p ∷ ps) h k =
    go (eqb p.first a && eqb p.second b) refl k (λ k. listed_asked n a b ps (and_right (ltb p.first n && ltb p.second n) _ h) k)
  where
    go : (t : Bool) → eqb p.first a && eqb p.second b ≡ t → t || asks ps a b ≡ true
        → (asks ps a b ≡ true → (ltb a n ≡ true) × (ltb b n ≡ true)) → (ltb a n ≡ true) × (ltb b n ≡ true)
    go false e k rest = rest k
    go true e k rest =
        let both = and_left (ltb p.first n && ltb p.second n) _ h in (
          rw (eqb-true p.first a (and_left _ (eqb p.second b) e)) at (and_left (ltb p.first n) _ both),
          rw (eqb-true p.second b (and_right (eqb p.first a) _ e)) at (and_right (ltb p.first n) _ both),
        )

unlisted-named : (n : ℕ) (pairs : List Precedence) → all_listed n pairs ≡ false → NamesUnlisted n pairs
unlisted-named n [] h = false-true (sym h)
unlisted-named n (p ∷ ps) h = go (ltb p.first n) refl (ltb p.second n) refl h (λ h. unlisted-named n ps h)
  where
    named : asks (p ∷ ps) p.first p.second ≡ true
    named = rw (eq-eqb p.first p.first refl, eq-eqb p.second p.second refl)

    go : (s : Bool) → ltb p.first n ≡ s → (t : Bool) → ltb p.second n ≡ t → (s && t) && all_listed n ps ≡ false
        → (all_listed n ps ≡ false → NamesUnlisted n ps) → NamesUnlisted n (p ∷ ps)
    go false e t d h rest = (p.first, p.second, named, inl (ltb-false p.first n e))
    go true e false d h rest = (p.first, p.second, named, inr (ltb-false p.second n d))
    go true e true d h rest = let (a, b, k, o) = rest h in (a, b, rw k (or_true (eqb p.first a && eqb p.second b)), o)

listed_none_named : (n : ℕ) (pairs : List Precedence) → all_listed n pairs ≡ true → NamesUnlisted n pairs → ⊥
listed_none_named n pairs h (a, b, k, o) = let (la, lb) = listed_asked n a b pairs h k in go (ltb-true a n la) (ltb-true b n lb) o
  where
    go : a < n → b < n → (n ≤ a) ⊎ (n ≤ b) → ⊥
    go la lb (inl m) = omega arith
    go la lb (inr m) = omega arith

-- ---- the answer and why it is given

module _ (n : ℕ) (pairs : List Precedence) where
  abbrev everyone : Waiting
  everyone a = ltb a n

  outcome : Outcome n pairs n everyone
  outcome = arrange-outcome n pairs n everyone (λ a h. ltb-true a n h) (tally_all n n (omega arith))

  arranged-respects : all_listed n pairs ≡ true → (order : List ℕ) → Arranged pairs everyone order → Respects n pairs order
  arranged-respects listed order h = record {
    once = exhausts-times everyone order (arranged-exhausts pairs everyone order h);
    before = λ a b k.
        let (la, lb) = listed_asked n a b pairs listed k in
        arranged-ordered pairs everyone order h a b la lb k;
  }

  arranged-is-first : all_listed n pairs ≡ true → (order : List ℕ) → Arranged pairs everyone order → First n pairs order
  arranged-is-first listed order h = record {
    respects = arranged-respects listed order h;
    least = λ other r. arranged-first pairs everyone order other h (times-exhausts everyone other r.once) (λ a b la lb k. r.before a b k);
  }

  -- which of the three it is, and why
  data Case : Type 0 where
    outside : Outside n pairs → answer n pairs ≡ refuse unlisted → Case
    given : (Outside n pairs → ⊥) → (order : List ℕ) → answer n pairs ≡ accept order → First n pairs order → Case
    round : (Outside n pairs → ⊥) → answer n pairs ≡ refuse circle → Circle pairs → Case

  inside : leb n 32 ≡ true → leb (length pairs) 64 ≡ true → all_listed n pairs ≡ true → Outside n pairs → ⊥
  inside few short listed (inl wide) = let low = leb-true n 32 few in omega arith
  inside few short listed (inr (inl long)) = let low = leb-true (length pairs) 64 short in omega arith
  inside few short listed (inr (inr named)) = listed_none_named n pairs listed named

  which : Case
  which = go (leb n 32) refl (leb (length pairs) 64) refl (all_listed n pairs) refl outcome
    where
      go : (s : Bool) → leb n 32 ≡ s → (t : Bool) → leb (length pairs) 64 ≡ t → (u : Bool) → all_listed n pairs ≡ u → Outcome n pairs n everyone → Case
      go false few t short u listed o = outside (inl (leb-false n 32 few)) (rw few)
      go true few false short u listed o = outside (inr (inl (leb-false (length pairs) 64 short))) (rw (few, short))
      go true few true short false listed o = outside (inr (inr (unlisted-named n pairs listed))) (rw (few, short, listed))
      go true few true short true listed (arranged order is h) =
          given (inside few short listed) order (rw (few, short, listed, is)) (arranged-is-first listed order h)
      go true few true short true listed (stuck is l) = round (inside few short listed) (rw (few, short, listed, is)) l

  two-refusals : {A : Type 0} → answer n pairs ≡ refuse unlisted → answer n pairs ≡ refuse circle → A
  two-refusals h k = let z : unlisted ≡ circle = cc in let z : ⊥ = omega arith in absurd z

  outside-just : (answer n pairs ≡ refuse unlisted) ↔ Outside n pairs
  outside-just = (λ h. then h which, λ o. if o which)
    where
      then : answer n pairs ≡ refuse unlisted → Case → Outside n pairs
      then h (outside o is) = o
      then h (given fits order is f) = refused-accepted (sym h ∙ is)
      then h (round fits is l) = two-refusals h is

      if : Outside n pairs → Case → answer n pairs ≡ refuse unlisted
      if o (outside _ is) = is
      if o (given fits order is f) = absurd (fits o)
      if o (round fits is l) = absurd (fits o)

  given-just : (order : List ℕ) → (answer n pairs ≡ accept order) ↔ ((Outside n pairs → ⊥) × First n pairs order)
  given-just order = (λ h. then h which, λ k. if k.0 k.1 which)
    where
      then : answer n pairs ≡ accept order → Case → (Outside n pairs → ⊥) × First n pairs order
      then h (outside o is) = refused-accepted (sym is ∙ h)
      then h (given fits found is f) = let same : found ≡ order = cc in (fits, rw same at f)
      then h (round fits is l) = refused-accepted (sym is ∙ h)

      if : (Outside n pairs → ⊥) → First n pairs order → Case → answer n pairs ≡ accept order
      if fits f (outside o is) = absurd (fits o)
      if fits f (given _ found is g) = rw (at_most_both order found (f.least found g.respects) (g.least order f.respects)) is
      if fits f (round _ is l) = absurd (circle-no-order pairs n order f.respects l)

  circular-just : (answer n pairs ≡ refuse circle) ↔ ((Outside n pairs → ⊥) × Circle pairs)
  circular-just = (λ h. then h which, λ k. if k.0 k.1 which)
    where
      then : answer n pairs ≡ refuse circle → Case → (Outside n pairs → ⊥) × Circle pairs
      then h (outside o is) = two-refusals is h
      then h (given fits order is f) = refused-accepted (sym h ∙ is)
      then h (round fits is l) = (fits, l)

      if : (Outside n pairs → ⊥) → Circle pairs → Case → answer n pairs ≡ refuse circle
      if fits l (outside o is) = absurd (fits o)
      if fits l (given _ order is f) = absurd (circle-no-order pairs n order f.respects l)
      if fits l (round _ is _) = is

pub all_just_answered : AllJustAnswered
all_just_answered n pairs = record {
  outside = outside-just n pairs;
  given = given-just n pairs;
  circular = circular-just n pairs;
  three = three (which n pairs);
}
  where
    three : Case n pairs → (answer n pairs ≡ refuse unlisted) ⊎ (((order : List ℕ) × (answer n pairs ≡ accept order)) ⊎ (answer n pairs ≡ refuse circle))
    three (outside o is) = inl is
    three (given fits order is f) = inr (inl (order, is))
    three (round fits is l) = inr (inr is)

pub never_both : NeverBoth
never_both n pairs order r l = circle-no-order pairs n order r l

pub one_of_both : OneOfBoth
one_of_both n pairs none_named = go (all_listed n pairs) refl (outcome n pairs)
  where
    go : (t : Bool) → all_listed n pairs ≡ t → Outcome n pairs n (everyone n pairs) → ((order : List ℕ) × First n pairs order) ⊎ Circle pairs
    go false e o = absurd (none_named (unlisted-named n pairs e))
    go true e (arranged order is h) = inl (order, arranged-is-first n pairs e order h)
    go true e (stuck is l) = inr l

-- ---- lists of pairs that ask for the same

module _ (n : ℕ) (pairs others : List Precedence) (same : (a b : ℕ) → asks pairs a b ≡ asks others a b) where
  same-outside : length pairs ≤ 64 → Outside n pairs → Outside n others
  same-outside short (inl wide) = inl wide
  same-outside short (inr (inl long)) = let z : ⊥ = omega arith in absurd z
  same-outside short (inr (inr (a, b, k, o))) = inr (inr (a, b, sym (same a b) ∙ k, o))

  same-respects : (order : List ℕ) → Respects n others order → Respects n pairs order
  same-respects order r = record { once = r.once; before = λ a b k. r.before a b (sym (same a b) ∙ k) }

  same-chain : {a b : ℕ} → Chain pairs a b → Chain others a b
  same-chain (one {a} {b} k) = one (sym (same a b) ∙ k)
  same-chain (more {a} {b} k l) = more (sym (same a b) ∙ k) (same-chain l)

pub same_asked : SameAsked
same_asked n pairs others short shorter same = go (which n pairs)
  where
    back : (a b : ℕ) → asks others a b ≡ asks pairs a b
    back a b = sym (same a b)

    go : Case n pairs → answer n pairs ≡ answer n others
    go (outside o is) = is ∙ sym ((outside-just n others).1 (same-outside n pairs others same short o))
    go (given fits order is f) =
        let first : First n others order = record {
          respects = same-respects n others pairs back order f.respects;
          least = λ other r. f.least other (same-respects n pairs others same other r);
        } in
        is ∙ sym ((given-just n others order).1 (λ o. fits (same-outside n others pairs back shorter o), first))
    go (round fits is (a, l)) =
        is ∙ sym ((circular-just n others).1 (λ o. fits (same-outside n others pairs back shorter o), (a, same-chain n pairs others same l)))
