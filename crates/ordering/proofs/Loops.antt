-- The search for the next access, and what the loop that places them keeps: a record, so that a law finds its arguments from it.
use Prim.Native.Nat.{ℕ, zero, suc, ◌+◌, ◌-◌, ◌≤◌, ◌<◌}
use native.Mathlib.Omega.{arith}
use native.Mathlib.Numerals.{add-one}
use mathlib.Core.Path.{◌≡◌, refl, sym, ◌∙◌, fun_ext}
use mathlib.Core.Bool.{Bool, true, false, cond, not, ◌&&◌}
use mathlib.Core.List.{List, [], ◌∷◌, ◌++◌, append-nil, append_assoc}
use mathlib.Core.Option.{Option, none, some}
use lib.Dec.{eqb, ltb}
use lib.ListN.{length, take, drop, get_or, set, replicate}
use lib.Seq.{take_all, length-take-le, take-suc-set, get_or-take, get_or-set_same, get_or-set_other}
use Rattle.std.specs.Prelude.{Some, None}
use Rattle.std.specs.List.{position, position_or_len}
use Rattle.std.proofs.lemmas.List.Sums.{passes_at_first, fails_before_first}
use borrow.Author.Tests.{eqb-true, eqb-false, lt-ltb, le-ltb, ltb-true, ltb-false}
use Rattle.number.specs.Reply.{refuse, accept}
use Rattle.number.specs.Refusal.{circle}
use Rattle.number.proofs.HeldLaws.{drop-replicate}
use Rattle.ordering.specs.declared.Precedence.{Precedence}
use Rattle.ordering.specs.Answer.{seek, Waiting, without, followed, next, arrange, arranged}
use Rattle.ordering.specs.Records.{ordered}
use Rattle.ordering.specs.Internal.{waits, unmarked, NextIs}

-- ---- the search

-- the first that passes, and none
pub seek-is : (p : ℕ → Bool) (k i a : ℕ) → i ≤ a → a < i + k → p a ≡ true → ((b : ℕ) → b < a → p b ≡ false) → seek p k i ≡ a
seek-is p zero i a low high t before = absurd (omega arith)
seek-is p (suc k) i a low high t before = go (eqb i a) refl (λ l. seek-is p k (suc i) a l (omega arith) t before)
  where
    go : (s : Bool) → eqb i a ≡ s → (suc i ≤ a → seek p k (suc i) ≡ a) → seek p (suc k) i ≡ a
    go true e rest = let is = eqb-true i a e in rw (is, t)
    go false e rest = let other = eqb-false i a e in rw (before i (omega arith)) (rest (omega arith))

pub seek_end : (p : ℕ → Bool) (k i : ℕ) → ((b : ℕ) → b < i + k → p b ≡ false) → seek p k i ≡ i + k
seek_end p zero i fails = omega arith
seek_end p (suc k) i fails = rw (fails i (omega arith), seek_end p k (suc i) (λ b l. fails b (omega arith))) (omega arith)

-- the first access whose mark is not set, where those are the accesses that pass
module _ (q : ℕ → Bool) (marks : List Bool) (n : ℕ) (same : (a : ℕ) → a < n → unmarked marks a ≡ q a) (room : n ≤ length marks) where
  abbrev searched : List Bool
  searched = take n marks

  abbrev first : ℕ
  first = position_or_len not searched

  size : length searched ≡ n
  size = length-take-le n marks room

  here : (a : ℕ) → a < n → not (get_or searched a false) ≡ q a
  here a low = rw (get_or-take n marks a false low) (same a low)

  fails : (b : ℕ) → b < first → b < n → q b ≡ false
  fails b early low = sym (here b low) ∙ fails_before_first not searched b false early

  pub next-found : NextIs n (seek q n 0) (position not searched)
  next-found = go (ltb first (length searched)) refl
    where
      go : (t : Bool) → ltb first (length searched) ≡ t → NextIs n (seek q n 0) (cond t (Some first) None)
      go true e =
          let low = ltb-true first (length searched) e in
          let below : first < n = omega (arith, size) in
          let passes = sym (here first below) ∙ passes_at_first not searched false low in
          (below, sym (seek-is q n 0 first (omega arith) (omega arith) passes λ b l. fails b l (omega arith)))
      go false e =
          let high = ltb-false first (length searched) e in
          let beyond : n ≤ first = omega (arith, size) in
          let is = seek_end q n 0 λ b l. fails b (omega arith) (omega arith) in
          omega arith

-- ---- the order, place by place

unset : (k a : ℕ) → get_or (replicate k false) a false ≡ false
unset zero a = refl
unset (suc k) zero = refl
unset (suc k) (suc a) = unset k a

-- nothing is marked at first
waits_none : (n : ℕ) → waits n (replicate 32 false) ≡ (λ a. ltb a n)
waits_none n = fun_ext λ a. rw (unset 32 a) (go (ltb a n))
  where
    go : (t : Bool) → t && true ≡ t
    go true = refl
    go false = refl

-- a mark takes one out
waits-set : (n a : ℕ) (placed : List Bool) → a < length placed → waits n (set placed a true) ≡ without a (waits n placed)
waits-set n a placed low = fun_ext λ b. go b (eqb a b) refl
  where
    last : (s t : Bool) → s && t ≡ (s && t) && true
    last true true = refl
    last true false = refl
    last false t = refl

    none : (s t : Bool) → s && false ≡ (s && t) && false
    none true true = refl
    none true false = refl
    none false t = refl

    go : (b : ℕ) (t : Bool) → eqb a b ≡ t → waits n (set placed a true) b ≡ without a (waits n placed) b
    go b true e = let is = eqb-true a b e in rw (e, ← is, get_or-set_same placed a true false low) (none (ltb a n) (not (get_or placed a false)))
    go b false e = rw (e, get_or-set_other placed a b true false (λ q. eqb-false a b e (sym q))) (last (ltb b n) (not (get_or placed b false)))

-- what was placed, and then the others, where there is an order of them
abbrev pub behind : List ℕ → Option (List ℕ) → Option (List ℕ)
behind front none = none
behind front (some rest) = some (front ++ rest)

behind_none : (o : Option (List ℕ)) → o ≡ behind [] o
behind_none none = refl
behind_none (some xs) = refl

behind_more : (xs : List ℕ) (x : ℕ) (o : Option (List ℕ)) → behind xs (followed x o) ≡ behind (xs ++ x ∷ []) o
behind_more xs x none = refl
behind_more xs x (some ys) = rw append_assoc

-- i accesses are placed
pub record Placing (n : ℕ) (pairs : List Precedence) (placed : List Bool) (order : List ℕ) (i : ℕ) : Type 0 where
  pub is : arrange n pairs n (λ a. ltb a n) ≡ behind (take i order) (arrange n pairs (n - i) (waits n placed))

module _ (n : ℕ) (pairs : List Precedence) (k : ℕ) (w : Waiting) (a : ℕ) (is : a ≡ next n pairs w) where
  arrange-on : a < n → arrange n pairs (suc k) w ≡ followed a (arrange n pairs k (without a w))
  arrange-on low = rw is (rw (lt-ltb (next n pairs w) n (rw is at low)))

  arrange-stop : n ≤ a → arrange n pairs (suc k) w ≡ none
  arrange-stop high = rw (le-ltb (next n pairs w) n (rw is at high))

pub placing_none : {n : ℕ} {pairs : List Precedence} {order : List ℕ} → Placing n pairs (replicate 32 false) order 0
placing_none {n} {pairs} = record {
  is = let whole : n - 0 ≡ n = omega arith in rw (whole, waits_none n) (behind_none (arrange n pairs n (λ a. ltb a n)));
}

module _ {n : ℕ} {pairs : List Precedence} {placed : List Bool} {order : List ℕ} {i : ℕ} (so : Placing n pairs placed order i) where
  left : i < n → n - i ≡ suc (n - (i + 1))
  left low = omega arith

  pub placing-on : (a : ℕ) → a ≡ next n pairs (waits n placed) → a < n → i < n → i < length order → a < length placed
      → Placing n pairs (set placed a true) (set order i a) (i + 1)
  placing-on a is low more room mark =
      let front : take (i + 1) (set order i a) ≡ take i order ++ a ∷ [] = rw (add-one, take-suc-set order i a room) in
      let on = arrange-on n pairs (n - (i + 1)) (waits n placed) a is low in
      record {
        is = so.is ∙ rw (left more, on, front, waits-set n a placed mark)
            (behind_more (take i order) a (arrange n pairs (n - (i + 1)) (without a (waits n placed))));
      }

  pub placing-stop : next n pairs (waits n placed) ≡ n → i < n → arranged n pairs ≡ refuse circle
  placing-stop is more = rw (so.is, left more, arrange-stop n pairs (n - (i + 1)) (waits n placed) n (sym is) (omega arith))

  -- all are placed, in an array whose other places are 0
  module _ (all_set : i ≡ n) (size : length order ≡ n) where
    pub placing-end : arranged n pairs ≡ accept order
    placing-end =
        let none_left : n - i ≡ 0 = omega arith in
        let whole : take i order ≡ order = take_all i order (omega arith) in
        rw (so.is, none_left, whole, append-nil)

    pub placing-record : record { answer = 0; count = n; accesses = order ++ drop n (replicate 32 0) } ≡ ordered (arranged n pairs)
    placing-record = rw (placing-end, size, drop-replicate {A = ℕ} n 32 0)
