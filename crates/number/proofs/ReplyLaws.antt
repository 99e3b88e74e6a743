-- Replies read backwards: what holds where a rule accepts, and which numbers a rule refuses with.
use Prim.Native.Nat.{ℕ}
use mathlib.Core.Path.{◌≡◌, refl, sym, ap}
use mathlib.Core.Bool.{Bool, true, false, not}
use mathlib.Core.List.{List}
use mathlib.Core.Option.{Option, none, some}
use native.Mathlib.Omega.{arith}
use lib.Dec.{eqb}
use borrow.Author.Tests.{eqb-false, not-true}
use Rattle.number.specs.Reply.{Reply, refuse, accept, need, have, and_then, number, accepted, passed, both}
use Rattle.number.specs.Number.{Got, got, then_read}

pub refused-accepted : {A B : Type 0} {n : ℕ} {a : A} → refuse n ≡ accept a → B
refused-accepted h = let z : ◌≡◌ {A = ℕ} 0 1 = cc in absurd (omega arith)

module _ {A : Type 0} where
  pub need-accepts : (b : Bool) (n : ℕ) (rest : Reply A) {a : A} → need b n rest ≡ accept a → (b ≡ true) × (rest ≡ accept a)
  need-accepts true n rest h = (refl, h)
  need-accepts false n rest h = refused-accepted h

  pub have-accepts : {B : Type 0} (o : Option A) (n : ℕ) (rest : A → Reply B) {b : B} → have o n rest ≡ accept b
      → (a : A) × (o ≡ some a) × (rest a ≡ accept b)
  have-accepts none n rest h = refused-accepted h
  have-accepts (some a) n rest h = (a, refl, h)

  pub and_then_accepts : {B : Type 0} (r : Reply A) (rest : A → Reply B) {b : B} → and_then r rest ≡ accept b
      → (a : A) × (r ≡ accept a) × (rest a ≡ accept b)
  and_then_accepts (refuse n) rest h = refused-accepted h
  and_then_accepts (accept a) rest h = (a, refl, h)

  pub then_read_accepts : {B : Type 0} (r : Reply (Got A)) (rest : A → List ℕ → Reply B) {b : B} → then_read r rest ≡ accept b
      → (a : A) × (s : List ℕ) × (r ≡ accept (got a s)) × (rest a s ≡ accept b)
  then_read_accepts (refuse n) rest h = refused-accepted h
  then_read_accepts (accept (got a s)) rest h = (a, s, refl, h)

-- ---- what holds of what is accepted holds of it by its other name
pub of_accepted : {A : Type 0} (P : A → Type 0) {a b : A} → accept a ≡ accept b → P a → P b
of_accepted P {a} {b} e h = let p : a ≡ b = cc in rw (← p) h

pub of_read : {A : Type 0} (P : A → List ℕ → Type 0) {a b : A} {s t : List ℕ} → accept (got a s) ≡ accept (got b t) → P a s → P b t
of_read P {a} {b} {s} {t} e h =
    let p : a ≡ b = cc in
    let q : s ≡ t = cc in
    rw (← p, ← q) h

-- ---- a rule stands before all that follows it
pub need-then : {A B : Type 0} (t : Bool) (n : ℕ) (r : Reply A) (k : A → Reply B) → and_then (need t n r) k ≡ need t n (and_then r k)
need-then true n r k = refl
need-then false n r k = refl

module _ {A B C : Type 0} where
  pub and_then-then : (r : Reply A) (f : A → Reply B) (k : B → Reply C) → and_then (and_then r f) k ≡ (and_then r λ a. and_then (f a) k)
  and_then-then (refuse n) f k = refl
  and_then-then (accept a) f k = refl

  pub then_read-then : (r : Reply A) (f : A → Reply (Got B)) (k : B → List ℕ → Reply C)
      → then_read (and_then r f) k ≡ (and_then r λ a. then_read (f a) k)
  then_read-then (refuse n) f k = refl
  then_read-then (accept a) f k = refl

-- ---- the numbers that a rule refuses with
module _ (among : ℕ → Bool) where
  -- the refusal number, where there is one, is among these
  abbrev pub refuses_among : {A : Type 0} → Reply A → Bool
  refuses_among (refuse n) = among n
  refuses_among (accept a) = true

  pub refused-among : {A : Type 0} (r : Reply A) {n : ℕ} → refuses_among r ≡ true → r ≡ refuse n → among n ≡ true
  refused-among r h e = rw e at h

  pub need-among : {A : Type 0} (b : Bool) (n : ℕ) (rest : Reply A) → among n ≡ true → refuses_among rest ≡ true
      → refuses_among (need b n rest) ≡ true
  need-among true n rest e h = h
  need-among false n rest e h = e

  pub have-among : {A B : Type 0} (o : Option A) (n : ℕ) (rest : A → Reply B) → among n ≡ true → ((a : A) → refuses_among (rest a) ≡ true)
      → refuses_among (have o n rest) ≡ true
  have-among none n rest e h = e
  have-among (some a) n rest e h = h a

  pub and_then_among : {A B : Type 0} (r : Reply A) (rest : A → Reply B) → refuses_among r ≡ true → ((a : A) → refuses_among (rest a) ≡ true)
      → refuses_among (and_then r rest) ≡ true
  and_then_among (refuse n) rest e h = e
  and_then_among (accept a) rest e h = h a

  pub then_read_among : {A B : Type 0} (r : Reply (Got A)) (rest : A → List ℕ → Reply B) → refuses_among r ≡ true
      → ((a : A) (s : List ℕ) → refuses_among (rest a s) ≡ true) → refuses_among (then_read r rest) ≡ true
  then_read_among (refuse n) rest e h = e
  then_read_among (accept (got a s)) rest e h = h a s

-- no refusal number is 0, so an answer of 0 is that of what was accepted
abbrev pub not_zero : ℕ → Bool
not_zero n = not (eqb n 0)

pub not_zero_lem : (n : ℕ) → not_zero n ≡ true → n ≡ 0 → ⊥
not_zero_lem n h = eqb-false n 0 (not-true (eqb n 0) h)

pub refusal_not_zero : {A : Type 0} (r : Reply A) (n : ℕ) → refuses_among not_zero r ≡ true → r ≡ refuse n → eqb n 0 ≡ false
refusal_not_zero r n h e = not-true (eqb n 0) (refused-among not_zero r h e)

pub refused_some : {A : Type 0} (r : Reply A) {n : ℕ} → refuses_among not_zero r ≡ true → r ≡ refuse n → n ≡ 0 → ⊥
refused_some r {n} h e = not_zero_lem n (refused-among not_zero r h e)

pub accepted_number : {A : Type 0} (r : Reply A) → refuses_among not_zero r ≡ true → eqb (number r) 0 ≡ accepted r
accepted_number (refuse n) h = not-true (eqb n 0) h
accepted_number (accept a) h = refl

-- an answer other than 0 is the number of a refusal
pub some_refused : {A : Type 0} (r : Reply A) {k : ℕ} → k ≡ number r → (k ≡ 0 → ⊥) → r ≡ refuse k
some_refused (refuse n) e apart = ap refuse (sym e)
some_refused (accept a) e apart = absurd (apart e)

pub zero-passed : (r : Reply (Unit {0})) → refuses_among not_zero r ≡ true → number r ≡ 0 → r ≡ passed
zero-passed (accept tt) h e = refl
zero-passed (refuse n) h e = absurd (not_zero_lem n h e)

pub accepted-passed : (r : Reply (Unit {0})) → accepted r ≡ true → r ≡ passed
accepted-passed (accept tt) h = refl
accepted-passed (refuse n) h = let z : ◌≡◌ {A = ℕ} 0 1 = cc in absurd (omega arith)

-- both checks are passed just where each is
pub both_pass : {first second : Reply (Unit {0})} → first ≡ passed → second ≡ passed → both first second ≡ passed
both_pass e f = rw (e, f)

pub both-passed : (first second : Reply (Unit {0})) → both first second ≡ passed → (first ≡ passed) × (second ≡ passed)
both-passed (accept tt) second h = (refl, h)
both-passed (refuse n) second h = refused-accepted h
