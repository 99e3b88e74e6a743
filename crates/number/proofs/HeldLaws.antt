-- Laws of what an array and a count hold.
use Prim.Native.Nat.{ℕ, zero, suc, ◌-◌, ◌≤◌, ◌<◌}
use native.Mathlib.Omega.{arith}
use mathlib.Core.Path.{◌≡◌, refl, ap}
use mathlib.Core.List.{List, [], ◌∷◌, append-nil}
use lib.ListN.{length, get_or, take, drop, replicate, length-append, length-take, length-replicate}
use Rattle.number.specs.Basics.{held}

-- where the count is within the array
module _ {A : Type 0} (blank : A) (n : ℕ) (l : List A) (h : n ≤ length l) where
  pub held-few : held blank n l ≡ take n l
  held-few =
      let e : n - length l ≡ 0 = omega arith in
      rw (e, append-nil)

module _ {A : Type 0} where
  blanks : (blank : A) (n i : ℕ) → get_or (replicate n blank) i blank ≡ blank
  blanks blank zero i = refl
  blanks blank (suc n) zero = refl
  blanks blank (suc n) (suc i) = blanks blank n i

  take-replicate : (n m : ℕ) (x : A) → m ≤ n → take m (replicate n x) ≡ replicate m x
  take-replicate n zero x h = refl
  take-replicate zero (suc m) x h = absurd (omega arith)
  take-replicate (suc n) (suc m) x h = ap (λ (l : List A). x ∷ l) (take-replicate n m x (omega arith))

  pub drop-replicate : (n m : ℕ) (a : A) → drop n (replicate m a) ≡ replicate (m - n) a
  drop-replicate zero m a = let e : m - 0 ≡ m = omega arith in rw e
  drop-replicate (suc n) zero a = let e : 0 - suc n ≡ 0 = omega arith in rw e
  drop-replicate (suc n) (suc m) a = let e : suc m - suc n ≡ m - n = omega arith in rw e (drop-replicate n m a)

  -- an element that is held is the array's, whatever the array: a blank stands past its end
  pub held-here : (blank : A) (n : ℕ) (l : List A) (i : ℕ) → i < n → get_or (held blank n l) i blank ≡ get_or l i blank
  held-here blank zero l i h = absurd (omega arith)
  held-here blank (suc n) [] i h = blanks blank (suc n - 0) i
  held-here blank (suc n) (x ∷ l) zero h = refl
  held-here blank (suc n) (x ∷ l) (suc i) h =
      let e : suc n - suc (length l) ≡ n - length l = omega arith in
      rw e (held-here blank n l i (omega arith))

  -- the list is as long as the count, whatever the array
  pub held-length : (blank : A) (n : ℕ) (l : List A) → length (held blank n l) ≡ n
  held-length blank n l = rw (length-append, length-take, length-replicate) (omega arith)

  -- fewer of them
  pub held-take : (blank : A) (n : ℕ) (l : List A) (m : ℕ) → m ≤ n → take m (held blank n l) ≡ held blank m l
  held-take blank n l zero k = let e : 0 - length l ≡ 0 = omega arith in rw e
  held-take blank zero l (suc m) k = absurd (omega arith)
  held-take blank (suc n) [] (suc m) k =
      let e : suc n - 0 ≡ suc n = omega arith in
      let d : suc m - 0 ≡ suc m = omega arith in
      rw (e, d) (take-replicate (suc n) (suc m) blank k)
  held-take blank (suc n) (x ∷ l) (suc m) k =
      let e : suc n - suc (length l) ≡ n - length l = omega arith in
      let d : suc m - suc (length l) ≡ m - length l = omega arith in
      rw (e, d, held-take blank n l m (omega arith))
