-- Laws of putting bytes at a place of a buffer, one after the other, and of a number's digits.
use Prim.Native.Nat.{ℕ, zero, suc, ◌+◌, ◌-◌, ◌/◌, ◌%◌, ◌≤◌, ◌<◌, ◌^◌}
use mathlib.Core.Path.{◌≡◌, refl, sym, ap, ◌∙◌}
use mathlib.Core.Bool.{Bool, true, false}
use mathlib.Core.List.{List, [], ◌∷◌, ◌++◌}
use native.Mathlib.Omega.{arith}
use native.Mathlib.Nat.{add-zero, add_assoc}
use native.Mathlib.Numerals.{add-one}
use lib.Dec.{ltb}
use lib.ListN.{length, get_or, take, set, length-append}
use lib.Seq.{take-suc, length-take-le}
use borrow.Author.Tests.{lt-ltb, le-ltb}
use Rattle.number.specs.Basics.{pick}
use Rattle.number.specs.Number.{Puts}
use Rattle.number.specs.Texts.{digits_up_to, decimal}
use Rattle.number.proofs.SpliceLaws.{splice_none, splice-set, length-splice, splice-splice}

pub puts_none : {d : List ℕ} {p : ℕ} → Puts d p [] p d
puts_none {d} {p} = record { ends = sym (add-zero p); is = sym (splice_none d p) }

-- the same bytes, written otherwise
pub puts_as : {d : List ℕ} {p : ℕ} {xs ys : List ℕ} {e : ℕ} {out : List ℕ} → xs ≡ ys → Puts d p xs e out → Puts d p ys e out
puts_as h w = rw h at w

module _ {d : List ℕ} {p : ℕ} {xs : List ℕ} {e : ℕ} {out : List ℕ} (w : Puts d p xs e out) (fits : p + length xs ≤ length d) where
  pub puts-length : length out ≡ length d
  puts-length = rw w.is (length-splice d p xs fits)

  -- bytes behind bytes
  pub puts-puts : {ys : List ℕ} {e₂ : ℕ} {out₂ : List ℕ} → Puts out e ys e₂ out₂ → Puts d p (xs ++ ys) e₂ out₂
  puts-puts {ys} v = record {
    ends = v.ends ∙ rw (w.ends, length-append, add_assoc);
    is = v.is ∙ rw (w.is, w.ends, splice-splice d p xs ys fits);
  }

-- two texts, one behind the other
module _ {d : List ℕ} {p : ℕ} {xs : List ℕ} {e : ℕ} {out : List ℕ} {ys : List ℕ} {e₂ : ℕ} {out₂ : List ℕ} (w : Puts d p xs e out)
    (v : Puts out e ys e₂ out₂) (fits : p + length xs + length ys ≤ length d) where
  pub both : Puts d p (xs ++ ys) e₂ out₂
  both = puts-puts w (omega arith) v

  pub both_end : e₂ ≡ p + length xs + length ys
  both_end = v.ends ∙ ap (λ (n : ℕ). n + length ys) w.ends

  pub both-fit : p + length (xs ++ ys) ≤ length d
  both-fit = omega (arith, length-append xs ys)

  pub both_long : length out₂ ≡ length d
  both_long = puts-length both both-fit

-- one byte more
pub put_byte : {d : List ℕ} {p : ℕ} {xs : List ℕ} {e : ℕ} {out : List ℕ} (b : ℕ) → Puts d p xs e out → p + length xs < length d
    → Puts d p (xs ++ b ∷ []) (e + 1) (set out e b)
put_byte {d} {p} {xs} {e} {out} b w h =
    let l : length out ≡ length d = puts-length w (omega arith) in
    let i : e < length out = omega (arith, w.ends) in
    puts-puts w (omega arith) (record { ends = refl; is = sym (splice_none (set out e b) (e + 1)) ∙ splice-set out e b [] i })

-- ---- bytes put one by one
module _ (bytes : List ℕ) (i : ℕ) {d : List ℕ} {p e : ℕ} {out : List ℕ} (w : Puts d p (take i bytes) e out)
    (fits : p + length bytes ≤ length d) where
  pub put-place : i ≤ length bytes → e ≡ p + i
  put-place h = w.ends ∙ ap (λ (n : ℕ). p + n) (length-take-le i bytes h)

  pub put-long : i ≤ length bytes → length out ≡ length d
  put-long h = puts-length w (omega (arith, length-take-le i bytes h))

  pub put_next : i < length bytes → Puts d p (take (i + 1) bytes) (e + 1) (set out e (get_or bytes i 0))
  put_next h =
      let n : length (take i bytes) ≡ i = length-take-le i bytes (omega arith) in
      rw (add-one, take-suc bytes i 0 h) (put_byte (get_or bytes i 0) w (omega arith))

-- ---- digits
pub digits_zero : (more n : ℕ) → more ≡ 0 → digits_up_to more n ≡ (48 + n % 10) ∷ []
unfolding digits_up_to
digits_zero more n h = rw h

module _ (more n : ℕ) (some : more ≡ 0 → ⊥) where
  pub digits-one : n < 10 → digits_up_to more n ≡ (48 + n) ∷ []
  unfolding digits_up_to
  digits-one h = go more some
    where
      go : (m : ℕ) → (m ≡ 0 → ⊥) → digits_up_to m n ≡ (48 + n) ∷ []
      go zero a = absurd (a refl)
      go (suc m) a = rw (lt-ltb n 10 h)

  pub digits_more : 10 ≤ n → digits_up_to more n ≡ digits_up_to (more - 1) (n / 10) ++ (48 + n % 10) ∷ []
  unfolding digits_up_to
  digits_more h = go more some
    where
      go : (m : ℕ) → (m ≡ 0 → ⊥) → digits_up_to m n ≡ digits_up_to (m - 1) (n / 10) ++ (48 + n % 10) ∷ []
      go zero a = absurd (a refl)
      go (suc m) a = let z : suc m - 1 ≡ m = omega arith in rw (z, le-ltb n 10 h)

  pub digits-room : 10 ≤ n → length (digits_up_to more n) ≡ length (digits_up_to (more - 1) (n / 10)) + 1
  digits-room h = ap length (digits_more h) ∙ length-append (digits_up_to (more - 1) (n / 10)) ((48 + n % 10) ∷ [])

pub digits_few : (more n : ℕ) → length (digits_up_to more n) ≤ suc more
unfolding digits_up_to
digits_few zero n = omega arith
digits_few (suc more) n = go (ltb n 10) (digits_few more (n / 10))
  where
    go : (t : Bool) → length (digits_up_to more (n / 10)) ≤ suc more
        → length (pick t ((48 + n) ∷ []) (digits_up_to more (n / 10) ++ (48 + n % 10) ∷ [])) ≤ suc (suc more)
    go true h = omega arith
    go false h = omega (arith, length-append (digits_up_to more (n / 10)) ((48 + n % 10) ∷ []))

pub decimal-few : (n : ℕ) → length (decimal n) ≤ 20
decimal-few n = digits_few 19 n

-- a tenth of a number has a digit less of room
pub tenth : (k n : ℕ) → n < 10 ^ suc k → n / 10 < 10 ^ k
tenth k n h = omega arith

-- a number below a power of ten has no more digits than its exponent
pub digits_under : (more d n : ℕ) → n < 10 ^ suc d → length (digits_up_to more n) ≤ suc d
unfolding digits_up_to
digits_under zero d n h = omega arith
digits_under (suc more) zero n h = rw (lt-ltb n 10 (omega arith)) (omega arith)
digits_under (suc more) (suc d) n h = go (ltb n 10) (digits_under more d (n / 10) (omega arith))
  where
    go : (t : Bool) → length (digits_up_to more (n / 10)) ≤ suc d
        → length (pick t ((48 + n) ∷ []) (digits_up_to more (n / 10) ++ (48 + n % 10) ∷ [])) ≤ suc (suc d)
    go true k = omega arith
    go false k = omega (arith, length-append (digits_up_to more (n / 10)) ((48 + n % 10) ∷ []))
