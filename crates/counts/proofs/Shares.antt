-- What a share is; the statements are specs/Shares.antt. Of n / d, as 1000 × forwarded / loads, n / d rounded down is called the
-- whole and n % d the rest.
use Prim.Native.Nat.{ℕ, ◌+◌, ◌*◌, ◌/◌, ◌%◌, ◌≤◌, ◌<◌}
use native.Mathlib.Nat.{div-add-mod', mod-lt, mul-le-mul_right, div-eq_of_lt-le}
use native.Mathlib.Omega.{arith}
use mathlib.Core.Path.{◌≡◌, refl, sym, ◌∙◌}
use mathlib.Core.Logic.{◌≢◌}
use mathlib.Core.Bool.{Bool, true, false}
use lib.Dec.{eqb, ltb}
use borrow.Author.Tests.{ltb-true, ltb-false, eqb-true, eqb-false, eq-eqb, ne_eqb}
use Rattle.counts.specs.declared.Counts.{Counts}
use Rattle.counts.specs.Counts.{nearest, share}
use Rattle.counts.specs.Shares.{NearestHalfToEven, SharesNearest, OnlySharesNearest, NoLoadsNoShare}
use Rattle.counts.specs.Shares.{share_half_up, ExactHalf, HalvesGoToEven, EvenBelowHalf, OnlyHalvesDiffer}

-- whether the nearest is the whole or the next number, and what the rest is then
data Rounded (n d : ℕ) : Type 0 where
  down : 2 * (n % d) ≤ d → (2 * (n % d) ≡ d → n / d % 2 ≡ 0) → nearest n d ≡ n / d → Rounded n d
  up : d ≤ 2 * (n % d) → (2 * (n % d) ≡ d → n / d % 2 ≡ 1) → nearest n d ≡ n / d + 1 → Rounded n d

rounded : (n d : ℕ) → Rounded n d
rounded n d = go (ltb (2 * (n % d)) d) (ltb d (2 * (n % d))) (eqb (n / d % 2) 0) refl refl refl
  where
    go : (under over even : Bool) → ltb (2 * (n % d)) d ≡ under → ltb d (2 * (n % d)) ≡ over → eqb (n / d % 2) 0 ≡ even → Rounded n d
    go true over even e f g = let r = ltb-true (2 * (n % d)) d e in down (omega arith) (λ z. omega arith) (rw e)
    go false true even e f g = let r = ltb-true d (2 * (n % d)) f in up (omega arith) (λ z. omega arith) (rw (e, f))
    go false false true e f g =
        let is-even = eqb-true (n / d % 2) 0 g in
        down (ltb-false d (2 * (n % d)) f) (λ z. is-even) (rw (e, f, is-even) (omega arith))
    go false false false e f g =
        let is_odd : n / d % 2 ≡ 1 = omega (arith, eqb-false (n / d % 2) 0 g) in
        up (ltb-false (2 * (n % d)) d e) (λ z. is_odd) (rw (e, f, is_odd))

module _ (c : Counts) (some : 0 < c.loads) where
  abbrev n : ℕ
  n = 1000 * c.forwarded

  abbrev d : ℕ
  d = c.loads

  share-nearest : share c ≡ nearest n d
  share-nearest = rw (ne_eqb d 0 (λ z. omega arith))

  -- the share before S-3, by the two numbers that it lies between
  half-up-is : (s : ℕ) → s * (2 * d) ≤ 2000 * c.forwarded + d → 2000 * c.forwarded + d < (s + 1) * (2 * d) → share_half_up c ≡ s
  half-up-is s low high = rw (ne_eqb d 0 (λ z. omega arith)) (div-eq_of_lt-le (2 * d) low high)

  -- 1000 × forwarded is the whole times the loads, and the rest
  is_whole : n / d * d + n % d ≡ n
  is_whole = div-add-mod' n d

  rest-small : n % d < d
  rest-small = mod-lt n some

  nearest-right : NearestHalfToEven c (nearest n d)
  nearest-right = go (rounded n d)
    where
      go : Rounded n d → NearestHalfToEven c (nearest n d)
      go (down few even e) = rw e record {
        near = omega (arith, is_whole, rest-small);
        even = λ h. even (omega (arith, is_whole, rest-small));
      }
      go (up many odd e) = rw e record {
        near = omega (arith, is_whole, rest-small);
        even = λ h. omega (arith, odd (omega (arith, is_whole, rest-small)));
      }

  share-right : NearestHalfToEven c (share c)
  share-right = rw share-nearest nearest-right

  -- Two numbers are never both nearest: together they are off by 1 at least, so each is off by 1 / 2; then both are even, and so they
  -- are 2 apart.
  not-both : (s t : ℕ) → s < t → NearestHalfToEven c s → NearestHalfToEven c t → ⊥
  not-both s t less h k =
      let one-Apart = mul-le-mul_right d less in
      let s-even = h.even (omega (arith, h.near, k.near, one-Apart)) in
      let t-even = k.even (omega (arith, h.near, k.near, one-Apart)) in
      let two-apart : s + 2 ≤ t = omega arith in
      omega (arith, h.near, k.near, mul-le-mul_right d two-apart)

  only-share : (s : ℕ) → NearestHalfToEven c s → s ≡ share c
  only-share s h = go (ltb s (share c)) (ltb (share c) s) refl refl
    where
      go : (under over : Bool) → ltb s (share c) ≡ under → ltb (share c) s ≡ over → s ≡ share c
      go true over e f = absurd (not-both s (share c) (ltb-true s (share c) e) h share-right)
      go false true e f = absurd (not-both (share c) s (ltb-true (share c) s f) share-right h)
      go false false e f = omega (arith, ltb-false s (share c) e, ltb-false (share c) s f)

  -- at an exact half both neighbours are equally near, and the even one is the share
  half_is : (m : ℕ) → ExactHalf c m → share c ≡ m + m % 2
  half_is m h = go (eqb (m % 2) 0) refl
    where
      go : (even : Bool) → eqb (m % 2) 0 ≡ even → share c ≡ m + m % 2
      go true e =
          let m-even = eqb-true (m % 2) 0 e in
          let is = only-share m (record { near = omega arith; even = λ z. m-even }) in
          omega arith
      go false e =
          let m-odd : m % 2 ≡ 1 = omega (arith, eqb-false (m % 2) 0 e) in
          let is = only-share (m + 1) (record { near = omega arith; even = λ z. omega arith }) in
          omega arith

  half-was : (m : ℕ) → ExactHalf c m → share_half_up c ≡ m + 1
  half-was m h = half-up-is (m + 1) (omega arith) (omega arith)

  differs : share c ≢ share_half_up c → EvenBelowHalf c
  differs h = go (rounded n d) (ltb (2 * (n % d)) d) refl
    where
      go : Rounded n d → (under : Bool) → ltb (2 * (n % d)) d ≡ under → EvenBelowHalf c
      go (down few even e) true f =
          let under = ltb-true (2 * (n % d)) d f in
          absurd (h (share-nearest ∙ e ∙ sym (half-up-is (n / d) (omega (arith, is_whole)) (omega (arith, is_whole)))))
      go (down few even e) false f =
          let half : 2 * (n % d) ≡ d = omega (arith, ltb-false (2 * (n % d)) d f) in
          record { some_loads = some; lower = n / d; half = omega (arith, is_whole); even = even half }
      go (up many odd e) under f =
          absurd (h (share-nearest ∙ e ∙ sym (half-up-is (n / d + 1) (omega (arith, is_whole)) (omega (arith, is_whole, rest-small)))))

pub shares_nearest : SharesNearest
shares_nearest = share-right

pub only_shares_nearest : OnlySharesNearest
only_shares_nearest c s some h = only-share c some s h

pub no_loads_no_share : NoLoadsNoShare
no_loads_no_share c none = rw (eq-eqb c.loads 0 none)

pub halves_go_to_even : HalvesGoToEven
halves_go_to_even c m some h = record { was = half-was c some m h; is = half_is c some m h }

pub only_halves_differ : OnlyHalvesDiffer
only_halves_differ c h = go (eqb c.loads 0) refl
  where
    go : (none : Bool) → eqb c.loads 0 ≡ none → EvenBelowHalf c
    go true e = absurd (h (rw e))
    go false e = differs c (omega (arith, eqb-false c.loads 0 e)) h
