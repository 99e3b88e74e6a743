-- How long a number is: its bytes, by its significant bits. The statements are specs/Number.antt.
use Prim.Native.Nat.{ℕ, zero, suc, ◌+◌, ◌-◌, ◌*◌, ◌/◌, ◌%◌, ◌≤◌, ◌<◌, ◌^◌}
use mathlib.Core.Path.{◌≡◌, refl, sym}
use mathlib.Core.Bool.{Bool, true, false}
use mathlib.Core.List.{[], ◌∷◌}
use native.Mathlib.Omega.{arith}
use native.Mathlib.Nat.{lt_of_not-le, pow-suc}
use lib.Count.{leading_length}
use lib.Dec.{ltb}
use lib.ListN.{length}
use lib.Pow.{pow-add, pow_mono}
use borrow.Author.Tests.{ltb-true, ltb-false}
use Rattle.number.specs.Basics.{pick}
use Rattle.number.specs.Number.{significant_bits_in, significant_bits, byte_count, bytes_up_to, number_bytes}
use Rattle.number.specs.Number.{FewestBits, BitsAreFewest, NumberLength, NumberLengths, CountsAreFewest}

-- a number of so many significant bits: they hold it, and no fewer do
record Bits (n bits : ℕ) : Type 0 where
  below : n < 2 ^ bits
  least : 2 ^ bits ≤ 2 * n + 1

significant : (width n : ℕ) → n < 2 ^ width → Bits n (significant_bits_in width n)
significant width n h =
    let (bits, e, below, least) = leading_length width n h in
    let is : significant_bits_in width n ≡ bits = omega arith in
    rw is (record { below = below; least = least })

module _ {n bits : ℕ} (b : Bits n bits) (k : ℕ) where
  bits-hold : bits ≤ k → n < 2 ^ k
  bits-hold few = omega (arith, b.below, pow_mono few)

  bits_most : n < 2 ^ k → bits ≤ k
  bits_most h =
      let few : bits < suc k = lt_of_not-le λ many. omega (arith, b.least, pow_mono many, pow-suc 2 k) in
      omega arith

pub bits_are_fewest : BitsAreFewest
bits_are_fewest = (fewest, fewest 32)
  where
    fewest : (width : ℕ) → FewestBits width (significant_bits_in width)
    fewest width n k h =
        let b = significant width n h in
        (λ few. bits-hold b k (omega arith), λ fits. omega (arith, bits_most b k fits))

-- the bits of what is left of a number after its lowest seven
bits_left : {n bits : ℕ} → Bits n (7 + bits) → Bits (n / 128) bits
bits_left {n} {bits} b =
    let power : 2 ^ (7 + bits) ≡ 128 * 2 ^ bits = pow-add 2 7 bits in
    record { below = omega (arith, b.below); least = omega (arith, b.least) }

-- The bytes of a number are as many as its bits call for, where there is room for those: up to seven go in each.
length_by_bits : (more bits n : ℕ) → bits ≤ 7 * (1 + more) → Bits n bits → length (bytes_up_to more n) ≡ byte_count bits
unfolding bytes_up_to
length_by_bits zero bits n room b = omega arith
length_by_bits (suc more) bits n room b = go (ltb n 128) refl λ fewer r c. length_by_bits more fewer (n / 128) r c
  where
    go : (t : Bool) → ltb n 128 ≡ t
        → ((fewer : ℕ) → fewer ≤ 7 * (1 + more) → Bits (n / 128) fewer → length (bytes_up_to more (n / 128)) ≡ byte_count fewer)
        → length (pick t (n ∷ []) ((128 + n % 128) ∷ bytes_up_to more (n / 128))) ≡ byte_count bits
    go true e rest = omega (arith, bits_most b 7 (ltb-true n 128 e))
    go false e rest =
        let many : 7 < bits = lt_of_not-le λ few. omega (arith, ltb-false n 128 e, bits-hold b 7 few) in
        let is : bits ≡ 7 + (bits - 7) = omega arith in
        omega (arith, rest (bits - 7) (omega arith) (bits_left (rw is at b)))

-- k bytes hold 7 * k bits
bytes_hold : (k : ℕ) → 128 ^ k ≡ 2 ^ (7 * k)
bytes_hold zero = refl
bytes_hold (suc k) =
    let e : 7 * suc k ≡ 7 * k + 7 = omega arith in
    rw (e, pow-suc, pow-add, bytes_hold k)

pub number_lengths : NumberLengths
number_lengths width more n h fits =
    let b = significant width n h in
    let room = bits_most b (7 * (1 + more)) (omega (arith, bytes_hold (1 + more))) in
    length_by_bits more (significant_bits_in width n) n room b

pub number_length : NumberLength
number_length n h = number_lengths _ 4 n h (omega arith)

-- the same the other way round, as the proof of `number_length` cites it
pub number_length_law : (n : ℕ) → n < 2 ^ 32 → byte_count (significant_bits n) ≡ length (number_bytes n)
number_length_law n h = sym (number_length n h)

pub counts_are_fewest : CountsAreFewest
counts_are_fewest width n k h =
    let b = significant width n h in
    rw (bytes_hold k) (
      λ few. (omega arith, bits-hold b (7 * k) (omega arith)),
      λ fits. omega (arith, fits.0, bits_most b (7 * k) fits.1),
    )
