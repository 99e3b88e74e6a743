-- Laws of reading numbers.
use Prim.Native.Nat.{ℕ, zero, suc, ◌+◌, ◌-◌, ◌*◌, ◌≤◌, ◌<◌, ◌^◌}
use mathlib.Core.Path.{◌≡◌, refl, sym, ap, ◌∙◌}
use mathlib.Core.Bool.{Bool, true, false, not, ◌&&◌}
use mathlib.Core.List.{List, [], ◌∷◌}
use native.Mathlib.Omega.{arith}
use native.Mathlib.Numerals.{add-one}
use lib.Dec.{ltb, eqb}
use lib.ListN.{length, get_or, take, drop, length-drop, drop_of_length-le}
use lib.Seq.{drop-cons, length-take-le, get_or-take, get_or-drop}
use native.Mathlib.Nat.{add-mul, mul_assoc, mul_comm, mul-le-mul_left, mul-le-mul_right}
use borrow.Author.Tests.{lt-ltb, le-ltb, le-leb, lt-leb}
use Rattle.number.specs.Refusal.{ended, too_large, padded_number}
use Rattle.number.specs.Reply.{Reply, refuse, accept, need}
use Rattle.number.specs.Number.{Got, got, then_read, above, number_up_to, read_number, place_of, bytes_before, last_of, padded, reading, read_in}
use Rattle.number.specs.Internal.{ended_by}

-- the place where what is left after `at` bytes begins
pub place_drop : (s : List ℕ) (at : ℕ) → at ≤ length s → place_of s (drop at s) ≡ at
place_drop s at h = rw length-drop (omega arith)

-- numbers of one byte and up to `more` after it are below this where, of the most bytes that there may be, the last is at most `top`
abbrev pub bound_of : ℕ → ℕ → ℕ
bound_of top zero = suc top
bound_of top (suc more) = 128 * bound_of top more

-- where it is at most 0F
abbrev pub number_bound : ℕ → ℕ
number_bound = bound_of 15

pub bound_least : (top more : ℕ) → top < bound_of top more
bound_least top zero = omega arith
bound_least top (suc more) = omega (arith, bound_least top more)

-- ---- reading a number byte by byte

-- what the bytes at a place say, where a number of one byte and up to `more` after it is read
module _ (s : List ℕ) (at : ℕ) where
  up-ended : (more : ℕ) → length s ≤ at → number_up_to more 15 (drop at s) ≡ refuse ended
  unfolding number_up_to
  up-ended zero h = rw (drop_of_length-le s h)
  up-ended (suc more) h = rw (drop_of_length-le s h)

  module _ (h : at < length s) where
    up-last : get_or s at 0 ≤ 15 → number_up_to zero 15 (drop at s) ≡ accept (got (get_or s at 0) (drop (at + 1) s))
    unfolding number_up_to
    up-last k = rw (drop-cons s at 0 h, le-leb _ _ k, add-one)

    up-too-large : 15 < get_or s at 0 → number_up_to zero 15 (drop at s) ≡ refuse too_large
    unfolding number_up_to
    up-too-large k = rw (drop-cons s at 0 h, lt-leb _ _ k)

    module _ {more fewer : ℕ} (e : more ≡ suc fewer) where
      up_one : get_or s at 0 < 128 → number_up_to more 15 (drop at s) ≡ accept (got (get_or s at 0) (drop (at + 1) s))
      unfolding number_up_to
      up_one k = rw (e, drop-cons s at 0 h, lt-ltb _ _ k, add-one)

      up_more : 128 ≤ get_or s at 0 → number_up_to more 15 (drop at s) ≡ above (get_or s at 0 - 128) (number_up_to fewer 15 (drop (at + 1) s))
      unfolding number_up_to
      up_more k = rw (e, drop-cons s at 0 h, le-ltb _ _ k, add-one)

-- a number of higher groups above the groups worth `value`, where the next group counts `scale`
abbrev over : ℕ → ℕ → Reply (Got ℕ) → Reply (Got ℕ)
over value scale r = then_read r λ n s. accept (got (value + n * scale) s)

over_none : (r : Reply (Got ℕ)) → over 0 1 r ≡ r
over_none (accept (got n s)) = let e : 0 + n * 1 ≡ n = omega arith in rw e
over_none (refuse k) = refl

over_above : (value low scale : ℕ) (r : Reply (Got ℕ)) → over value scale (above low r) ≡ over (value + low * scale) (scale * 128) r
over_above value low scale (accept (got n s)) =
    let e : (low + 128 * n) * scale ≡ low * scale + n * (scale * 128) = add-mul low (128 * n) scale ∙ rw (mul_comm 128 n, mul_assoc, mul_comm 128 scale) in
    let d : value + (low + 128 * n) * scale ≡ value + low * scale + n * (scale * 128) = omega arith in
    rw d
over_above value low scale (refuse k) = refl

-- the bytes from `at` to `place` are groups of a number, worth `value`; the next group counts `scale`, and up to `more` may follow it
pub record NumberSoFar (s : List ℕ) (at value scale place : ℕ) : Type 0 where
  pub more : ℕ
  pub is : number_up_to 4 15 (drop at s) ≡ over value scale (number_up_to more 15 (drop place s))
  pub below : value < scale
  pub room : scale * number_bound more ≡ 2 ^ 32
  pub from : at ≤ place

pub number_begun : {s : List ℕ} {at : ℕ} → NumberSoFar s at 0 1 at
number_begun {s} {at} =
    record { more = 4; is = sym (over_none (number_up_to 4 15 (drop at s))); below = omega arith; room = refl; from = omega arith }

-- the scale tells whether the next group is the fifth
module _ (scale : ℕ) where
  scale-most : (more : ℕ) → scale * number_bound (suc more) ≡ 2 ^ 32 → scale * 128 ≤ 2 ^ 28
  scale-most more r = omega (arith, mul_assoc scale 128 (number_bound more), mul-le-mul_left (scale * 128) (bound_least 15 more))

  fifth : (more : ℕ) → scale * number_bound more ≡ 2 ^ 32 → 2 ^ 28 ≤ scale → more ≡ 0
  fifth zero r h = refl
  fifth (suc more) r h = absurd (omega (arith, scale-most more r))

  not-fifth : (more : ℕ) → scale * number_bound more ≡ 2 ^ 32 → scale < 2 ^ 28 → more ≡ suc (more - 1)
  not-fifth zero r h = absurd (omega arith)
  not-fifth (suc more) r h = omega arith

-- what each of the first four bytes of a number counts, and what one after these many does
abbrev pub scales : List ℕ
scales = 1 ∷ 128 ∷ 16384 ∷ 2097152 ∷ []

abbrev pub scale_of : ℕ → ℕ
scale_of i = get_or (1 ∷ 128 ∷ 16384 ∷ 2097152 ∷ 268435456 ∷ []) i 0

scale_in : (i : ℕ) → i < 4 → (get_or scales i 0 ≡ scale_of i) × (get_or scales i 0 < 2 ^ 28) × (get_or scales i 0 * 128 ≡ scale_of (i + 1))
scale_in zero h = (refl, omega arith, refl)
scale_in (suc zero) h = (refl, omega arith, refl)
scale_in (suc (suc zero)) h = (refl, omega arith, refl)
scale_in (suc (suc (suc zero))) h = (refl, omega arith, refl)
scale_in (suc (suc (suc (suc i)))) h = absurd (omega arith)

-- the fifth counts this
four : (i : ℕ) → i ≤ 4 → 4 ≤ i → scale_of i ≡ 2 ^ 28
four i h k =
    let e : i ≡ 4 = omega arith in
    rw e

pub scale-small : {i : ℕ} → i < 4 → get_or scales i 0 < 2 ^ 28
scale-small {i} h = (scale_in i h).1

last_at : (l : List ℕ) → last_of l ≡ get_or l (length l - 1) 0
last_at [] = refl
last_at (b ∷ []) = refl
last_at (b ∷ c ∷ cs) =
    let e : suc (suc (length cs)) - 1 ≡ suc (suc (length cs) - 1) = omega arith in
    last_at (c ∷ cs) ∙ rw e

-- the bytes from `at` to `place`, and the byte there, are padding where that byte is 00 and not the only one
padded_at : (s : List ℕ) (at place : ℕ) → at ≤ place → place < length s
    → padded (bytes_before (drop at s) (drop (place + 1) s)) ≡ (ltb 1 (place + 1 - at) && eqb (get_or s place 0) 0)
padded_at s at place h k =
    let n : place_of (drop at s) (drop (place + 1) s) ≡ place + 1 - at = rw (length-drop, length-drop) (omega arith) in
    let l : length (take (place + 1 - at) (drop at s)) ≡ place + 1 - at = length-take-le (place + 1 - at) (drop at s) (rw length-drop (omega arith)) in
    let i : at + (place + 1 - at - 1) ≡ place = omega arith in
    let e : last_of (take (place + 1 - at) (drop at s)) ≡ get_or s place 0 =
    last_at (take (place + 1 - at) (drop at s)) ∙ rw l (get_or-take (place + 1 - at) (drop at s) (place + 1 - at - 1) 0 (omega arith)
    ∙ get_or-drop at s (place + 1 - at - 1) 0 ∙ rw i) in
    rw (n, l, e)

read_in_need : {A : Type 0} (s : List ℕ) (t : Bool) (k : ℕ) (a : A) (rest : List ℕ)
    → read_in s (need t k (accept (got a rest))) ≡ need t k (accept (reading a (place_of s rest)))
read_in_need s true k a rest = refl
read_in_need s false k a rest = refl

module _ {s : List ℕ} {at value scale place : ℕ} (w : NumberSoFar s at value scale place) where
  pub number-ended : length s ≤ place → refuse ended ≡ read_in s (read_number (drop at s))
  unfolding read_number
  number-ended h = rw (w.is, up-ended s place w.more h)

  -- a group that ends the number
  ends : place < length s → number_up_to w.more 15 (drop place s) ≡ accept (got (get_or s place 0) (drop (place + 1) s))
      → ended_by at (place + 1) (get_or s place 0) (value + get_or s place 0 * scale) ≡ read_in s (read_number (drop at s))
  unfolding read_number
  ends h e =
      rw (
        w.is,
        e,
        padded_at s at place w.from h,
        read_in_need s (not (ltb 1 (place + 1 - at) && eqb (get_or s place 0) 0)) padded_number (value + get_or s place 0 * scale) (drop (place + 1) s),
        place_drop s (place + 1) (omega arith),
      )

  module _ (t : scale < 2 ^ 28) where
    some : w.more ≡ suc (w.more - 1)
    some = not-fifth scale w.more w.room t

    room-left : scale * number_bound (suc (w.more - 1)) ≡ 2 ^ 32
    room-left = ap (λ (m : ℕ). scale * number_bound m) (sym some) ∙ w.room

    pub group-fits : (b : ℕ) → b < 128 → (value + b * scale < scale * 128) × (scale * 128 ≤ 2 ^ 28)
    group-fits b k = (omega (arith, w.below, mul-le-mul_right {m = b} {n = 127} scale (omega arith)), scale-most scale (w.more - 1) room-left)

    module _ (h : place < length s) where
      pub number-one : get_or s place 0 < 128
          → ended_by at (place + 1) (get_or s place 0) (value + get_or s place 0 * scale) ≡ read_in s (read_number (drop at s))
      number-one k = ends h (up_one s place h some k)

      pub number_more : 128 ≤ get_or s place 0 → get_or s place 0 < 256 → NumberSoFar s at (value + (get_or s place 0 - 128) * scale) (scale * 128) (place + 1)
      number_more k b =
          record {
            more = w.more - 1;
            is = w.is ∙ ap (over value scale) (up_more s place h some k)
                ∙ over_above value (get_or s place 0 - 128) scale (number_up_to (w.more - 1) 15 (drop (place + 1) s));
            below = (group-fits (get_or s place 0 - 128) (omega arith)).0;
            room = mul_assoc scale 128 (number_bound (w.more - 1)) ∙ room-left;
            from = omega (arith, w.from);
          }

  module _ (t : 2 ^ 28 ≤ scale) where
    none : w.more ≡ 0
    none = fifth scale w.more w.room t

    pub last_fits : (b : ℕ) → b ≤ 15 → value + b * scale < 2 ^ 32
    last_fits b k =
        let r : scale * 16 ≡ 2 ^ 32 = ap (λ (m : ℕ). scale * number_bound m) (sym none) ∙ w.room in
        omega (arith, w.below, mul-le-mul_right {m = b} {n = 15} scale k)

    module _ (h : place < length s) where
      pub number_last : get_or s place 0 ≤ 15
          → ended_by at (place + 1) (get_or s place 0) (value + get_or s place 0 * scale) ≡ read_in s (read_number (drop at s))
      number_last k = ends h (rw none (up-last s place h k))

      pub number-too-large : 15 < get_or s place 0 → refuse too_large ≡ read_in s (read_number (drop at s))
      unfolding read_number
      number-too-large k = rw (w.is, none, up-too-large s place h k)

-- the same, by the places of the scales
module _ {s : List ℕ} {at value place i : ℕ} where
  pub number_going : NumberSoFar s at value (scale_of i) place → i < 4 → NumberSoFar s at value (get_or scales i 0) place
  number_going w h = rw ((scale_in i h).0) w

  pub number_gone : NumberSoFar s at value (get_or scales i 0 * 128) place → i < 4 → NumberSoFar s at value (scale_of (i + 1)) place
  number_gone w h = rw (sym ((scale_in i h).2)) w

  -- behind the four
  pub number_over : NumberSoFar s at value (scale_of i) place → i ≤ 4 → 4 ≤ i → NumberSoFar s at value (2 ^ 28) place
  number_over w h k =
      let e : scale_of i ≡ 2 ^ 28 = four i h k in
      rw (sym e) w
