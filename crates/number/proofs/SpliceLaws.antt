-- Laws of writing bytes at a place of a buffer.
use Prim.Native.Nat.{ℕ, zero, suc, ◌+◌, ◌-◌, ◌/◌, ◌%◌, ◌≤◌, ◌<◌, ◌^◌}
use mathlib.Core.Path.{◌≡◌, refl, sym, ap, ◌∙◌}
use mathlib.Core.Bool.{Bool, true, false}
use mathlib.Core.List.{List, [], ◌∷◌, ◌++◌, append_assoc, append-nil}
use native.Mathlib.Omega.{arith}
use native.Mathlib.Nat.{add_assoc, add-zero, zero-add}
use native.Mathlib.Numerals.{add-one}
use lib.ListN.{length, get_or, take, drop, set, length-append, length-drop, length-set, take-append-drop}
use lib.Seq.{length-take-le, take-suc-set, drop-set-lt, take_at, drop-append-add, drop-drop, take-suc, take-take}
use borrow.Author.Tests.{lt-ltb, le-ltb, lt-leb, le-leb}
use lib.Dec.{ltb}
use Rattle.number.specs.Basics.{pick, splice}
use Rattle.number.specs.Refusal.{too_short}
use Rattle.number.specs.Reply.{accept}
use Rattle.number.specs.Number.{bytes_up_to, number_bytes, bytes_of, wrote, unwritten, Puts, PutIfFits}
use Rattle.number.proofs.NumberLaws.{number_bound}

pub splice_none : (d : List ℕ) (p : ℕ) → splice d p [] ≡ d
splice_none d p = rw (append-nil, add-zero) (take-append-drop p d)

-- one byte stored, and the rest spliced behind it
pub splice-set : (d : List ℕ) (p b : ℕ) (bs : List ℕ) → p < length d → splice (set d p b) (p + 1) bs ≡ splice d p (b ∷ bs)
splice-set d p b bs h =
    let e : p + 1 + length bs ≡ p + suc (length bs) = omega arith in
    rw (e, drop-set-lt (p + suc (length bs)) d p b (omega arith), add-one, take-suc-set d p b h) (simp append_assoc)

pub length-splice : (d : List ℕ) (p : ℕ) (bs : List ℕ) → p + length bs ≤ length d → length (splice d p bs) ≡ length d
length-splice d p bs h = rw (length-append, length-append, length-take-le p d (omega arith), length-drop) (omega arith)

-- bytes spliced behind bytes
pub splice-splice : (d : List ℕ) (p : ℕ) (xs ys : List ℕ) → p + length xs ≤ length d
    → splice (splice d p xs) (p + length xs) ys ≡ splice d p (xs ++ ys)
splice-splice d p xs ys h =
    let n : length (take p d ++ xs) ≡ p + length xs = rw (length-append, length-take-le p d (omega arith)) in
    let t : take (p + length xs) (splice d p xs) ≡ take p d ++ xs = take_at (take p d ++ xs) (drop (p + length xs) d) (p + length xs) n in
    let r : drop (p + length xs + length ys) (splice d p xs) ≡ drop (p + length (xs ++ ys)) d =
    rw (length-append, ← n) (drop-append-add (take p d ++ xs) (drop (length (take p d ++ xs)) d) (length ys)
    ∙ drop-drop (length ys) (length (take p d ++ xs)) d ∙ rw (n, add_assoc)) in
    rw (t, r) (simp append_assoc)

pub splice_front : (d bs : List ℕ) → splice d 0 bs ≡ bs ++ drop (length bs) d
splice_front d bs = rw zero-add

-- what a writer leaves, where its bytes are too many for the buffer and where they fit
pub wrote-short : (bytes buffer : List ℕ) → length buffer < length bytes → wrote bytes buffer ≡ unwritten too_short buffer
unfolding wrote
wrote-short bytes buffer h = rw (lt-leb _ _ h)

pub wrote-fits : (bytes buffer : List ℕ) → length bytes ≤ length buffer
    → wrote bytes buffer ≡ record { answer = accept (length bytes); buffer = splice buffer 0 bytes }
unfolding wrote
wrote-fits bytes buffer h = rw (le-leb _ _ h, zero-add)

-- what is put at a place, where there is room and where there is none
module _ {buffer bytes left : List ℕ} {at r : ℕ} where
  pub put-at : at + length bytes ≤ length buffer → PutIfFits buffer at bytes r left → Puts buffer at bytes r left
  put-at h w = record { ends = rw (le-leb _ _ h) at w.ends; is = rw (le-leb _ _ h) at w.is }

  pub put-fits : at + length bytes ≤ length buffer → Puts buffer at bytes r left → PutIfFits buffer at bytes r left
  put-fits h w = record { ends = rw (le-leb _ _ h) w.ends; is = rw (le-leb _ _ h) w.is }

pub put-nothing : {buffer bytes : List ℕ} {at : ℕ} → length buffer < at + length bytes → PutIfFits buffer at bytes at buffer
put-nothing h = record { ends = rw (lt-leb _ _ h); is = rw (lt-leb _ _ h) }

-- ---- a number's bytes, stored one by one: `left` is what is still to be written, from `place` on
pub record Putting (d : List ℕ) (p n : ℕ) (out : List ℕ) (left place : ℕ) : Type 0 where
  pub is : splice out place (bytes_up_to (p + 4 - place) left) ≡ splice d p (number_bytes n)
  pub ends : place + length (bytes_up_to (p + 4 - place) left) ≡ p + length (number_bytes n)
  pub from : p ≤ place
  pub up_to : place ≤ p + 4
  pub below : left < number_bound (p + 4 - place)
  pub long : length out ≡ length d

pub putting_none : {d : List ℕ} {p n : ℕ} → n < 2 ^ 32 → Putting d p n d n p
putting_none {d} {p} {n} h =
    let e : p + 4 - p ≡ 4 = omega arith in
    record { is = rw e; ends = rw e; from = omega arith; up_to = omega arith; below = rw e (omega arith); long = refl }

pub bytes_some : (more n : ℕ) → 0 < length (bytes_up_to more n)
unfolding bytes_up_to
bytes_some zero n = omega arith
bytes_some (suc more) n = go (ltb n 128)
  where
    go : (t : Bool) → 0 < length (pick t (n ∷ []) ((128 + n % 128) ∷ bytes_up_to more (n / 128)))
    go true = omega arith
    go false = omega arith

module _ {d : List ℕ} {p n : ℕ} {out : List ℕ} {left place : ℕ} (w : Putting d p n out left place) where
  pub putting-room : p + length (number_bytes n) ≤ length d → place < length out
  putting-room h = omega (arith, w.ends, w.long, bytes_some (p + 4 - place) left)

  -- more bytes may follow where one group does not hold what is left
  more_left : 128 ≤ left → (more : ℕ) × (p + 4 - place ≡ suc more)
  more_left h = go (p + 4 - place) refl
    where
      go : (m : ℕ) → p + 4 - place ≡ m → (more : ℕ) × (p + 4 - place ≡ suc more)
      go zero e = let b = rw e at w.below in absurd (omega arith)
      go (suc m) e = (m, e)

  pub putting-more : p + length (number_bytes n) ≤ length d → 128 ≤ left → Putting d p n (set out place (128 + left % 128)) (left / 128) (place + 1)
  unfolding bytes_up_to
  putting-more h k = go (more_left k)
    where
      go : (more : ℕ) × (p + 4 - place ≡ suc more) → Putting d p n (set out place (128 + left % 128)) (left / 128) (place + 1)
      go (m, e) =
          let f : p + 4 - (place + 1) ≡ m = omega arith in
          let i = rw (e, le-ltb left 128 k) at w.is in
          let j = rw (e, le-ltb left 128 k) at w.ends in
          let b = rw e at w.below in
          record {
            is = rw (f, splice-set out place (128 + left % 128) (bytes_up_to m (left / 128)) (putting-room h)) i;
            ends = rw f (omega arith);
            from = omega (arith, w.from);
            up_to = omega arith;
            below = rw f (omega arith);
            long = length-set out place (128 + left % 128) ∙ w.long;
          }

  last_byte : left < 128 → bytes_up_to (p + 4 - place) left ≡ left ∷ []
  unfolding bytes_up_to
  last_byte k = go (p + 4 - place)
    where
      go : (m : ℕ) → bytes_up_to m left ≡ left ∷ []
      go zero = refl
      go (suc m) = rw (lt-ltb left 128 k)

  pub putting-end : p + length (number_bytes n) ≤ length d → left < 128
      → Puts d p (number_bytes n) (place + 1) (set out place left)
  putting-end h k =
      let i = rw (last_byte k) at w.is in
      let j = rw (last_byte k) at w.ends in
      record { ends = j; is = sym (splice_none (set out place left) (place + 1)) ∙ splice-set out place left [] (putting-room h) ∙ i }

-- ---- numbers put one after the other
pub bytes_append : (xs ys : List ℕ) → bytes_of (xs ++ ys) ≡ bytes_of xs ++ bytes_of ys
bytes_append [] ys = refl
bytes_append (x ∷ xs) ys = rw (bytes_append xs ys) (sym (append_assoc (number_bytes x) (bytes_of xs) (bytes_of ys)))

pub bytes_most : (n : ℕ) → length (number_bytes n) ≤ 5
unfolding bytes_up_to
bytes_most n = up-to 4 n
  where
    up-to : (more n : ℕ) → length (bytes_up_to more n) ≤ suc more
    up-to zero n = omega arith
    up-to (suc more) n = go (ltb n 128) (up-to more (n / 128))
      where
        go : (t : Bool) → length (bytes_up_to more (n / 128)) ≤ suc more
            → length (pick t (n ∷ []) ((128 + n % 128) ∷ bytes_up_to more (n / 128))) ≤ suc (suc more)
        go true h = omega arith
        go false h = omega arith

-- a front of the numbers takes no more bytes than all of them
pub bytes-front : (ns : List ℕ) (i : ℕ) → length (bytes_of (take i ns)) ≤ length (bytes_of ns)
bytes-front ns i =
    let e : bytes_of ns ≡ bytes_of (take i ns) ++ bytes_of (drop i ns) = ap bytes_of (sym (take-append-drop i ns)) ∙ bytes_append (take i ns) (drop i ns) in
    rw (e, length-append) (omega arith)

-- `out` is `d` with the bytes of these numbers at a place, and `end` is where they end
pub record NumbersPut (d : List ℕ) (place : ℕ) (ns : List ℕ) (out : List ℕ) (end : ℕ) : Type 0 where
  pub is : out ≡ splice d place (bytes_of ns)
  pub ends : end ≡ place + length (bytes_of ns)

pub put_none : {d : List ℕ} {place : ℕ} → NumbersPut d place [] d place
put_none {d} {place} = record { is = sym (splice_none d place); ends = sym (add-zero place) }

module _ {d : List ℕ} {place : ℕ} {ns out : List ℕ} {end : ℕ} (w : NumbersPut d place ns out end) where
  pub put-length : place + length (bytes_of ns) ≤ length d → length out ≡ length d
  put-length h = rw w.is (length-splice d place (bytes_of ns) h)

  -- what more numbers put behind them make
  pub put-more : (ms : List ℕ) {out₂ : List ℕ} {end₂ : ℕ} → place + length (bytes_of ns) ≤ length d → out₂ ≡ splice out end (bytes_of ms)
      → end₂ ≡ end + length (bytes_of ms) → NumbersPut d place (ns ++ ms) out₂ end₂
  put-more ms h e f = record {
    is = e ∙ rw (w.is, w.ends, splice-splice d place (bytes_of ns) (bytes_of ms) h, bytes_append ns ms);
    ends = f ∙ rw (w.ends, bytes_append ns ms, length-append, add_assoc);
  }

  pub put_one : (n : ℕ) {out₂ : List ℕ} {end₂ : ℕ} → place + length (bytes_of ns) ≤ length d → out₂ ≡ splice out end (number_bytes n)
      → end₂ ≡ end + length (number_bytes n) → NumbersPut d place (ns ++ n ∷ []) out₂ end₂
  put_one n h e f = put-more (n ∷ []) h (e ∙ rw append-nil) (f ∙ rw append-nil)

-- ---- how many bytes the first i of some numbers take
pub record BytesCounted (ns : List ℕ) (i total : ℕ) : Type 0 where
  pub is : total ≡ length (bytes_of (take i ns))

pub counted_none : {ns : List ℕ} → BytesCounted ns 0 0
counted_none = record { is = refl }

-- the bytes of one number more
pub bytes_next : (ns : List ℕ) (i : ℕ) → i < length ns → bytes_of (take (i + 1) ns) ≡ bytes_of (take i ns) ++ number_bytes (get_or ns i 0)
bytes_next ns i h = rw (add-one, take-suc ns i 0 h, bytes_append, append-nil)

pub counted_more : {ns : List ℕ} {i total n : ℕ} → BytesCounted ns i total → i < length ns → n ≡ length (number_bytes (get_or ns i 0))
    → BytesCounted ns (i + 1) (total + n)
counted_more {ns} {i} w h e = record { is = rw (bytes_next ns i h, length-append, w.is, e) }

pub counted_end : {ns : List ℕ} {i total count : ℕ} → BytesCounted ns i total → i ≡ count → total ≡ length (bytes_of (take count ns))
counted_end {ns} w e = rw (← e) w.is

-- the bytes of the first i numbers and of the next one are among those of the first `count`
pub bytes_room : (ns : List ℕ) (count i : ℕ) → i < count → count ≤ length ns
    → length (bytes_of (take i ns)) + length (number_bytes (get_or ns i 0)) ≤ length (bytes_of (take count ns))
bytes_room ns count i h k =
    let e : take (i + 1) (take count ns) ≡ take (i + 1) ns = take-take (i + 1) count ns (omega arith) in
    let f = rw (e, bytes_next ns i (omega arith), length-append) at (bytes-front (take count ns) (i + 1)) in
    f

-- two numbers put one after the other
pub put_two : {d : List ℕ} {place : ℕ} {ns out : List ℕ} {end : ℕ} {out₁ out₂ : List ℕ} {end₁ end₂ : ℕ}
    → NumbersPut d place ns out end → (x y : ℕ) → place + length (bytes_of ns) + length (number_bytes x) ≤ length d
    → out₁ ≡ splice out end (number_bytes x) → end₁ ≡ end + length (number_bytes x)
    → out₂ ≡ splice out₁ end₁ (number_bytes y) → end₂ ≡ end₁ + length (number_bytes y)
    → NumbersPut d place (ns ++ x ∷ y ∷ []) out₂ end₂
put_two {d} {place} {ns} w x y h e f e₂ f₂ =
    let k : place + length (bytes_of (ns ++ x ∷ [])) ≤ length d = rw (bytes_append ns (x ∷ []), length-append, append-nil) (omega arith) in
    rw append_assoc at (put_one (put_one w x (omega arith) e f) y k e₂ f₂)
