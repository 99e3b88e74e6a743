-- Numbers: what is written is read, and what is read was written so. The statements are specs/Number.antt.
use Prim.Native.Nat.{ℕ, zero, suc, ◌+◌, ◌-◌, ◌*◌, ◌/◌, ◌%◌, ◌≤◌, ◌<◌, ◌^◌}
use mathlib.Core.Path.{◌≡◌, refl, sym, ap, ◌∙◌}
use mathlib.Core.Bool.{Bool, true, false, not, ◌&&◌}
use mathlib.Core.List.{List, [], ◌∷◌, ◌++◌, append_assoc}
use native.Mathlib.Omega.{arith}
use lib.Dec.{leb, ltb, eqb}
use lib.ListN.{length, drop, length-append, length-drop}
use lib.Seq.{take_at, drop_at, drop-drop}
use borrow.Author.Tests.{lt-ltb, le-ltb, le-leb, leb-true, ltb-true, ltb-false, eqb-false, ne_eqb, not-true}
use Rattle.number.specs.Basics.{pick, all_of}
use Rattle.number.specs.Refusal.{ended, too_large, padded_number}
use Rattle.number.specs.Reply.{Reply, refuse, accept}
use Rattle.number.specs.Number.{Got, got, above, number_up_to, read_number, place_of, bytes_before, last_of, padded, reading, read_in}
use Rattle.number.specs.Number.{bytes_up_to, number_bytes, bytes_of, Fit, fit_none, fit_one, is_byte, AreBytes}
use Rattle.number.specs.Number.{WrittenAreBytes, NumbersReadBack, NumbersAreWritten, PaddingIsRefused, FewestBytes}
use Rattle.number.proofs.Both.{and_left, and_right}
use Rattle.number.proofs.ReplyLaws.{refused-accepted, of_read, need-accepts, then_read_accepts, refuses_among, refused-among, need-among, then_read_among}
use Rattle.number.proofs.NumberLaws.{bound_of, number_bound, bound_least, place_drop}

-- ---- what is read

-- The bytes of a number that was read, the first of them and the others: they stand before the rest, are no fewer than the writer's,
-- and are the writer's unless they are padded.
pub record BytesRead (more top : ℕ) (s : List ℕ) (n : ℕ) (rest : List ℕ) : Type 0 where
  pub first : ℕ
  pub others : List ℕ
  pub whole : s ≡ (first ∷ others) ++ rest
  pub fits : AreBytes s → n < bound_of top more
  pub fewest : AreBytes s → length (bytes_up_to more n) ≤ suc (length others)
  pub some : eqb (last_of (first ∷ others)) 0 ≡ false → 0 < n
  pub written : AreBytes s → padded (first ∷ others) ≡ false → first ∷ others ≡ bytes_up_to more n

some_left : (b : ℕ) → eqb b 0 ≡ false → 0 < b
some_left b e = let z = eqb-false b 0 e in omega arith

-- a number of one byte
one_byte : (more top b : ℕ) (s : List ℕ) → b < bound_of top more → bytes_up_to more b ≡ b ∷ [] → BytesRead more top (b ∷ s) b s
one_byte more top b s h e = record {
  first = b;
  others = [];
  whole = refl;
  fits = λ a. h;
  fewest = λ a. rw e (omega arith);
  some = some_left b;
  written = λ a p. sym e;
}

-- a byte with bit 7 before the bytes of a number of higher groups
byte_more : (more top b : ℕ) (s : List ℕ) (m : ℕ) (rest : List ℕ) → 128 ≤ b → BytesRead more top s m rest
    → BytesRead (suc more) top (b ∷ s) (b - 128 + 128 * m) rest
unfolding bytes_up_to
byte_more more top b s m rest h w = record {
  first = b;
  others = w.first ∷ w.others;
  whole = ap (λ (l : List ℕ). b ∷ l) w.whole;
  fits = λ a. omega (arith, w.fits (and_right (is_byte b) _ a), byte a);
  fewest = λ a. rw (quotient a) (over (ltb (b - 128 + 128 * m) 128) (w.fewest (and_right (is_byte b) _ a)));
  some = λ e. omega (arith, w.some e);
  written = λ a p.
      let e : eqb (last_of (w.first ∷ w.others)) 0 ≡ false = rw (lt-ltb 1 (suc (suc (length w.others))) (omega arith)) at p in
      let q : ltb (b - 128 + 128 * m) 128 ≡ false = le-ltb (b - 128 + 128 * m) 128 (omega (arith, w.some e)) in
      let r : 128 + (b - 128 + 128 * m) % 128 ≡ b = omega (arith, byte a) in
      let t : w.first ∷ w.others ≡ bytes_up_to more m = w.written (and_right (is_byte b) _ a) (unpadded w.others e) in
      rw (q, quotient a, r) (ap (λ (l : List ℕ). b ∷ l) t);
}
  where
    byte : AreBytes (b ∷ s) → b < 256
    byte a = ltb-true b 256 (and_left (is_byte b) _ a)

    quotient : AreBytes (b ∷ s) → (b - 128 + 128 * m) / 128 ≡ m
    quotient a = omega (arith, byte a)

    over : (t : Bool) → length (bytes_up_to more m) ≤ suc (length w.others)
        → length (pick t ((b - 128 + 128 * m) ∷ []) ((128 + (b - 128 + 128 * m) % 128) ∷ bytes_up_to more m)) ≤ suc (suc (length w.others))
    over true k = omega arith
    over false k = omega arith

    unpadded : (l : List ℕ) → eqb (last_of (w.first ∷ l)) 0 ≡ false → padded (w.first ∷ l) ≡ false
    unpadded l e = go (ltb 1 (suc (length l))) e
      where
        go : (t : Bool) → eqb (last_of (w.first ∷ l)) 0 ≡ false → (t && eqb (last_of (w.first ∷ l)) 0) ≡ false
        go true f = f
        go false f = refl

pub bytes_read : (more top : ℕ) (s : List ℕ) {n : ℕ} {rest : List ℕ} → number_up_to more top s ≡ accept (got n rest) → BytesRead more top s n rest
unfolding number_up_to bytes_up_to
bytes_read more top [] e = refused-accepted e
bytes_read zero top (b ∷ s) {n} {rest} e =
    let (t, d) = need-accepts (leb b top) too_large (accept (got b s)) e in
    of_read (BytesRead _ _ _) d (one_byte zero top b s (omega (arith, leb-true b top t)) refl)
bytes_read (suc more) top (b ∷ s) {n} {rest} e = go (ltb b 128) refl (λ m r d. bytes_read more top s d) e
  where
    go : (t : Bool) → ltb b 128 ≡ t → ((m : ℕ) (r : List ℕ) → number_up_to more top s ≡ accept (got m r) → BytesRead more top s m r)
        → pick t (accept (got b s)) (above (b - 128) (number_up_to more top s)) ≡ accept (got n rest) → BytesRead (suc more) top (b ∷ s) n rest
    go true k ih d = of_read (BytesRead _ _ _) d (one_byte (suc more) top b s (omega (arith, ltb-true b 128 k, bound_least top more)) (rw k))
    go false k ih d =
        let (m, r, f, g) = then_read_accepts (number_up_to more top s) (λ x l. accept (got (b - 128 + 128 * x) l)) d in
        of_read (BytesRead _ _ _) g (byte_more more top b s m r (ltb-false b 128 k) (ih m r f))

-- a number that was read passed 1 and 2, and is not padded
read_accepts : (s : List ℕ) {n : ℕ} {rest : List ℕ} → read_number s ≡ accept (got n rest)
    → (number_up_to 4 15 s ≡ accept (got n rest)) × (padded (bytes_before s rest) ≡ false)
unfolding read_number
read_accepts s {n} {rest} e =
    let (m, r, f, g) = then_read_accepts (number_up_to 4 15 s) _ e in
    let (t, h) = need-accepts (not (padded (bytes_before s r))) padded_number (accept (got m r)) g in
    let q : r ≡ rest = cc in
    (f ∙ h, ap (λ (l : List ℕ). padded (bytes_before s l)) (sym q) ∙ not-true (padded (bytes_before s r)) t)

-- the bytes before the rest of a whole
before-rest : (bytes rest : List ℕ) → bytes_before (bytes ++ rest) rest ≡ bytes
before-rest bytes rest =
    let n : place_of (bytes ++ rest) rest ≡ length bytes = rw length-append (omega arith) in
    rw n (take_at bytes rest (length bytes) refl)

-- what a number that was read says of the bytes
pub record NumberWritten (s : List ℕ) (n : ℕ) (rest : List ℕ) : Type 0 where
  pub fits : n < 2 ^ 32
  pub whole : s ≡ number_bytes n ++ rest
  pub bytes : AreBytes rest

pub all_back : {A : Type 0} (p : A → Bool) (xs ys : List A) → all_of p (xs ++ ys) ≡ true → all_of p ys ≡ true
all_back p [] ys e = e
all_back p (x ∷ xs) ys e = all_back p xs ys (and_right (p x) _ e)

pub number_written : (s : List ℕ) {n : ℕ} {rest : List ℕ} → AreBytes s → read_number s ≡ accept (got n rest) → NumberWritten s n rest
number_written s {n} {rest} a e =
    let (f, p) = read_accepts s e in
    let w = bytes_read 4 15 s f in
    let bytes = w.first ∷ w.others in
    let is : bytes_before s rest ≡ bytes = ap (λ (l : List ℕ). bytes_before l rest) w.whole ∙ before-rest bytes rest in
    let q : padded bytes ≡ false = ap padded (sym is) ∙ p in
    record {
      fits = w.fits a;
      whole = w.whole ∙ ap (λ (l : List ℕ). l ++ rest) (w.written a q);
      bytes = all_back is_byte (w.first ∷ w.others) rest (rw w.whole at a);
    }

-- ---- what is written is read
written_up_to : (more n : ℕ) (rest : List ℕ) → n < number_bound more → number_up_to more 15 (bytes_up_to more n ++ rest) ≡ accept (got n rest)
unfolding bytes_up_to number_up_to
written_up_to zero n rest h = rw (le-leb n 15 (omega arith))
written_up_to (suc more) n rest h = go (ltb n 128) refl (written_up_to more (n / 128) rest (omega arith))
  where
    go : (t : Bool) → ltb n 128 ≡ t → number_up_to more 15 (bytes_up_to more (n / 128) ++ rest) ≡ accept (got (n / 128) rest)
        → number_up_to (suc more) 15 (pick t (n ∷ []) ((128 + n % 128) ∷ bytes_up_to more (n / 128)) ++ rest) ≡ accept (got n rest)
    go true k ih = rw k
    go false k ih =
        let m : ltb (128 + n % 128) 128 ≡ false = le-ltb (128 + n % 128) 128 (omega arith) in
        let e : 128 + n % 128 - 128 + 128 * (n / 128) ≡ n = omega arith in
        rw (m, ih, e)

-- the last byte of a number other than 0 is not 00
last_some : (more n : ℕ) → 0 < n → eqb (last_of (bytes_up_to more n)) 0 ≡ false
unfolding bytes_up_to
last_some zero n h = ne_eqb n 0 (λ z. omega arith)
last_some (suc more) n h = go (ltb n 128) refl (λ k. last_some more (n / 128) k)
  where
    last_more : (b : ℕ) (l : List ℕ) → eqb (last_of l) 0 ≡ false → eqb (last_of (b ∷ l)) 0 ≡ false
    last_more b [] e = let z = eqb-false 0 0 e in absurd (z refl)
    last_more b (c ∷ cs) e = e

    go : (t : Bool) → ltb n 128 ≡ t → (0 < n / 128 → eqb (last_of (bytes_up_to more (n / 128))) 0 ≡ false)
        → eqb (last_of (pick t (n ∷ []) ((128 + n % 128) ∷ bytes_up_to more (n / 128)))) 0 ≡ false
    go true k ih = ne_eqb n 0 (λ z. omega arith)
    go false k ih = last_more (128 + n % 128) (bytes_up_to more (n / 128)) (ih (omega (arith, ltb-false n 128 k)))

written_unpadded : (n : ℕ) → padded (number_bytes n) ≡ false
unfolding bytes_up_to
written_unpadded n = go (ltb n 128) refl
  where
    and_false : (t u : Bool) → u ≡ false → (t && u) ≡ false
    and_false true u e = e
    and_false false u e = refl

    go : (t : Bool) → ltb n 128 ≡ t → padded (number_bytes n) ≡ false
    go true k = rw k
    go false k = and_false (ltb 1 (length (number_bytes n))) _ (last_some 4 n (omega (arith, ltb-false n 128 k)))

pub numbers_read_back : NumbersReadBack
unfolding read_number
numbers_read_back n h rest = rw (written_up_to 4 n rest h, before-rest (number_bytes n) rest, written_unpadded n)

-- what is written is bytes
bytes_up_to_lem : (more n : ℕ) → n < number_bound more → AreBytes (bytes_up_to more n)
unfolding bytes_up_to
bytes_up_to_lem zero n h = rw (lt-ltb n 256 (omega arith))
bytes_up_to_lem (suc more) n h = go (ltb n 128) refl (bytes_up_to_lem more (n / 128) (omega arith))
  where
    go : (t : Bool) → ltb n 128 ≡ t → AreBytes (bytes_up_to more (n / 128)) → AreBytes (pick t (n ∷ []) ((128 + n % 128) ∷ bytes_up_to more (n / 128)))
    go true k ih = rw (lt-ltb n 256 (omega (arith, ltb-true n 128 k)))
    go false k ih = rw (lt-ltb (128 + n % 128) 256 (omega arith)) ih

pub written_are_bytes : WrittenAreBytes
written_are_bytes [] fit_none = refl
written_are_bytes (n ∷ ns) (fit_one h f) = all_both (number_bytes n) (bytes_of ns) (bytes_up_to_lem 4 n h) (written_are_bytes ns f)
  where
    all_both : (xs ys : List ℕ) → AreBytes xs → AreBytes ys → AreBytes (xs ++ ys)
    all_both [] ys a b = b
    all_both (x ∷ xs) ys a b = rw (and_left (is_byte x) _ a) (all_both xs ys (and_right (is_byte x) _ a) b)

pub numbers_are_written : NumbersAreWritten
numbers_are_written s rest n a = (
  λ e. ((number_written s a e).fits, (number_written s a e).whole),
  λ w. ap read_number w.1 ∙ numbers_read_back n w.0 rest,
)

-- ---- the numbers that reading refuses with: 1, 2 and 42
module _ (among : ℕ → Bool) (one : among ended ≡ true) (two : among too_large ≡ true) where
  up-to-among : (more : ℕ) (s : List ℕ) → refuses_among among (number_up_to more 15 s) ≡ true
  unfolding number_up_to
  up-to-among more [] = one
  up-to-among zero (b ∷ s) = need-among among (leb b 15) too_large (accept (got b s)) two refl
  up-to-among (suc more) (b ∷ s) = go (ltb b 128) (up-to-among more s)
    where
      go : (t : Bool) → refuses_among among (number_up_to more 15 s) ≡ true
          → refuses_among among (pick t (accept (got b s)) (above (b - 128) (number_up_to more 15 s))) ≡ true
      go true h = refl
      go false h = then_read_among among (number_up_to more 15 s) _ h λ n rest. refl

  pub number-among : among padded_number ≡ true → (s : List ℕ) → refuses_among among (read_number s) ≡ true
  unfolding read_number
  number-among padding s = then_read_among among (number_up_to 4 15 s) _ (up-to-among 4 s) λ n rest.
      need-among among (not (padded (bytes_before s rest))) padded_number (accept (got n rest)) padding refl

-- ---- padding
abbrev not_padding : ℕ → Bool
not_padding k = not (eqb k padded_number)

pub padding_is_refused : PaddingIsRefused
unfolding read_number
padding_is_refused s a = (there (number_up_to 4 15 s) refl, back)
  where
    Found : Type 0
    Found = (n : ℕ) × (rest : List ℕ) × (number_up_to 4 15 s ≡ accept (got n rest)) × (s ≡ number_bytes n ++ rest → ⊥)

    other : (n : ℕ) (rest : List ℕ) → read_number s ≡ refuse padded_number → number_up_to 4 15 s ≡ accept (got n rest)
        → s ≡ number_bytes n ++ rest → ⊥
    other n rest e f w =
        let h : n < 2 ^ 32 = (bytes_read 4 15 s f).fits a in
        refused-accepted (sym e ∙ (numbers_are_written s rest n a).1 (h, w))

    there : (r : Reply (Got ℕ)) → number_up_to 4 15 s ≡ r → read_number s ≡ refuse padded_number → Found
    there (refuse k) f e =
        let d : refuse k ≡ refuse padded_number = sym (rw f) ∙ e in
        let z = refused-among not_padding (number_up_to 4 15 s) (up-to-among not_padding refl refl 4 s) (f ∙ d) in
        absurd (false-true z)
      where
        false-true : false ≡ true → ⊥
        false-true h = let z : ◌≡◌ {A = ℕ} 0 1 = cc in omega arith
    there (accept (got n rest)) f e = (n, rest, f, other n rest e f)

    back : Found → read_number s ≡ refuse padded_number
    back (n, rest, f, z) = go (padded (bytes_before s rest)) refl
      where
        go : (t : Bool) → padded (bytes_before s rest) ≡ t → read_number s ≡ refuse padded_number
        go true e = rw (f, e)
        go false e =
            let d : read_number s ≡ accept (got n rest) = rw (f, e) in
            absurd (z (number_written s a d).whole)

-- ---- the writer's bytes are the fewest
pub fewest-bytes : FewestBytes
fewest-bytes more top n s rest a e =
    let w = bytes_read more top s e in
    omega (arith, w.fewest a, ap length w.whole, length-append (w.first ∷ w.others) rest)

-- what is left is the last part of the bytes, of which `least` or more are read
pub record Left (s rest : List ℕ) (least : ℕ) : Type 0 where
  pub front : ℕ
  pub many : least ≤ front
  pub whole : length s ≡ front + length rest
  pub is : drop front s ≡ rest

pub number_left : (s : List ℕ) {n : ℕ} {rest : List ℕ} → read_number s ≡ accept (got n rest) → Left s rest 1
number_left s {n} {rest} e =
    let w = bytes_read 4 15 s (read_accepts s e).0 in
    let k = suc (length w.others) in
    record {
      front = k;
      many = omega arith;
      whole = ap length w.whole ∙ length-append (w.first ∷ w.others) rest;
      is = ap (drop k) w.whole ∙ drop_at (w.first ∷ w.others) rest k refl;
    }

-- ---- what a call that read a number says of the bytes: what is left is the bytes from some place past its first byte
pub record NumberGot (s : List ℕ) (place v next : ℕ) : Type 0 where
  pub is : read_number (drop place s) ≡ accept (got v (drop next s))
  pub later : place < next
  pub inside : next ≤ length s

pub number_got : (s : List ℕ) (place : ℕ) {v next : ℕ} → accept (reading v next) ≡ read_in s (read_number (drop place s)) → NumberGot s place v next
number_got s place {v} {next} e =
    let (n, rest, f, g) = then_read_accepts (read_number (drop place s)) (λ a l. accept (reading a (place_of s l))) (sym e) in
    let w = number_left (drop place s) f in
    let r : rest ≡ drop (place + w.front) s = sym w.is ∙ drop-drop w.front place s in
    let l : length s - place ≡ w.front + length rest = sym (length-drop place s) ∙ w.whole in
    let m : place_of s rest ≡ place + w.front = ap (place_of s) r ∙ place_drop s (place + w.front) (omega (arith, w.many)) in
    let x : place_of s rest ≡ next = cc in
    let y : n ≡ v = cc in
    let z : next ≡ place + w.front = sym x ∙ m in
    record { is = f ∙ cc; later = omega (arith, w.many); inside = omega arith }

pub read_refused : {A : Type 0} (s : List ℕ) (r : Reply (Got A)) {k : ℕ} → refuse k ≡ read_in s r → r ≡ refuse k
read_refused s (accept (got a rest)) e = refused-accepted e
read_refused s (refuse n) e = cc

pub number_refused : (s : List ℕ) (place : ℕ) {k : ℕ} → refuse k ≡ read_in s (read_number (drop place s)) → read_number (drop place s) ≡ refuse k
number_refused s place e = read_refused s (read_number (drop place s)) e

-- ---- numbers one after the other

-- a number that is written is read, and the others are left
pub read_one : {n : ℕ} {ns : List ℕ} (rest : List ℕ) → Fit (n ∷ ns)
    → read_number (bytes_of (n ∷ ns) ++ rest) ≡ accept (got n (bytes_of ns ++ rest))
read_one {n} {ns} rest (fit_one h f) = rw (append_assoc (number_bytes n) (bytes_of ns) rest) (numbers_read_back n h (bytes_of ns ++ rest))

-- these numbers are read one after the other, from s to the rest
pub data Reads : List ℕ → List ℕ → List ℕ → Type 0 where
  reads_none : {s : List ℕ} → Reads s [] s
  reads_one : {s t rest : List ℕ} {n : ℕ} {ns : List ℕ} → read_number s ≡ accept (got n t) → Reads t ns rest → Reads s (n ∷ ns) rest

pub reads_append : {s t rest a b : List ℕ} → Reads s a t → Reads t b rest → Reads s (a ++ b) rest
reads_append reads_none w = w
reads_append (reads_one e v) w = reads_one e (reads_append v w)

pub reads-split : {s rest : List ℕ} (a : List ℕ) {b : List ℕ} → Reads s (a ++ b) rest → (t : List ℕ) × Reads s a t × Reads t b rest
reads-split {s} [] w = (s, reads_none, w)
reads-split (n ∷ a) (reads_one e w) = let (t, v, u) = reads-split a w in (t, reads_one e v, u)

-- they are read just where their bytes, as they are written, stand before the rest
pub written-reads : {ns : List ℕ} (rest : List ℕ) → Fit ns → Reads (bytes_of ns ++ rest) ns rest
written-reads rest fit_none = reads_none
written-reads rest (fit_one h f) = reads_one (read_one rest (fit_one h f)) (written-reads rest f)

pub reads-written : {s ns rest : List ℕ} → AreBytes s → Reads s ns rest → Fit ns × (s ≡ bytes_of ns ++ rest)
reads-written a reads_none = (fit_none, refl)
reads-written {s} {rest = rest} a (reads_one {n = n} {ns} e w) =
    let v = number_written s a e in
    let (fit, whole) = reads-written v.bytes w in
    (fit_one v.fits fit, v.whole ∙ ap (λ (l : List ℕ). number_bytes n ++ l) whole ∙ sym (append_assoc (number_bytes n) (bytes_of ns) rest))

pub reads_left : {s ns rest : List ℕ} → Reads s ns rest → Left s rest (length ns)
reads_left reads_none = record { front = 0; many = omega arith; whole = omega arith; is = refl }
reads_left {s} (reads_one e w) =
    let v = number_left s e in
    let u = reads_left w in
    record {
      front = v.front + u.front;
      many = omega (arith, v.many, u.many);
      whole = omega (arith, v.whole, u.whole);
      is = sym (drop-drop u.front v.front s) ∙ ap (drop u.front) v.is ∙ u.is;
    }

-- so it begins at a place of them
pub left_place : {s rest : List ℕ} {least : ℕ} → Left s rest least → rest ≡ drop (place_of s rest) s
left_place {s} {rest} w = let e : place_of s rest ≡ w.front = omega (arith, w.whole) in sym w.is ∙ rw e
