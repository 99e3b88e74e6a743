-- Laws of a number's digits, and of a number right-aligned in columns.
use Prim.Native.Nat.{ℕ, zero, suc, ◌+◌, ◌-◌, ◌/◌, ◌%◌, ◌≤◌, ◌<◌, ◌^◌}
use mathlib.Core.Path.{◌≡◌, refl, sym, ap, ◌∙◌}
use mathlib.Core.Bool.{Bool, true, false}
use mathlib.Core.List.{List, [], ◌∷◌, ◌++◌, append_assoc, append-nil}
use native.Mathlib.Omega.{arith}
use native.Mathlib.Nat.{add-zero}
use lib.Dec.{ltb, eqb}
use lib.ListN.{length, take, drop, set, length-append, length-replicate, length-set}
use lib.Seq.{take-set-le, drop-set-lt, drop-set-add, drop-cons}
use borrow.Author.Tests.{lt-ltb, ltb-true, ltb-false, eq-eqb, ne_eqb, eqb-true}
use Rattle.number.specs.Basics.{pick, splice}
use Rattle.number.specs.Texts.{digits_up_to, decimal}
use Rattle.number.proofs.SpliceLaws.{splice_none}
use Rattle.number.proofs.PutLaws.{digits-one, digits_more, tenth, digits_under}
use Rattle.shift.specs.Page.{blanks, pad_left}

-- ---- a number's digits

-- one digit more is room that is not needed
pub digits_enough : (more n : ℕ) → n < 10 ^ suc more → digits_up_to (suc more) n ≡ digits_up_to more n
unfolding digits_up_to
digits_enough zero n h = let e : n % 10 ≡ n = omega arith in rw (lt-ltb n 10 (omega arith), e)
digits_enough (suc more) n h =
    ap (λ (high : List ℕ). pick (ltb n 10) ((48 + n) ∷ []) (high ++ (48 + n % 10) ∷ [])) (digits_enough more (n / 10) (tenth (suc more) n h))

-- what is left of a number before its last digits: no digit where nothing is left
abbrev pub leftover : ℕ → List ℕ
leftover n = pick (eqb n 0) [] (decimal n)

-- a number's digits are those of its tenth, and one more
pub decimal_step : (n : ℕ) → n < 10 ^ 20 → decimal n ≡ leftover (n / 10) ++ (48 + n % 10) ∷ []
decimal_step n h = go (ltb n 10) refl
  where
    go : (t : Bool) → ltb n 10 ≡ t → decimal n ≡ leftover (n / 10) ++ (48 + n % 10) ∷ []
    go true e =
        let k : n < 10 = ltb-true _ _ e in
        let z : n / 10 ≡ 0 = omega arith in
        let m : n % 10 ≡ n = omega arith in
        digits-one 19 n (λ z. absurd (omega arith)) k ∙ rw (z, m)
    go false e =
        let k : 10 ≤ n = ltb-false _ _ e in
        let some : n / 10 ≡ 0 → ⊥ = λ z. omega arith in
        digits_more 19 n (λ z. absurd (omega arith)) k
        ∙ rw (ne_eqb _ _ some) (ap (λ (high : List ℕ). high ++ (48 + n % 10) ∷ []) (sym (digits_enough 18 (n / 10) (tenth 19 n h))))

-- ---- right-aligned

pad_more : (width : ℕ) (xs : List ℕ) (b : ℕ) → pad_left (suc width) (xs ++ b ∷ []) ≡ pad_left width xs ++ b ∷ []
pad_more width xs b =
    let e : suc width - length (xs ++ b ∷ []) ≡ width - length xs = omega (arith, length-append xs (b ∷ [])) in
    rw e (sym (append_assoc (blanks (width - length xs)) xs (b ∷ [])))

pub pad_decimal : (width n : ℕ) → n < 10 ^ 20 → pad_left (suc width) (decimal n) ≡ pad_left width (leftover (n / 10)) ++ (48 + n % 10) ∷ []
pad_decimal width n h = ap (pad_left (suc width)) (decimal_step n h) ∙ pad_more width (leftover (n / 10)) (48 + n % 10)

blank_more : (width : ℕ) → blanks (suc width) ≡ blanks width ++ 32 ∷ []
blank_more zero = refl
blank_more (suc width) = ap (λ (l : List ℕ). 32 ∷ l) (blank_more width)

pad_none : (width : ℕ) → pad_left width [] ≡ blanks width
pad_none width = let e : width - 0 ≡ width = omega arith in append-nil (blanks (width - 0)) ∙ ap blanks e

pub pad_leftover : (width n : ℕ) → n < 10 ^ 20
    → pad_left (suc width) (leftover n) ≡ pad_left width (leftover (n / 10)) ++ pick (eqb n 0) 32 (48 + n % 10) ∷ []
pad_leftover width n h = go (eqb n 0) refl
  where
    go : (t : Bool) → eqb n 0 ≡ t
        → pad_left (suc width) (pick t [] (decimal n)) ≡ pad_left width (leftover (n / 10)) ++ pick t 32 (48 + n % 10) ∷ []
    go true e =
        let z : n ≡ 0 = eqb-true _ _ e in
        let none : leftover (n / 10) ≡ [] = rw (eq-eqb (n / 10) 0 (omega arith)) in
        pad_none (suc width) ∙ blank_more width ∙ ap (λ (l : List ℕ). l ++ 32 ∷ []) (sym (ap (pad_left width) none ∙ pad_none width))
    go false e = pad_decimal width n h

-- so many columns, where the digits fit
pub pad_length : (width : ℕ) (xs : List ℕ) → length xs ≤ width → length (pad_left width xs) ≡ width
pad_length width xs h = omega (arith, length-append (blanks (width - length xs)) xs, length-replicate {A = ℕ} (width - length xs) 32)

pub decimal-wide : (width n : ℕ) → n < 10 ^ suc width → length (pad_left (suc width) (decimal n)) ≡ suc width
decimal-wide width n h = pad_length (suc width) (decimal n) (digits_under 19 width n h)

pub right_wide : (width n : ℕ) → 0 < width → n < 10 ^ width → length (pad_left width (decimal n)) ≡ width
right_wide zero n some h = absurd (omega arith)
right_wide (suc width) n some h = decimal-wide width n h

leftover-wide : (width n : ℕ) → n < 10 ^ width → length (pad_left width (leftover n)) ≡ width
leftover-wide zero n h = let z : n ≡ 0 = omega arith in rw z
leftover-wide (suc width) n h = go (eqb n 0)
  where
    go : (t : Bool) → length (pad_left (suc width) (pick t [] (decimal n))) ≡ suc width
    go true = pad_length (suc width) [] (omega arith)
    go false = decimal-wide width n h

-- ---- bytes put from the last to the first

splice_back : (d : List ℕ) (p : ℕ) (xs : List ℕ) (b : ℕ) → p + length xs < length d
    → splice (set d (p + length xs) b) p xs ≡ splice d p (xs ++ b ∷ [])
splice_back d p xs b h =
    let q = p + length xs in
    let t : take p (set d q b) ≡ take p d = take-set-le p d q b (omega arith) in
    let e : drop q (set d q b) ≡ b ∷ drop (suc q) d =
    ap (λ (i : ℕ). drop q (set d i b)) (sym (add-zero q)) ∙ drop-set-add q d 0 b ∙ ap (λ (l : List ℕ). set l 0 b) (drop-cons d q 0 h) in
    let f : p + length (xs ++ b ∷ []) ≡ suc q = omega (arith, length-append xs (b ∷ [])) in
    rw (t, e, f) (simp append_assoc)

-- a byte stored where bytes are put is overwritten
pub splice_over : (d : List ℕ) (p : ℕ) (xs : List ℕ) (q b : ℕ) → p ≤ q → q < p + length xs → splice (set d q b) p xs ≡ splice d p xs
splice_over d p xs q b h k = rw (take-set-le p d q b h, drop-set-lt (p + length xs) d q b k)

-- a number put right-aligned: `left` is what is still to be put, before `place`
pub record Righting (d : List ℕ) (p width n : ℕ) (out : List ℕ) (left place : ℕ) : Type 0 where
  pub is : splice out p (pad_left (place - p) (leftover left)) ≡ splice d p (pad_left width (decimal n))
  pub from : p ≤ place
  pub up_to : place < p + width
  pub below : left < 10 ^ (place - p)
  pub few : left < 10 ^ 20
  pub long : length out ≡ length d

-- the last digit is put, at the last column
pub righting-start : (d : List ℕ) (p width n : ℕ) → (0 < width) → n < 10 ^ width → n < 10 ^ 20 → p + width ≤ length d
    → let out = set d (p + width - 1) (48 + n % 10) in Righting out p width n out (n / 10) (p + width - 1)
righting-start d p zero n some h few room = absurd (omega arith)
righting-start d p (suc k) n some h few room =
    let b = 48 + n % 10 in
    let under : n / 10 < 10 ^ k = tenth k n h in
    let wide = leftover-wide k (n / 10) under in
    let at : p + suc k - 1 ≡ p + length (pad_left k (leftover (n / 10))) = omega (arith, wide) in
    let back : p + suc k - 1 - p ≡ k = omega arith in
    let put = splice_back d p (pad_left k (leftover (n / 10))) b (omega (arith, wide)) in
    let over = splice_over d p (pad_left (suc k) (decimal n)) (p + suc k - 1) b (omega arith) (omega (arith, decimal-wide k n h)) in
    record {
      is = rw back
          (ap (λ (i : ℕ). splice (set d i b) p (pad_left k (leftover (n / 10)))) at ∙ put ∙ ap (splice d p) (sym (pad_decimal k n few)) ∙ sym over);
      from = omega arith;
      up_to = omega arith;
      below = rw back under;
      few = omega (arith, few);
      long = refl;
    }

module _ {d : List ℕ} {p width n : ℕ} where
  module _ {out : List ℕ} {left place : ℕ} (w : Righting d p width n out left place) where
    -- one column more, to the left
    pub righting-next : p < place → p + width ≤ length out
        → Righting d p width n (set out (place - 1) (pick (eqb left 0) 32 (48 + left % 10))) (left / 10) (place - 1)
    righting-next h room = go (place - 1 - p) refl
      where
        go : (k : ℕ) → place - 1 - p ≡ k
            → Righting d p width n (set out (place - 1) (pick (eqb left 0) 32 (48 + left % 10))) (left / 10) (place - 1)
        go k e =
            let this : place - p ≡ suc k = omega arith in
            let under : left / 10 < 10 ^ k = tenth k left (rw this at w.below) in
            let wide = leftover-wide k (left / 10) under in
            let b = pick (eqb left 0) 32 (48 + left % 10) in
            let at : place - 1 ≡ p + length (pad_left k (leftover (left / 10))) = omega (arith, wide, e) in
            let before = rw (this, pad_leftover k left w.few) at w.is in
            record {
              is = rw (e, at, splice_back out p (pad_left k (leftover (left / 10))) b (omega (arith, wide, w.up_to))) before;
              from = omega arith;
              up_to = omega (arith, w.up_to);
              below = rw e under;
              few = omega (arith, w.few);
              long = length-set out (place - 1) b ∙ w.long;
            }

    -- at the first column nothing is left
    pub righting-end : place ≤ p → out ≡ splice d p (pad_left width (decimal n))
    righting-end h =
        let z : place - p ≡ 0 = omega (arith, w.from) in
        let none : left ≡ 0 = omega (arith, rw z at w.below) in
        sym (splice_none out p) ∙ rw (z, none) at w.is
