-- Laws of what is read of a line, byte by byte.
use Rattle.std.proofs.Common.{◌≡◌, ℕ, suc, ◌+◌, ◌-◌, ◌*◌, ◌/◌, ◌<◌, ◌≤◌, Bool, true, false, cond, not, nat_eq, List, [], ◌∷◌, length}
use Rattle.std.proofs.Common.{get_or, take, drop, refl, one-add, drop-cons, arith, Option, Some, None, Err, eqb, ltb, slice_get}
use Rattle.std.proofs.Math.ListN.{drop_of_length-le}
use borrow.Author.Tests.{lt-ltb}
use Rattle.script.specs.declared.NumbersRead.{NumbersRead}
use Rattle.script.specs.declared.BytesRead.{BytesRead}
use Rattle.script.specs.declared.Next.{Next}
use Rattle.script.specs.declared.Next.TheVariants.{Space, First, Second}
use Rattle.script.specs.Lines.{pick, read_all, until, begun_by, lines_in}
use Rattle.script.specs.Decimal.{number_step, number_steps, numbers_end, numbers_reply}
use Rattle.script.specs.Hexadecimal.{hexadecimal, first_digit, second_digit, step_from, byte_step, byte_steps, whole, bytes_end, bytes_reply}
use Rattle.script.specs.Shapes.{fits_of, fit_from, taken}

-- one byte more, and no more bytes
pub read_next : {A : Type 0} (step : A → ℕ → A) (r : A) (l : List ℕ) (i : ℕ) → i < length l
    → read_all step r (drop i l) ≡ read_all step (step r (get_or l i 0)) (drop (suc i) l)
unfolding read_all
read_next step r l i h = rw (drop-cons l i 0)

pub read_end : {A : Type 0} (step : A → ℕ → A) (r : A) (l : List ℕ) (i : ℕ) → length l ≤ i → read_all step r (drop i l) ≡ r
unfolding read_all
read_end step r l i h = rw (drop_of_length-le l h)

-- what each step keeps, the reading keeps
pub read_keeps : {A : Type 0} (step : A → ℕ → A) (P : A → Type 0) → ((r : A) (b : ℕ) → P r → P (step r b))
    → (r : A) (l : List ℕ) → P r → P (read_all step r l)
unfolding read_all
read_keeps step P keeps r [] h = h
read_keeps step P keeps r (b ∷ s) h = read_keeps step P keeps (step r b) s (keeps r b h)

-- what both have, the one that is picked has
picked : {A : Type 0} (P : A → Type 0) (test : Bool) {a b : A} → P a → P b → P (pick test a b)
picked P true h k = h
picked P false h k = k

-- numbers that are wrong, since the line has something else, are wrong for good, and told by `Err`
abbrev NumbersWrong : NumbersRead → Type 0
NumbersWrong r = r.right ≡ false

pub numbers_stay_wrong : (r : NumbersRead) (l : List ℕ) → r.right ≡ false → (number_steps r l).right ≡ false
numbers_stay_wrong = read_keeps number_step NumbersWrong λ r b h.
    picked NumbersWrong (eqb b 32)
    (picked NumbersWrong r.bare refl (picked NumbersWrong (ltb r.numbers.count 8) h refl))
    (picked NumbersWrong (ltb b 48) refl (picked NumbersWrong (ltb 57 b) refl
    (picked NumbersWrong (eqb r.numbers.count 0) refl (picked NumbersWrong (ltb (r.numbers.count - 1) 8) h refl))))

pub wrong_numbers_are_err : (r : NumbersRead) → r.right ≡ false → numbers_reply (numbers_end r) ≡ Err r.numbers
wrong_numbers_are_err r h = picked (λ x. numbers_reply x ≡ Err r.numbers) r.bare refl (rw h refl)

-- and so are bytes
abbrev BytesWrong : BytesRead → Type 0
BytesWrong r = r.right ≡ false

first_stays : (r : BytesRead) (digit : Option ℕ) → BytesWrong r → BytesWrong (first_digit r digit)
first_stays r None h = refl
first_stays r (Some d) h = h

second_stays : (r : BytesRead) (high : ℕ) (digit : Option ℕ) → BytesWrong r → BytesWrong (second_digit r high digit)
second_stays r high None h = refl
second_stays r high (Some d) h = picked BytesWrong (ltb r.bytes.count 128) h refl

byte_stays : (next : Next) (r : BytesRead) (b : ℕ) → BytesWrong r → BytesWrong (step_from next r b)
byte_stays Space r b h = picked BytesWrong (eqb b 32) h refl
byte_stays First r b h = first_stays r (hexadecimal b) h
byte_stays (Second high) r b h = second_stays r high (hexadecimal b) h

pub bytes_stay_wrong : (r : BytesRead) (l : List ℕ) → r.right ≡ false → (byte_steps r l).right ≡ false
bytes_stay_wrong = read_keeps byte_step BytesWrong λ r b. byte_stays r.next r b

wrong_whole : (next : Next) (r : BytesRead) → r.right ≡ false → bytes_reply (whole next r) ≡ Err r.bytes
wrong_whole Space r h = rw h refl
wrong_whole First r h = refl
wrong_whole (Second high) r h = refl

pub wrong_bytes_are_err : (r : BytesRead) → r.right ≡ false → bytes_reply (bytes_end r) ≡ Err r.bytes
wrong_bytes_are_err r h = wrong_whole r.next r h

-- does the ith number fit its letter
abbrev pub fits_at : List ℕ → ℕ → List ℕ → ℕ → Bool
fits_at shapes base numbers i = fits_of (get_or shapes (base + i) 0) (slice_get numbers i)

pub fit_next : (shapes : List ℕ) (base : ℕ) (numbers : List ℕ) (i : ℕ) → i < 8
    → fit_from shapes base numbers i (8 - i) ≡ pick (fits_at shapes base numbers i) (fit_from shapes base numbers (i + 1) (8 - (i + 1))) false
unfolding fit_from
fit_next shapes base numbers i h =
    let e : 8 - i ≡ suc (8 - (i + 1)) = omega arith in
    rw e refl

pub fit_all : (shapes : List ℕ) (base : ℕ) (numbers : List ℕ) (i : ℕ) → 8 ≤ i → fit_from shapes base numbers i (8 - i) ≡ true
unfolding fit_from
fit_all shapes base numbers i h =
    let e : 8 - i ≡ 0 = omega arith in
    rw e refl

pub taken-fits : (shapes : List ℕ) (command : ℕ) (numbers : List ℕ) → command < length shapes / 8
    → taken shapes command numbers ≡ fit_from shapes (command * 8) numbers 0 8
taken-fits shapes command numbers known = rw (lt-ltb _ _ known) refl

pub no_lines : (l : List ℕ) → length l ≡ 0 → lines_in l ≡ []
unfolding lines_in
no_lines [] h = refl
no_lines (b ∷ s) h = cc

-- the first line of a text that is not empty, and those behind its line feed
after_byte : (b : ℕ) (s : List ℕ) (e : Bool) → (begun_by b (lines_in s) ≡ (b ∷ take (until 10 s) s) ∷ lines_in (drop 1 (drop (until 10 s) s)))
    → pick e ([] ∷ lines_in s) (begun_by b (lines_in s))
    ≡ take (cond (not e) (1 + until 10 s) 0) (b ∷ s) ∷ lines_in (drop 1 (drop (cond (not e) (1 + until 10 s) 0) (b ∷ s)))
after_byte b s true h = refl
after_byte b s false h = rw one-add h

pub first_line : (l : List ℕ) → 0 < length l → lines_in l ≡ take (until 10 l) l ∷ lines_in (drop 1 (drop (until 10 l) l))
unfolding lines_in
first_line [] h = absurd (omega arith)
first_line (b ∷ []) h = after_byte b [] (nat_eq b 10) refl
first_line (b ∷ c ∷ t) h = after_byte b (c ∷ t) (nat_eq b 10) (rw (first_line (c ∷ t) (omega arith)))
