-- What holds of every page. A line is five fields, one behind the other; a page is lines of 40 characters, each with its line feed, so the
-- line of a port is found by counting; and the number in a field is read digit by digit, as it was written.
use Prim.Native.Nat.{ℕ, zero, suc, ◌+◌, ◌-◌, ◌*◌, ◌/◌, ◌%◌, ◌≤◌, ◌<◌, ◌^◌}
use native.Mathlib.Nat.{zero-add}
use native.Mathlib.Omega.{arith}
use mathlib.Core.Path.{◌≡◌, refl, sym, ap, ap₂, ◌∙◌}
use mathlib.Core.Bool.{Bool, true, false}
use mathlib.Core.List.{List, [], ◌∷◌, ◌++◌, map, append_assoc, append-nil}
use lib.Dec.{eqb, ltb}
use lib.ListN.{length, get_or, take, drop, length-append, get_or-append}
use lib.Seq.{take_at, drop_at, drop-append-add, ext_get_or}
use borrow.Author.Tests.{ltb-true, le-leb, eqb-true, eq-eqb, ne_eqb}
use Rattle.number.specs.Basics.{pick, all_of, flat_map}
use Rattle.number.specs.Texts.{bytes, digits_up_to, decimal}
use Rattle.number.proofs.Both.{and_left, and_right}
use Rattle.queue.proofs.Lists.{and_both, all_join}
use Rattle.number.proofs.AllLaws.{all_at}
use Rattle.sequential.specs.RunsExist.{bits_fit}
use Rattle.shift.specs.declared.ShiftRecord.{ShiftRecord}
use Rattle.shift.specs.Record.{takes_of, last_value_of, StoredRecord}
use Rattle.shift.specs.Page.{blanks, pad_left, header, footer, port_line, up_from, ports, page_lines, with_line_feed, value_shown, page, is_character}
use Rattle.shift.specs.Page.{is_line, PagesShaped, columns, FieldsInColumns, TenDigits, line_at, behind_line, PagesStand, number_from, number_in}
use Rattle.shift.specs.Page.{PagesReadBack}
use Rattle.shift.proofs.DigitLaws.{leftover, decimal_step}
use Rattle.shift.proofs.PageLaws.{port-wide, number_wide, shown-small, line-wide, line_feed_wide}

-- ---- the fields of a line

-- what stands behind so many characters of a text
stands : (whole before field after : List ℕ) (n k : ℕ) → whole ≡ before ++ (field ++ after) → length before ≡ n → length field ≡ k
    → take k (drop n whole) ≡ field
stands whole before field after n k e b f = rw (e, drop_at before (field ++ after) n b) (take_at field after k f)

-- Five lists as wide as the fields of a line, found in its columns. The lists are variables, so that no blank is counted one by one.
module _ (a b c d e : List ℕ) (la : length a ≡ 2) (lb : length b ≡ 4) (lc : length c ≡ 10) (ld : length d ≡ 14) (le : length e ≡ 10) where
  first_field : columns 1 2 (a ++ b ++ c ++ d ++ e) ≡ a
  first_field = stands (a ++ b ++ c ++ d ++ e) [] a (b ++ (c ++ (d ++ e))) 0 2 (simp append_assoc) refl la

  second-field : columns 3 6 (a ++ b ++ c ++ d ++ e) ≡ b
  second-field = stands (a ++ b ++ c ++ d ++ e) a b (c ++ (d ++ e)) 2 4 (simp append_assoc) la lb

  third-field : columns 7 16 (a ++ b ++ c ++ d ++ e) ≡ c
  third-field = stands (a ++ b ++ c ++ d ++ e) (a ++ b) c (d ++ e) 6 10 (simp append_assoc) (omega (arith, length-append a b)) lc

  fourth-field : columns 17 30 (a ++ b ++ c ++ d ++ e) ≡ d
  fourth-field =
      stands (a ++ b ++ c ++ d ++ e) (a ++ b ++ c) d e 16 14 (simp append_assoc)
      (omega (arith, length-append (a ++ b) c, length-append a b)) ld

  fifth-field : columns 31 40 (a ++ b ++ c ++ d ++ e) ≡ e
  fifth-field =
      stands (a ++ b ++ c ++ d ++ e) (a ++ b ++ c ++ d) e [] 30 10 (simp (append_assoc, append-nil))
      (omega (arith, length-append (a ++ b ++ c) d, length-append (a ++ b) c, length-append a b)) le

pub fields_in_columns : FieldsInColumns
fields_in_columns port takes value h k l =
    let a = pad_left 2 (decimal port) in
    let c = pad_left 10 (decimal takes) in
    let e = pad_left 10 (decimal value) in
    let la = port-wide port h in
    let lc = number_wide takes k in
    let le = number_wide value l in
    record {
      wide = line-wide port takes value h k l;
      port_is = first_field a (blanks 4) c (blanks 14) e la refl lc refl le;
      blank_first = second-field a (blanks 4) c (blanks 14) e la refl lc refl le;
      takes_are = third-field a (blanks 4) c (blanks 14) e la refl lc refl le;
      blank_next = fourth-field a (blanks 4) c (blanks 14) e la refl lc refl le;
      value_is = fifth-field a (blanks 4) c (blanks 14) e la refl lc refl le;
    }

pub ten_digits : TenDigits
unfolding digits_up_to
ten_digits = (refl, λ (n : ℕ) (h : length (decimal n) ≡ 10). ap (λ (k : ℕ). blanks (10 - k) ++ decimal n) h)

-- ---- the characters of a line

digit_character : (d : ℕ) → d < 10 → is_character (48 + d) ≡ true
digit_character d h = and_both (le-leb 32 (48 + d) (omega arith)) (le-leb (48 + d) 126 (omega arith))

digits_characters : (more n : ℕ) → all_of is_character (digits_up_to more n) ≡ true
unfolding digits_up_to
digits_characters zero n = and_both (digit_character (n % 10) (omega arith)) refl
digits_characters (suc more) n = go (ltb n 10) refl (digits_characters more (n / 10))
  where
    go : (t : Bool) → ltb n 10 ≡ t → all_of is_character (digits_up_to more (n / 10)) ≡ true
        → all_of is_character (pick t ((48 + n) ∷ []) (digits_up_to more (n / 10) ++ (48 + n % 10) ∷ [])) ≡ true
    go true e high = and_both (digit_character n (ltb-true n 10 e)) refl
    go false e high =
        all_join is_character (digits_up_to more (n / 10)) ((48 + n % 10) ∷ []) high (and_both (digit_character (n % 10) (omega arith)) refl)

blank_characters : (n : ℕ) → all_of is_character (blanks n) ≡ true
blank_characters zero = refl
blank_characters (suc n) = blank_characters n

number_characters : (width n : ℕ) → all_of is_character (pad_left width (decimal n)) ≡ true
number_characters width n =
    all_join is_character (blanks (width - length (decimal n))) (decimal n) (blank_characters (width - length (decimal n))) (digits_characters 19 n)

five_characters : (a b c d e : List ℕ) → all_of is_character a ≡ true → all_of is_character b ≡ true → all_of is_character c ≡ true
    → all_of is_character d ≡ true → all_of is_character e ≡ true → all_of is_character (a ++ b ++ c ++ d ++ e) ≡ true
five_characters a b c d e ha hb hc hd he =
    all_join is_character (a ++ b ++ c ++ d) e
    (all_join is_character (a ++ b ++ c) d (all_join is_character (a ++ b) c (all_join is_character a b ha hb) hc) hd) he

-- a port's line is one
line_is : (port takes value : ℕ) → port < 32 → takes < 2 ^ 32 → value < 2 ^ 32 → is_line (port_line port takes value) ≡ true
line_is port takes value h k l =
    and_both
    (eq-eqb (length (port_line port takes value)) 40 (line-wide port takes value h k l))
    (five_characters (pad_left 2 (decimal port)) (blanks 4) (pad_left 10 (decimal takes)) (blanks 14) (pad_left 10 (decimal value))
    (number_characters 2 port) (blank_characters 4) (number_characters 10 takes) (blank_characters 14) (number_characters 10 value))

-- ---- lists made of the numbers from one on

from_long : {A : Type 0} (f : ℕ → A) (first many : ℕ) → length (map f (up_from first many)) ≡ many
from_long f first zero = refl
from_long f first (suc many) = ap suc (from_long f (suc first) many)

from_at : {A : Type 0} (f : ℕ → A) (first many : ℕ) (d : A) (i : ℕ) → i < many → get_or (map f (up_from first many)) i d ≡ f (first + i)
from_at f first zero d i h = absurd (omega arith)
from_at f first (suc many) d zero h = let e : first + 0 ≡ first = omega arith in rw e
from_at f first (suc many) d (suc i) h =
    let e : suc first + i ≡ first + suc i = omega arith in from_at f (suc first) many d i (omega arith) ∙ ap f e

from_all : {A : Type 0} (p : A → Bool) (f : ℕ → A) (first many : ℕ) → ((k : ℕ) → k < first + many → p (f k) ≡ true)
    → all_of p (map f (up_from first many)) ≡ true
from_all p f first zero each = refl
from_all p f first (suc many) each =
    and_both (each first (omega arith)) (from_all p f (suc first) many (λ (k : ℕ) (below : k < suc first + many). each k (omega arith)))

-- ---- lines of 40 characters, one behind the other, each with its line feed

line-long : (line : List ℕ) → is_line line ≡ true → length line ≡ 40
line-long line h = eqb-true (length line) 40 (and_left (eqb (length line) 40) (all_of is_character line) h)

text-long : (lines : List (List ℕ)) → all_of is_line lines ≡ true → length (flat_map with_line_feed lines) ≡ 41 * length lines
text-long [] h = refl
text-long (line ∷ lines) h =
    let one = line-long line (and_left (is_line line) (all_of is_line lines) h) in
    let rest = text-long lines (and_right (is_line line) (all_of is_line lines) h) in
    omega (arith, length-append (with_line_feed line) (flat_map with_line_feed lines), line_feed_wide line, one, rest)

-- each line is found by its number
line_at_lem : (lines : List (List ℕ)) → all_of is_line lines ≡ true → (i : ℕ) → i < length lines
    → line_at i (flat_map with_line_feed lines) ≡ get_or lines i []
line_at_lem [] h i k = absurd (omega arith)
line_at_lem (line ∷ lines) h zero k =
    stands (flat_map with_line_feed (line ∷ lines)) [] line (bytes "\n" ++ flat_map with_line_feed lines) 0 40
    (append_assoc line (bytes "\n") (flat_map with_line_feed lines)) refl
    (line-long line (and_left (is_line line) (all_of is_line lines) h))
line_at_lem (line ∷ lines) h (suc i) k =
    let one = line-long line (and_left (is_line line) (all_of is_line lines) h) in
    let e : 41 * suc i ≡ length (with_line_feed line) + 41 * i = omega (arith, line_feed_wide line, one) in
    ap (λ (n : ℕ). take 40 (drop n (with_line_feed line ++ flat_map with_line_feed lines))) e
    ∙ ap (take 40) (drop-append-add (with_line_feed line) (flat_map with_line_feed lines) (41 * i))
    ∙ line_at_lem lines (and_right (is_line line) (all_of is_line lines) h) i (omega arith)

-- and so is the line feed behind it
feed_at : (lines : List (List ℕ)) → all_of is_line lines ≡ true → (i : ℕ) → i < length lines
    → behind_line i (flat_map with_line_feed lines) ≡ bytes "\n"
feed_at [] h i k = absurd (omega arith)
feed_at (line ∷ lines) h zero k =
    stands (flat_map with_line_feed (line ∷ lines)) line (bytes "\n") (flat_map with_line_feed lines) 40 1
    (append_assoc line (bytes "\n") (flat_map with_line_feed lines))
    (line-long line (and_left (is_line line) (all_of is_line lines) h)) refl
feed_at (line ∷ lines) h (suc i) k =
    let one = line-long line (and_left (is_line line) (all_of is_line lines) h) in
    let e : 41 * suc i + 40 ≡ length (with_line_feed line) + (41 * i + 40) = omega (arith, line_feed_wide line, one) in
    ap (λ (n : ℕ). take 1 (drop n (with_line_feed line ++ flat_map with_line_feed lines))) e
    ∙ ap (take 1) (drop-append-add (with_line_feed line) (flat_map with_line_feed lines) (41 * i + 40))
    ∙ feed_at lines (and_right (is_line line) (all_of is_line lines) h) i (omega arith)

-- ---- the lines of a page

-- Lines of so many ports between two others. How many ports there are is a variable, so that no line of a page is looked at by itself.
between-long : (top : List ℕ) (f : ℕ → List ℕ) (many : ℕ) (bottom : List ℕ)
    → length (top ∷ (map f (up_from 0 many) ++ bottom ∷ [])) ≡ 2 + many
between-long top f many bottom = omega (arith, length-append (map f (up_from 0 many)) (bottom ∷ []), from_long f 0 many)

between_all : (top : List ℕ) (f : ℕ → List ℕ) (many : ℕ) (bottom : List ℕ)
    → is_line top ≡ true → ((k : ℕ) → k < many → is_line (f k) ≡ true) → is_line bottom ≡ true
    → all_of is_line (top ∷ (map f (up_from 0 many) ++ bottom ∷ [])) ≡ true
between_all top f many bottom t each b =
    and_both t
    (all_join is_line (map f (up_from 0 many)) (bottom ∷ [])
    (from_all is_line f 0 many (λ (k : ℕ) (below : k < 0 + many). each k (omega arith))) (and_both b refl))

between_at : (top : List ℕ) (f : ℕ → List ℕ) (many : ℕ) (bottom : List ℕ) (i : ℕ) → i < many
    → get_or (top ∷ (map f (up_from 0 many) ++ bottom ∷ [])) (suc i) [] ≡ f i
between_at top f many bottom i h =
    get_or-append (map f (up_from 0 many)) (bottom ∷ []) [] i (omega (arith, from_long f 0 many))
    ∙ from_at f 0 many [] i h
    ∙ ap f (zero-add i)

last_at : (lines : List (List ℕ)) (bottom : List ℕ) → get_or (lines ++ bottom ∷ []) (length lines) [] ≡ bottom
last_at [] bottom = refl
last_at (line ∷ lines) bottom = last_at lines bottom

between_last : (top : List ℕ) (f : ℕ → List ℕ) (many : ℕ) (bottom : List ℕ)
    → get_or (top ∷ (map f (up_from 0 many) ++ bottom ∷ [])) (suc many) [] ≡ bottom
between_last top f many bottom =
    ap (λ (n : ℕ). get_or (map f (up_from 0 many) ++ bottom ∷ []) n []) (sym (from_long f 0 many)) ∙ last_at (map f (up_from 0 many)) bottom

-- the numbers of a record as a program holds it
module _ (r : ShiftRecord) (s : StoredRecord r) (port : ℕ) (low : port < 32) where
  takes-fit : takes_of r port < 2 ^ 32
  takes-fit = ltb-true (takes_of r port) (2 ^ 32) (all_at (bits_fit 32) r.takes port 0 s.takes (omega (arith, s.ports)))

  value-fits : value_shown r port < 2 ^ 32
  value-fits =
      shown-small (takes_of r port) (last_value_of r port)
      (ltb-true (last_value_of r port) (2 ^ 32) (all_at (bits_fit 32) r.values port 0 s.values (omega (arith, s.ports_too))))

module _ (r : ShiftRecord) where
  -- the line of a port
  abbrev line_of : ℕ → List ℕ
  line_of port = port_line port (takes_of r port) (value_shown r port)

  lines-many : length (page_lines (takes_of r) (value_shown r)) ≡ 34
  lines-many = between-long header line_of 32 footer

  lines_are : StoredRecord r → all_of is_line (page_lines (takes_of r) (value_shown r)) ≡ true
  lines_are s =
      between_all header line_of 32 footer refl
      (λ (port : ℕ) (low : port < 32). line_is port (takes_of r port) (value_shown r port) low (takes-fit r s port low) (value-fits r s port low))
      refl

pub pages_shaped : PagesShaped
unfolding page
pages_shaped r s = record {
  lines = lines-many r;
  wide = lines_are r s;
  long = text-long (page_lines (takes_of r) (value_shown r)) (lines_are r s) ∙ ap (λ (n : ℕ). 41 * n) (lines-many r);
}

pub pages_stand : PagesStand
unfolding page
pages_stand r s =
    let lines = page_lines (takes_of r) (value_shown r) in
    let found = line_at_lem lines (lines_are r s) in
    record {
      header_is = found 0 (omega (arith, lines-many r));
      ports_are = λ (port : ℕ) (low : port < 32). found (suc port) (omega (arith, lines-many r)) ∙ between_at header (line_of r) 32 footer port low;
      fields_are = λ (port : ℕ) (low : port < 32).
          rw (found (suc port) (omega (arith, lines-many r)) ∙ between_at header (line_of r) 32 footer port low)
          (fields_in_columns port (takes_of r port) (value_shown r port) low (takes-fit r s port low) (value-fits r s port low));
      footer_is = found 33 (omega (arith, lines-many r)) ∙ between_last header (line_of r) 32 footer;
      feeds = λ (i : ℕ) (h : i < 34). feed_at lines (lines_are r s) i (omega (arith, lines-many r));
    }

-- ---- numbers read back

number_append : (n : ℕ) (xs ys : List ℕ) → number_from n (xs ++ ys) ≡ number_from (number_from n xs) ys
number_append n [] ys = refl
number_append n (x ∷ xs) ys = number_append (pick (eqb x 32) n (10 * n + (x - 48))) xs ys

number_blanks : (n many : ℕ) → number_from n (blanks many) ≡ n
number_blanks n zero = refl
number_blanks n (suc many) = number_blanks n many

-- a digit is no blank
number_digit : (n d : ℕ) → number_from n ((48 + d) ∷ []) ≡ 10 * n + d
number_digit n d = let e : 48 + d - 48 ≡ d = omega arith in rw (ne_eqb (48 + d) 32 (λ (z : 48 + d ≡ 32). omega arith), e)

-- a tenth of a number, and its last digit
number_last : (n : ℕ) (high : List ℕ) → number_from 0 high ≡ n / 10 → number_from 0 (high ++ (48 + n % 10) ∷ []) ≡ n
number_last n high h =
    number_append 0 high ((48 + n % 10) ∷ []) ∙ number_digit (number_from 0 high) (n % 10) ∙ omega arith

-- Along a bound on the number: a tenth of it, unless it is 0, is smaller.
number_leftover : (most n : ℕ) → n ≤ most → n < 10 ^ 20 → number_from 0 (leftover n) ≡ n
number_leftover zero n h few = let z : n ≡ 0 = omega arith in rw z
number_leftover (suc most) n h few = go (eqb n 0) refl (number_leftover most (n / 10) (omega arith) (omega arith))
  where
    go : (t : Bool) → eqb n 0 ≡ t → number_from 0 (leftover (n / 10)) ≡ n / 10 → number_from 0 (pick t [] (decimal n)) ≡ n
    go true e tenth = sym (eqb-true n 0 e)
    go false e tenth = ap (number_from 0) (decimal_step n few) ∙ number_last n (leftover (n / 10)) tenth

number_padded : (width n : ℕ) → n < 10 ^ 20 → number_from 0 (pad_left width (decimal n)) ≡ n
number_padded width n few =
    let blank = width - length (decimal n) in
    number_append 0 (blanks blank) (decimal n)
    ∙ ap (λ (m : ℕ). number_from m (decimal n)) (number_blanks 0 blank)
    ∙ ap (number_from 0) (decimal_step n few)
    ∙ number_last n (leftover (n / 10)) (number_leftover (n / 10) (n / 10) (omega arith) (omega arith))

-- what stands at each place of a list, listed, is the list again
listed_back : (f : ℕ → ℕ) (many : ℕ) (l : List ℕ) → length l ≡ many → ((k : ℕ) → k < many → f k ≡ get_or l k 0)
    → map f (up_from 0 many) ≡ l
listed_back f many l long same =
    ext_get_or 0 (map f (up_from 0 many)) l
    (from_long f 0 many ∙ sym long)
    (λ (i : ℕ) (h : i < length (map f (up_from 0 many))).
    let below : i < many = omega (arith, from_long f 0 many) in
    from_at f 0 many 0 i below ∙ ap f (zero-add i) ∙ same i below)

module _ (r : ShiftRecord) (s : StoredRecord r) (port : ℕ) (low : port < 32) where
  takes_back : number_in 7 16 (line_at (suc port) (page r)) ≡ takes_of r port
  takes_back =
      let fit = takes-fit r s port low in
      ap (number_in 7 16) ((pages_stand r s).ports_are port low)
      ∙ ap (number_from 0) (fields_in_columns port (takes_of r port) (value_shown r port) low fit (value-fits r s port low)).takes_are
      ∙ number_padded 10 (takes_of r port) (omega (arith, fit))

  value_back : number_in 31 40 (line_at (suc port) (page r)) ≡ value_shown r port
  value_back =
      let fits = value-fits r s port low in
      ap (number_in 31 40) ((pages_stand r s).ports_are port low)
      ∙ ap (number_from 0) (fields_in_columns port (takes_of r port) (value_shown r port) low (takes-fit r s port low) fits).value_is
      ∙ number_padded 10 (value_shown r port) (omega (arith, fits))

abbrev as_record : List ℕ → List ℕ → ShiftRecord
as_record takes values = record { takes = takes; values = values }

pub pages_read_back : PagesReadBack
pages_read_back r s =
    ap₂ as_record
    (listed_back (λ (port : ℕ). number_in 7 16 (line_at (suc port) (page r))) 32 r.takes s.ports (takes_back r s))
    (listed_back (λ (port : ℕ). number_in 31 40 (line_at (suc port) (page r))) 32 (map (value_shown r) ports) (from_long (value_shown r) 0 32)
    (λ (port : ℕ) (low : port < 32). value_back r s port low ∙ sym (from_at (value_shown r) 0 32 0 port low ∙ ap (value_shown r) (zero-add port))))
