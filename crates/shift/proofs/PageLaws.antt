-- Laws of the page: how wide its fields are, and how they are put one after the other.
use Prim.Native.Nat.{ℕ, zero, suc, ◌+◌, ◌≤◌, ◌<◌, ◌^◌}
use mathlib.Core.Path.{◌≡◌, refl, sym, ap, ◌∙◌}
use mathlib.Core.List.{List, [], ◌∷◌, ◌++◌, map, append_assoc, append-nil}
use native.Mathlib.Omega.{arith}
use native.Mathlib.Nat.{add-zero, zero-add}
use native.Mathlib.Numerals.{add-one}
use mathlib.Core.Bool.{Bool, true, false}
use lib.Dec.{eqb}
use lib.ListN.{length, drop, length-append}
use Rattle.number.specs.Basics.{pick, flat_map}
use borrow.Author.Tests.{lt-leb, le-leb}
use Rattle.number.specs.Reply.{accept}
use Rattle.number.specs.Number.{Puts, PutIfFits, unwritten}
use Rattle.number.specs.Texts.{bytes, decimal}
use Rattle.number.proofs.SpliceLaws.{put-at}
use Rattle.number.proofs.PutLaws.{puts-length, puts-puts}
use Rattle.number.specs.Refusal.{page_too_short}
use Rattle.shift.specs.declared.ShiftRecord.{ShiftRecord}
use Rattle.shift.specs.Record.{takes_of}
use Rattle.shift.specs.Page.{blanks, pad_left, header, footer, port_line, port_lines, up_from, with_line_feed}
use Rattle.shift.specs.Page.{value_or_zero, value_shown, page, page_bytes, page_written}
use Rattle.shift.proofs.DigitLaws.{right_wide}

-- ---- how wide the fields are
pub port-wide : (port : ℕ) → port < 32 → length (pad_left 2 (decimal port)) ≡ 2
port-wide port h = right_wide 2 port (omega arith) (omega arith)

pub number_wide : (n : ℕ) → n < 2 ^ 32 → length (pad_left 10 (decimal n)) ≡ 10
number_wide n h = right_wide 10 n (omega arith) (omega arith)

pub shown-small : (takes value : ℕ) → value < 2 ^ 32 → value_or_zero takes value < 2 ^ 32
shown-small takes value h = go (eqb takes 0)
  where
    go : (t : Bool) → pick t 0 value < 2 ^ 32
    go true = omega arith
    go false = h

five_long : (a b c d e : List ℕ) → length (a ++ b ++ c ++ d ++ e) ≡ length a + length b + length c + length d + length e
five_long a b c d e =
    omega (arith, length-append (a ++ b ++ c ++ d) e, length-append (a ++ b ++ c) d, length-append (a ++ b) c, length-append a b)

pub line-wide : (port takes value : ℕ) → port < 32 → takes < 2 ^ 32 → value < 2 ^ 32 → length (port_line port takes value) ≡ 40
line-wide port takes value h k l =
    five_long (pad_left 2 (decimal port)) (blanks 4) (pad_left 10 (decimal takes)) (blanks 14) (pad_left 10 (decimal value))
    ∙ rw (port-wide port h, number_wide takes k, number_wide value l)

-- and its line feed
pub line_feed_wide : (line : List ℕ) → length (with_line_feed line) ≡ length line + 1
line_feed_wide line = length-append line (bytes "\n")

-- ---- so many bytes are put
pub record PutsMany (d : List ℕ) (p : ℕ) (xs : List ℕ) (many e : ℕ) (out : List ℕ) : Type 0 where
  pub puts : Puts d p xs e out
  pub wide : length xs ≡ many
  pub room : p + many ≤ length d

module _ {d : List ℕ} {p : ℕ} {xs : List ℕ} {many e : ℕ} {out : List ℕ} (w : PutsMany d p xs many e out) where
  pub many-ends : e ≡ p + many
  many-ends = w.puts.ends ∙ ap (λ (n : ℕ). p + n) w.wide

  pub many-long : length out ≡ length d
  many-long = puts-length w.puts (omega (arith, w.wide, w.room))

  pub many-then : {ys : List ℕ} {e₂ : ℕ} {out₂ : List ℕ} (more : ℕ) → Puts out e ys e₂ out₂ → length ys ≡ more
      → p + (many + more) ≤ length d → PutsMany d p (xs ++ ys) (many + more) e₂ out₂
  many-then {ys} more v wide room = record {
    puts = puts-puts w.puts (omega (arith, w.wide, w.room)) v;
    wide = omega (arith, length-append xs ys, w.wide, wide);
    room = room;
  }

  pub many-fit : {ys : List ℕ} {e₂ : ℕ} {out₂ : List ℕ} (more : ℕ) → PutIfFits out e ys e₂ out₂ → length ys ≡ more
      → p + (many + more) ≤ length d → PutsMany d p (xs ++ ys) (many + more) e₂ out₂
  many-fit {ys} more v wide room = many-then more (put-at (omega (arith, many-ends, many-long, wide, room)) v) wide room

  -- the same bytes, written otherwise
  pub many-as : {ys : List ℕ} → xs ≡ ys → PutsMany d p ys many e out
  many-as h = rw (← h) w

-- ---- the lines of the first ports
abbrev pub lines_to : (ℕ → ℕ) → (ℕ → ℕ) → ℕ → List ℕ
lines_to takes values k = flat_map with_line_feed (map (λ (port : ℕ). port_line port (takes port) (values port)) (up_from 0 k))

flat_from : (f : ℕ → List ℕ) (n k : ℕ)
    → flat_map with_line_feed (map f (up_from n (suc k))) ≡ flat_map with_line_feed (map f (up_from n k)) ++ with_line_feed (f (n + k))
flat_from f n zero = append-nil (with_line_feed (f n)) ∙ ap (λ (i : ℕ). with_line_feed (f i)) (sym (add-zero n))
flat_from f n (suc k) =
    let e : suc n + k ≡ n + suc k = omega arith in
    ap (λ (l : List ℕ). with_line_feed (f n) ++ l)
    (flat_from f (suc n) k ∙ ap (λ (i : ℕ). flat_map with_line_feed (map f (up_from (suc n) k)) ++ with_line_feed (f i)) e)
    ∙ sym (append_assoc (with_line_feed (f n)) (flat_map with_line_feed (map f (up_from (suc n) k))) (with_line_feed (f (n + suc k))))

pub lines_next : (takes values : ℕ → ℕ) (k : ℕ)
    → lines_to takes values (k + 1) ≡ lines_to takes values k ++ with_line_feed (port_line k (takes k) (values k))
lines_next takes values k =
    ap (lines_to takes values) (add-one k) ∙ flat_from (λ (port : ℕ). port_line port (takes port) (values port)) 0 k
    ∙ ap (λ (i : ℕ). lines_to takes values k ++ with_line_feed (port_line i (takes i) (values i))) (zero-add k)

-- ---- the whole page
flat_append : {A : Type 0} (f : A → List ℕ) (xs ys : List A) → flat_map f (xs ++ ys) ≡ flat_map f xs ++ flat_map f ys
flat_append f [] ys = refl
flat_append f (x ∷ xs) ys = ap (λ (l : List ℕ). f x ++ l) (flat_append f xs ys) ∙ sym (append_assoc (f x) (flat_map f xs) (flat_map f ys))

-- its parts, one behind the other
pub page-parts : (r : ShiftRecord) → page r ≡ with_line_feed header ++ flat_map with_line_feed (port_lines (takes_of r) (value_shown r)) ++ with_line_feed footer
unfolding page
page-parts r =
    let lines = port_lines (takes_of r) (value_shown r) in
    let last = ap (λ (l : List ℕ). flat_map with_line_feed lines ++ l) (append-nil (with_line_feed footer)) in
    ap (λ (l : List ℕ). with_line_feed header ++ l) (flat_append with_line_feed lines (footer ∷ []) ∙ last)
    ∙ sym (append_assoc (with_line_feed header) (flat_map with_line_feed lines) (with_line_feed footer))

pub written-short : (r : ShiftRecord) (buffer : List ℕ) → length buffer < page_bytes → page_written r buffer ≡ unwritten page_too_short buffer
unfolding page_written
written-short r buffer h = rw (lt-leb page_bytes (length buffer) h)

pub written-fits : (r : ShiftRecord) (buffer : List ℕ) → page_bytes ≤ length buffer
    → page_written r buffer ≡ record { answer = accept page_bytes; buffer = page r ++ drop page_bytes buffer }
unfolding page_written
written-fits r buffer h = rw (le-leb page_bytes (length buffer) h)
