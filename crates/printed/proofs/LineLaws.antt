-- The lines of the printed run, piece by piece.
use Prim.Native.Nat.{ℕ, zero, suc, ◌+◌, ◌*◌, ◌≤◌, ◌<◌}
use mathlib.Core.Path.{◌≡◌, refl, sym, ap, ap₂, ◌∙◌}
use mathlib.Core.Bool.{Bool, true, false}
use mathlib.Core.List.{List, [], ◌∷◌, ◌++◌, map, append_assoc, append-nil}
use mathlib.Core.Option.{Option, none, some}
use native.Mathlib.Omega.{arith}
use lib.Dec.{eqb}
use native.Mathlib.Nat.{add-zero}
use native.Mathlib.Numerals.{add-one}
use lib.ListN.{length, get_or, take, length-append}
use lib.Seq.{take-suc, length-take-le, append_snoc}
use borrow.Author.Tests.{eq-eqb, ne_eqb}
use Rattle.number.specs.Texts.{bytes, decimal}
use Rattle.number.specs.Basics.{pick}
use Rattle.number.specs.Number.{PutIfFits}
use Rattle.counts.specs.declared.Counts.{Counts}
use Rattle.counts.specs.Counts.{share}
use Rattle.replay.specs.Playing.{Logged, answer_of, given_of, word_of, given_in, word_in}
use Rattle.printed.specs.Words.{line}
use Rattle.printed.specs.Text.{shown, event_line, event_lines, word_line, word_lines, counts_line}
use Rattle.printed.specs.Files.{table_fault_text, trace_fault_text, fault_text}
use Rattle.number.specs.Refusal.{refusal_number}
use Rattle.printed.specs.declared.files.FilesFault.{FilesFault}
use Rattle.printed.specs.declared.files.FilesFault.TheVariants.{Table, Trace, NoRoom}
use Rattle.printed.specs.Played.{fault_line}
use Rattle.printed.specs.Internal.{item, logged_as, rows}
use Rattle.number.proofs.PutLaws.{decimal-few, digits_under}

-- ---- items
pub item-few : (words : List ℕ) (n end : ℕ) → length (item words n end) ≤ length words + 21
item-few words n end = omega (arith, length-append (words ++ decimal n) (end ∷ []), length-append words (decimal n), decimal-few n)

-- what stands behind an item
item-then : (words : List ℕ) (n end : ℕ) (ys : List ℕ) → item words n end ++ ys ≡ words ++ (decimal n ++ end ∷ ys)
item-then words n end ys = append_snoc (words ++ decimal n) end ys ∙ append_assoc words (decimal n) (end ∷ ys)

-- ---- an event's line
pub event_value : (n answer given word : ℕ) → given ≡ 1
    → (item [] n 32 ++ item [] answer 32) ++ item [] word 10 ≡ event_line n (logged_as answer given word)
event_value n answer given word h = rw (eq-eqb given 1 h) (simp append_assoc)

pub event_none : (n answer given word : ℕ) → (given ≡ 1 → ⊥)
    → (item [] n 32 ++ item [] answer 32) ++ 45 ∷ 10 ∷ [] ≡ event_line n (logged_as answer given word)
event_none n answer given word h = rw (ne_eqb given 1 h) (simp append_assoc)

-- ---- how long a line is
event_few : (n : ℕ) (l : Logged) → length (event_line n l) ≤ 63
event_few n l = omega (
  arith,
  length-append (decimal n) (32 ∷ (decimal l.number ++ 32 ∷ (shown l.value ++ 10 ∷ []))),
  length-append (decimal l.number) (32 ∷ (shown l.value ++ 10 ∷ [])),
  length-append (shown l.value) (10 ∷ []),
  decimal-few n,
  decimal-few l.number,
  shown-few l.value,
)
  where
    shown-few : (v : Option ℕ) → length (shown v) ≤ 20
    shown-few none = omega arith
    shown-few (some v) = decimal-few v

pub events_text_few : (n : ℕ) (ls : List Logged) → length (event_lines n ls) ≤ 63 * length ls
events_text_few n [] = omega arith
events_text_few n (l ∷ ls) = omega (arith, length-append (event_line n l) (event_lines (suc n) ls), event_few n l, events_text_few (suc n) ls)

-- one line more
events_snoc : (n : ℕ) (ls : List Logged) (l : Logged) → event_lines n (ls ++ l ∷ []) ≡ event_lines n ls ++ event_line (n + length ls) l
events_snoc n [] l = rw (add-zero, append-nil)
events_snoc n (k ∷ ls) l =
    let e : suc n + length ls ≡ n + suc (length ls) = omega arith in
    rw (events_snoc (suc n) ls l, e) (sym (append_assoc (event_line n k) (event_lines (suc n) ls) (event_line (n + suc (length ls)) l)))

-- ---- the rows that a replay put down
abbrev no_row : Logged
no_row = record { number = 0; value = none }

rows_at : (a g w : List ℕ) (i : ℕ) → i < length a → i < length g → i < length w
    → get_or (rows a g w) i no_row ≡ logged_as (get_or a i 0) (get_or g i 0) (get_or w i 0)
rows_at [] g w i h k m = absurd (omega arith)
rows_at (x ∷ a) [] w i h k m = absurd (omega arith)
rows_at (x ∷ a) (y ∷ g) [] i h k m = absurd (omega arith)
rows_at (x ∷ a) (y ∷ g) (z ∷ w) zero h k m = refl
rows_at (x ∷ a) (y ∷ g) (z ∷ w) (suc i) h k m = rows_at a g w i (omega arith) (omega arith) (omega arith)

rows-many : (a g w : List ℕ) (i : ℕ) → i ≤ length a → i ≤ length g → i ≤ length w → i ≤ length (rows a g w)
rows-many a g w zero h k m = omega arith
rows-many [] g w (suc i) h k m = absurd (omega arith)
rows-many (x ∷ a) [] w (suc i) h k m = absurd (omega arith)
rows-many (x ∷ a) (y ∷ g) [] (suc i) h k m = absurd (omega arith)
rows-many (x ∷ a) (y ∷ g) (z ∷ w) (suc i) h k m = omega (arith, rows-many a g w i (omega arith) (omega arith) (omega arith))

module _ (a g w : List ℕ) (count : ℕ) (ha : count ≤ length a) (hg : count ≤ length g) (hw : count ≤ length w) where
  rows_taken : (i : ℕ) → i ≤ count → length (take i (rows a g w)) ≡ i
  rows_taken i h = length-take-le i (rows a g w) (rows-many a g w i (omega arith) (omega arith) (omega arith))

  pub rows-text-few : (i : ℕ) → i ≤ count → length (event_lines 1 (take i (rows a g w))) ≤ 63 * i
  rows-text-few i h = omega (arith, events_text_few 1 (take i (rows a g w)), rows_taken i h)

  pub rows_next : (i : ℕ) → i < count
      → event_lines 1 (take i (rows a g w)) ++ event_line (i + 1) (logged_as (get_or a i 0) (get_or g i 0) (get_or w i 0)) ≡ event_lines 1
      (take (i + 1) (rows a g w))
  rows_next i h =
      let n : i < length (rows a g w) = omega (arith, rows-many a g w (i + 1) (omega arith) (omega arith) (omega arith)) in
      let l : length (take i (rows a g w)) ≡ i = rows_taken i (omega arith) in
      let s : i + 1 ≡ 1 + length (take i (rows a g w)) = omega arith in
      let t : take (i + 1) (rows a g w) ≡ take i (rows a g w) ++ get_or (rows a g w) i no_row ∷ [] = ap (λ (k : ℕ). take k (rows a g w)) (add-one i)
      ∙ take-suc (rows a g w) i no_row n in
      sym (ap (event_lines 1) t ∙ events_snoc 1 (take i (rows a g w)) (get_or (rows a g w) i no_row)
      ∙ rw (rows_at a g w i (omega arith) (omega arith) (omega arith), ← s))

-- all rows; those of the first events
pub rows_whole : (a g w : List ℕ) → take (length a) (rows a g w) ≡ rows a g w
rows_whole [] g w = refl
rows_whole (x ∷ a) [] w = refl
rows_whole (x ∷ a) (y ∷ g) [] = refl
rows_whole (x ∷ a) (y ∷ g) (z ∷ w) = ap (λ (ls : List Logged). logged_as x y z ∷ ls) (rows_whole a g w)

pub rows_front : (a g w : List ℕ) (n : ℕ) → rows (take n a) (take n g) (take n w) ≡ take n (rows a g w)
rows_front a g w zero = refl
rows_front [] g w (suc n) = refl
rows_front (x ∷ a) [] w (suc n) = refl
rows_front (x ∷ a) (y ∷ g) [] (suc n) = refl
rows_front (x ∷ a) (y ∷ g) (z ∷ w) (suc n) = ap (λ (ls : List Logged). logged_as x y z ∷ ls) (rows_front a g w n)

-- the rows are the log
pub rows_log : (ls : List Logged) (a g w : List ℕ) → take (length ls) (rows (map answer_of ls ++ a) (map given_of ls ++ g) (map word_of ls ++ w)) ≡ ls
rows_log [] a g w = refl
rows_log (l ∷ ls) a g w = ap₂ (λ (h : Logged) (t : List Logged). h ∷ t) (same l.number l.value) (rows_log ls a g w)
  where
    same : (n : ℕ) (v : Option ℕ) → logged_as n (given_in v) (word_in v) ≡ record { number = n; value = v }
    same n none = refl
    same n (some v) = refl

-- ---- words
abbrev pub word_space : List ℕ
word_space = 119 ∷ 111 ∷ 114 ∷ 100 ∷ 32 ∷ []

pub word_some : (a w : ℕ) → (w ≡ 0 → ⊥) → item word_space a 32 ++ item [] w 10 ≡ word_line a w
word_some a w h = rw (ne_eqb w 0 h) (item-then word_space a 32 (item [] w 10))

word-few : (a w : ℕ) → length (word_line a w) ≤ 47
word-few a w = go (eqb w 0)
  where
    go : (t : Bool) → length (pick t [] (line (bytes "word") (decimal a ∷ decimal w ∷ []))) ≤ 47
    go true = omega arith
    go false = omega (arith, length-append (decimal a) (32 ∷ (decimal w ++ 10 ∷ [])), length-append (decimal w) (10 ∷ []), decimal-few a, decimal-few w)

pub words-few : (a : ℕ) (ws : List ℕ) → length (word_lines a ws) ≤ 47 * length ws
words-few a [] = omega arith
words-few a (w ∷ ws) = omega (arith, length-append (word_line a w) (word_lines (suc a) ws), word-few a w, words-few (suc a) ws)

words_snoc : (a : ℕ) (ws : List ℕ) (w : ℕ) → word_lines a (ws ++ w ∷ []) ≡ word_lines a ws ++ word_line (a + length ws) w
words_snoc a [] w = rw (add-zero, append-nil)
words_snoc a (v ∷ ws) w =
    let e : suc a + length ws ≡ a + suc (length ws) = omega arith in
    rw (words_snoc (suc a) ws w, e) (sym (append_assoc (word_line a v) (word_lines (suc a) ws) (word_line (a + suc (length ws)) w)))

module _ (ws : List ℕ) (i : ℕ) where
  pub words-text-few : i ≤ length ws → length (word_lines 0 (take i ws)) ≤ 47 * i
  words-text-few h = omega (arith, words-few 0 (take i ws), length-take-le i ws h)

  pub words-next : i < length ws → word_lines 0 (take i ws) ++ word_line i (get_or ws i 0) ≡ word_lines 0 (take (i + 1) ws)
  words-next h =
      let s : i ≡ 0 + length (take i ws) = omega (arith, length-take-le i ws (omega arith)) in
      sym (ap (word_lines 0) (ap (λ (k : ℕ). take k ws) (add-one i) ∙ take-suc ws i 0 h) ∙ words_snoc 0 (take i ws) (get_or ws i 0)
      ∙ ap (λ (k : ℕ). word_lines 0 (take i ws) ++ word_line k (get_or ws i 0)) (sym s))

-- ---- the last line
abbrev pub loads_space : List ℕ
loads_space = 108 ∷ 111 ∷ 97 ∷ 100 ∷ 115 ∷ 32 ∷ []

abbrev pub forwarded_space : List ℕ
forwarded_space = 102 ∷ 111 ∷ 114 ∷ 119 ∷ 97 ∷ 114 ∷ 100 ∷ 101 ∷ 100 ∷ 32 ∷ []

abbrev pub share_space : List ℕ
share_space = 115 ∷ 104 ∷ 97 ∷ 114 ∷ 101 ∷ 32 ∷ []

pub counts-line : (c : Counts) → (item loads_space c.loads 32 ++ item forwarded_space c.forwarded 32) ++ item share_space (share c) 10 ≡ counts_line c
counts-line c =
    let i = item loads_space c.loads 32 in
    let j = item forwarded_space c.forwarded 32 in
    let k = item share_space (share c) 10 in
    append_assoc i j k ∙ ap (λ (t : List ℕ). i ++ t) (item-then forwarded_space c.forwarded 32 k)
    ∙ item-then loads_space c.loads 32 (forwarded_space ++ (decimal c.forwarded ++ 32 ∷ k))

-- ---- faults
pub table-line : (n : ℕ) → item (116 ∷ 97 ∷ 98 ∷ 108 ∷ 101 ∷ 32 ∷ []) n 10 ≡ table_fault_text n
table-line n = refl

pub trace-line : (n : ℕ) → item (116 ∷ 114 ∷ 97 ∷ 99 ∷ 101 ∷ 32 ∷ []) n 10 ≡ trace_fault_text n
trace-line n = refl

module _ (t : Bool) (n : ℕ) where
  -- a fault's number has at most three digits
  pub fault-few : n < 256 → length (fault_text t n) ≤ 10
  fault-few h = go t
    where
      digits : length (decimal n) ≤ 3
      digits = digits_under 19 2 n (omega arith)

      go : (t : Bool) → length (fault_text t n) ≤ 10
      go true = omega (arith, length-append (decimal n) (10 ∷ []), digits)
      go false = omega (arith, length-append (decimal n) (10 ∷ []), digits)

-- the line of a fault that was told
pub fault-line-few : (e : FilesFault) → length (fault_line e) ≤ 27
fault-line-few (Table e) = omega (arith, length-append (decimal (refusal_number e)) (10 ∷ []), decimal-few (refusal_number e))
fault-line-few (Trace e) = omega (arith, length-append (decimal (refusal_number e)) (10 ∷ []), decimal-few (refusal_number e))
fault-line-few (NoRoom e) = omega arith

-- the same bytes, written otherwise
pub fits_as : {d : List ℕ} {p : ℕ} {xs ys : List ℕ} {e : ℕ} {out : List ℕ} → xs ≡ ys → PutIfFits d p xs e out → PutIfFits d p ys e out
fits_as h w = rw h at w
