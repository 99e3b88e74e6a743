-- A row beside the log: the values of some entries in order, and then none. It serves the accepted arguments of each kind and
-- port, and the values taken at each port.
use Prim.Native.Nat.{ℕ, suc}
use native.Mathlib.Omega.{arith}
use mathlib.Core.Path.{◌≡◌, refl, sym, ap, subst}
use mathlib.Core.Bool.{Bool, true, false, not, ◌&&◌}
use mathlib.Core.List.{List, [], ◌∷◌, ◌++◌, append-nil, tail}
use mathlib.Core.Option.{Option, none, some}
use lib.Dec.{eqb}
use lib.ListN.{length}
use borrow.Author.Tests.{eqb-true, eqb-false, eq-eqb, ne_eqb}
use Rattle.number.specs.Basics.{pick, all_of, count_where, is_some}
use Rattle.queue.specs.declared.Kind.{Kind}
use Rattle.queue.specs.declared.arguments.Argument.{Argument}
use Rattle.queue.specs.declared.arguments.Argument.TheVariants.{LoadAddress, StoreAddress, StoreData}
use Rattle.queue.specs.Entry.{Entry}
use Rattle.number.proofs.Both.{and_left, and_right}
use Rattle.queue.proofs.Lists.{false-true, and_both}
use Rattle.sequential.specs.Plain.{Rows, next_of, used_up, cons_option}
use Rattle.sequential.proofs.Log.{LogEntry, of_load, of_store, own_in, own, put, put_own}
use Rattle.sequential.proofs.CellInvariant.{fits}

-- An entry's place: none where the entry has no part in the row, else what it has, or none yet.
abbrev pub RowPlace : Type 0
RowPlace = Option (Option ℕ)

abbrev pub place_for : Bool → Option ℕ → RowPlace
place_for b o = pick b (some o) none

-- the places of the arguments of a kind and port, and of the values taken at a port
abbrev pub given : Argument → ℕ → LogEntry → RowPlace
given LoadAddress port (of_load l) = place_for (eqb l.port port) l.address
given LoadAddress port (of_store s) = none
given StoreAddress port (of_load l) = none
given StoreAddress port (of_store s) = place_for (eqb s.port port) s.address
given StoreData port (of_load l) = none
given StoreData port (of_store s) = place_for (eqb s.port port) s.word

abbrev pub value_taken : ℕ → LogEntry → RowPlace
value_taken port (of_load l) = place_for (eqb l.port port) (pick l.finished l.word none)
value_taken port (of_store s) = none

abbrev pub fed : RowPlace → (List ℕ → Type 0) → List ℕ → Type 0
fed none rest row = rest row
fed (some none) rest row = (row ≡ []) × rest []
fed (some (some x)) rest row = (r : List ℕ) × (row ≡ x ∷ r) × rest r

abbrev pub Row : (LogEntry → RowPlace) → List LogEntry → List ℕ → Type 0
Row place [] row = row ≡ []
Row place (e ∷ es) row = fed (place e) (Row place es) row

-- a place that waits for a value
abbrev pub lacking : RowPlace → Bool
lacking none = false
lacking (some none) = true
lacking (some (some x)) = false

abbrev pub has_none : RowPlace → Bool
has_none none = true
has_none (some none) = true
has_none (some (some x)) = false

fed-map : (c : RowPlace) (P Q : List ℕ → Type 0) (f : List ℕ → List ℕ) → f [] ≡ [] → ((x : ℕ) (r : List ℕ) → f (x ∷ r) ≡ x ∷ f r)
    → ((r : List ℕ) → P r → Q (f r))
    → (row : List ℕ) → fed c P row → fed c Q (f row)
fed-map none P Q f z s w row h = w row h
fed-map (some none) P Q f z s w row h = (rw h.0 z, rw z at (w [] h.1))
fed-map (some (some x)) P Q f z s w row h = (f h.0, rw h.1 (s x h.0), w h.0 h.2)

module _ (place : LogEntry → RowPlace) where
  -- an entry made anew with the same place
  pub row_same : (e e' : LogEntry) → place e ≡ place e' → (post pre : List LogEntry) (row : List ℕ) → Row place (pre ++ e ∷ post) row
      → Row place (pre ++ e' ∷ post) row
  row_same e e' same post [] row h = rw same at h
  row_same e e' same post (d ∷ pre) row h =
      fed-map (place d) (Row place (pre ++ e ∷ post)) (Row place (pre ++ e' ∷ post)) (λ r. r) refl (λ x r. refl)
      (λ r k. row_same e e' same post pre r k) row h

  -- the first place that waits gets the value that joins the row
  pub row-fill : (e e' : LogEntry) (x : ℕ) → place e ≡ some none → place e' ≡ some (some x) → (post pre : List LogEntry)
      → all_of (λ d. not (lacking (place d))) pre ≡ true
      → (row : List ℕ) → Row place (pre ++ e ∷ post) row → Row place (pre ++ e' ∷ post) (row ++ x ∷ [])
  row-fill e e' x waits filled post [] t row h = rw filled (start (rw waits at h))
    where
      start : fed (some none) (Row place post) row → fed (some (some x)) (Row place post) (row ++ x ∷ [])
      start (empty, k) = ([], rw empty, k)
  row-fill e e' x waits filled post (d ∷ pre) t row h =
      go (place d) (and_left (not (lacking (place d))) (all_of (λ d. not (lacking (place d))) pre) t) h
      (λ r k. row-fill e e' x waits filled post pre (and_right (not (lacking (place d))) (all_of (λ d. not (lacking (place d))) pre) t) r k)
    where
      go : (c : RowPlace) → not (lacking c) ≡ true → fed c (Row place (pre ++ e ∷ post)) row
          → ((r : List ℕ) → Row place (pre ++ e ∷ post) r → Row place (pre ++ e' ∷ post) (r ++ x ∷ []))
          → fed c (Row place (pre ++ e' ∷ post)) (row ++ x ∷ [])
      go none l k rec = rec row k
      go (some none) l k rec = false-true l
      go (some (some y)) l (r, is, k) rec = (r ++ x ∷ [], rw is, rec r k)

  -- entries that have nothing yet leave the row as it is
  pub row-append : (new : List LogEntry) → all_of (λ d. has_none (place d)) new ≡ true → (es : List LogEntry) (row : List ℕ) → Row place es row
      → Row place (es ++ new) row
  row-append new t [] row h = rw h (empty new t)
    where
      empty : (l : List LogEntry) → all_of (λ d. has_none (place d)) l ≡ true → Row place l []
      empty [] u = refl
      empty (d ∷ l) u = go (place d) (and_left (has_none (place d)) (all_of (λ d. has_none (place d)) l) u)
          (empty l (and_right (has_none (place d)) (all_of (λ d. has_none (place d)) l) u))
        where
          go : (c : RowPlace) → has_none c ≡ true → Row place l [] → fed c (Row place l) []
          go none u₁ k = k
          go (some none) u₁ k = (refl, k)
          go (some (some x)) u₁ k = false-true u₁
  row-append new t (d ∷ es) row h =
      fed-map (place d) (Row place es) (Row place (es ++ new)) (λ r. r) refl (λ x r. refl) (λ r k. row-append new t es r k) row h

  -- a row that is as long as it has places leaves none waiting
  pub row-full : (es : List LogEntry) (row : List ℕ) → Row place es row → length row ≡ count_where (λ d. is_some (place d)) es
      → all_of (λ d. not (lacking (place d))) es ≡ true
  row-full [] row h e = refl
  row-full (d ∷ es) row h e = go (place d) h e (λ r k l. row-full es r k l)
    where
      go : (c : RowPlace) → fed c (Row place es) row
          → length row ≡ pick (is_some c) (suc (count_where (λ d. is_some (place d)) es)) (count_where (λ d. is_some (place d)) es)
          → ((r : List ℕ) → Row place es r → length r ≡ count_where (λ d. is_some (place d)) es → all_of (λ d. not (lacking (place d))) es ≡ true)
          → not (lacking c) && all_of (λ d. not (lacking (place d))) es ≡ true
      go none k l rec = rec row k l
      go (some none) k l rec = let z : length row ≡ 0 = ap length k.0 in absurd (omega arith)
      go (some (some x)) (r, is, k) l rec = let z : length row ≡ suc (length r) = ap length is in rec r k (omega arith)

-- a row for each port: the port's first place that waits gets the value, and the other ports' rows are as they were
pub row_of_port : (place : ℕ → LogEntry → RowPlace) (e e' : LogEntry) (x port : ℕ) (pre post : List LogEntry) → place port e ≡ some none
    → place port e' ≡ some (some x)
    → all_of (λ d. not (lacking (place port d))) pre ≡ true → ((p : ℕ) → eqb port p ≡ false → place p e ≡ place p e')
    → (rows : ℕ → List ℕ) → ((p : ℕ) → Row (place p) (pre ++ e ∷ post) (rows p)) → (p : ℕ)
    → Row (place p) (pre ++ e' ∷ post) (rows p ++ pick (eqb port p) (x ∷ []) [])
row_of_port place e e' x port pre post waits filled t other rows h p = go (eqb port p) refl
  where
    go : (b : Bool) → eqb port p ≡ b → Row (place p) (pre ++ e' ∷ post) (rows p ++ pick b (x ∷ []) [])
    go true same =
        subst (λ (k : ℕ). Row (place k) (pre ++ e' ∷ post) (rows k ++ x ∷ [])) (eqb-true port p same)
        (row-fill (place port) e e' x waits filled post pre t (rows port) (h port))
    go false differs = rw (append-nil (rows p)) (row_same (place p) e e' (other p differs) post pre (rows p) (h p))

-- no place before waits, where no entry of the kind does
pub none_waits_lem : (K : Kind) (place : LogEntry → RowPlace) → ((e : LogEntry) → own K e ≡ none → not (lacking (place e)) ≡ true)
    → (pre : List LogEntry) → all_of (λ a. not (lacking (place (put K a)))) (own_in K pre) ≡ true → all_of (λ d. not (lacking (place d))) pre ≡ true
none_waits_lem K place other [] t = refl
none_waits_lem K place other (e ∷ pre) t = go (own K e) refl t (λ k. none_waits_lem K place other pre k)
  where
    go : (o : Option Entry) → own K e ≡ o → all_of (λ a. not (lacking (place (put K a)))) (cons_option o (own_in K pre)) ≡ true
        → (all_of (λ a. not (lacking (place (put K a)))) (own_in K pre) ≡ true → all_of (λ d. not (lacking (place d))) pre ≡ true)
        → not (lacking (place e)) && all_of (λ d. not (lacking (place d))) pre ≡ true
    go none own k rec = and_both (other e own) (rec k)
    go (some a) own k rec =
        let is : e ≡ put K a = put_own K e a own in
        and_both {a = not (lacking (place e))} (rw is (and_left (not (lacking (place (put K a)))) _ k)) (rec (and_right (not (lacking (place (put K a)))) _ k))

-- ---- the plain run takes from the rows what the entries have

pub fed-fits : (o : Option ℕ) (P : List ℕ → Type 0) (row : List ℕ) (filled : ℕ) → fed (some o) P row → fits o (next_of row filled)
fed-fits none P row filled h = tt
fed-fits (some x) P row filled (r, is, h) = rw is

fed-tail : (o : Option ℕ) (P : List ℕ → Type 0) (row : List ℕ) → fed (some o) P row → P (tail row)
fed-tail none P row h = rw h.0 h.1
fed-tail (some x) P row (r, is, h) = rw is h

pub eqb_self : (n : ℕ) → eqb n n ≡ true
eqb_self n = eq-eqb n n refl

pub eqb-turned : (a b : ℕ) → eqb a b ≡ eqb b a
eqb-turned a b = go (eqb a b) refl
  where
    go : (t : Bool) → eqb a b ≡ t → t ≡ eqb b a
    go true e = sym (eq-eqb b a (sym (eqb-true a b e)))
    go false e = sym (ne_eqb b a (λ p. eqb-false a b e (sym p)))

fed_used : (a b : ℕ) (o : Option ℕ) (P : List ℕ → Type 0) (row : List ℕ) → fed (place_for (eqb a b) o) P row → P (pick (eqb b a) (tail row) row)
fed_used a b o P row h = rw (eqb-turned b a) (go (eqb a b) h)
  where
    go : (t : Bool) → fed (place_for t o) P row → P (pick t (tail row) row)
    go true k = fed-tail o P row k
    go false k = k

-- every row beside the log
abbrev pub AllRows : List LogEntry → Rows → Type 0
AllRows es rows = (kind : Argument) (port : ℕ) → Row (given kind port) es (rows kind port)

pub rows_after_load : (l : Entry) (es : List LogEntry) (rows : Rows) → AllRows (of_load l ∷ es) rows → AllRows es (used_up LoadAddress l.port rows)
rows_after_load l es rows h LoadAddress port = fed_used l.port port l.address (Row (given LoadAddress port) es) (rows LoadAddress port)
    (h LoadAddress port)
rows_after_load l es rows h StoreAddress port = h StoreAddress port
rows_after_load l es rows h StoreData port = h StoreData port

pub rows_after_store : (s : Entry) (es : List LogEntry) (rows : Rows) → AllRows (of_store s ∷ es) rows
    → AllRows es (used_up StoreData s.port (used_up StoreAddress s.port rows))
rows_after_store s es rows h LoadAddress port = h LoadAddress port
rows_after_store s es rows h StoreAddress port = fed_used s.port port s.address (Row (given StoreAddress port) es) (rows StoreAddress port)
    (h StoreAddress port)
rows_after_store s es rows h StoreData port = fed_used s.port port s.word (Row (given StoreData port) es) (rows StoreData port) (h StoreData port)

-- what the plain run takes completes the entry
pub load_fits : (l : Entry) (es : List LogEntry) (rows : Rows) (filled : ℕ) → AllRows (of_load l ∷ es) rows
    → fits l.address (next_of (rows LoadAddress l.port) filled)
load_fits l es rows filled h =
    fed-fits l.address (Row (given LoadAddress l.port) es) (rows LoadAddress l.port) filled
    (rw (eqb_self l.port) at (h LoadAddress l.port))

pub store-fits : (s : Entry) (es : List LogEntry) (rows : Rows) (filled : ℕ) → AllRows (of_store s ∷ es) rows
    → fits s.address (next_of (rows StoreAddress s.port) filled)
store-fits s es rows filled h =
    fed-fits s.address (Row (given StoreAddress s.port) es) (rows StoreAddress s.port) filled
    (rw (eqb_self s.port) at (h StoreAddress s.port))

pub word_fits_lem : (s : Entry) (es : List LogEntry) (rows : Rows) (filled : ℕ) → AllRows (of_store s ∷ es) rows
    → fits s.word (next_of (rows StoreData s.port) filled)
word_fits_lem s es rows filled h =
    fed-fits s.word (Row (given StoreData s.port) es) (rows StoreData s.port) filled
    (rw (eqb_self s.port) at (h StoreData s.port))
