-- The plain run beside the log: what the rows and the cells' invariant say of its values and of its memory.
use Prim.Native.Nat.{ℕ, zero, suc, ◌<◌}
use mathlib.Core.Path.{◌≡◌, refl, sym, ap, ◌∙◌}
use mathlib.Core.Bool.{Bool, true, false}
use mathlib.Core.List.{List, [], ◌∷◌, map}
use mathlib.Core.Option.{Option, none, some}
use lib.Dec.{eqb}
use lib.ListN.{length, get_or, set, length-set, get_elem?}
use borrow.Author.Tests.{ltb-true}
use Rattle.number.specs.Basics.{pick, all_of, count_where, is_some}
use Rattle.table.specs.Group.{GroupPairs, Access, load, store, is_load, is_store, uncounted}
use Rattle.queue.specs.Entry.{Entry}
use Rattle.queue.specs.Touch.{apart, same, touch}
use Rattle.queue.specs.Retire.{finished}
use Rattle.queue.specs.declared.arguments.Argument.{Argument}
use Rattle.queue.specs.declared.arguments.Argument.TheVariants.{LoadAddress, StoreAddress, StoreData}
use Rattle.number.proofs.Both.{and_left, and_right}
use Rattle.queue.proofs.Lists.{false-true, implied}
use Rattle.sequential.specs.Answers.{Answered}
use Rattle.sequential.specs.Demand3.{told, uses}
use Rattle.sequential.specs.Plain.{accesses, Rows, Filling, next_of, used_up, Reading, word_reading, PlainState, after_load, after_store, values_from}
use Rattle.sequential.specs.Plain.{memory_from, values_at}
use Rattle.sequential.proofs.Log.{LogEntry, of_load, of_store, access_of, loads, stores, own_in}
use Rattle.sequential.proofs.Lanes.{lanes, lane_of, cell_at, lanes_word, at_put, cells-memory}
use Rattle.sequential.proofs.CellInvariant.{may, fits, does, Agree}
use Rattle.sequential.proofs.Views.{stage_of, lane_in, view}
use Rattle.sequential.proofs.Rows.{Row, fed, place_for, value_taken, AllRows, rows_after_load, rows_after_store, load_fits, store-fits, word_fits_lem}
use Rattle.sequential.proofs.Rows.{eqb_self}
use Rattle.sequential.proofs.Invariant.{LogSeen, right_load, served-addressed, load_in_range}

-- what completes an entry is a completion of it, as a cell sees it
may-fits : (b : ℕ) (known : Option ℕ) (a : ℕ) → fits known a → may (touch b known) (eqb a b)
may-fits b none a h = tt
may-fits b (some x) a h = rw (← h) (go (eqb x b))
  where
    go : (t : Bool) → may (pick t same apart) t
    go true = refl
    go false = refl

fits_lane : (j : ℕ) (known : Option ℕ) (w : ℕ) → fits known w → fits (lane_in j known) (lane_of w j)
fits_lane j none w h = tt
fits_lane j (some x) w h = rw h

-- Every cell agrees; v is virtual memory, as a function of the cell. The plain run uses up rows on its way and carries this along.
abbrev pub Cellwise : (ℕ → ℕ → ℕ) → List ℕ → List LogEntry → Type 0
Cellwise v n es = (b j : ℕ) → b < length n → j < lanes → Agree (v b j) (cell_at n b j) (map (view b j) es)

-- what a store of w to the address a leaves in virtual memory
abbrev pub virtually : Bool → ℕ → ℕ → (ℕ → ℕ → ℕ) → ℕ → ℕ → ℕ
virtually written a w v b j = does (stage_of written) (eqb a b) (lane_of w j) (v b j)

pub cellwise-store : (s : Entry) (a w : ℕ) → fits s.address a → fits s.word w → (v : ℕ → ℕ → ℕ) (n : List ℕ) (es : List LogEntry)
    → Cellwise v n (of_store s ∷ es) → Cellwise (virtually s.finished a w v) (set n a w) es
cellwise-store s a w p q v n es h b j low lane =
    rw (at_put n a w b j inside) (h b j inside lane (eqb a b) (may-fits b s.address a p) (lane_of w j) (fits_lane j s.word w q))
  where
    inside : b < length n
    inside = rw (length-set n a w) at low

-- A served load has the plain run's word at its address.
pub cellwise-load : (l : Entry) (a x : ℕ) (v : ℕ → ℕ → ℕ) (n : List ℕ) (es : List LogEntry) → right_load (length n) l ≡ true
    → fits l.address a → l.word ≡ some x → Cellwise v n (of_load l ∷ es) → x ≡ get_or n a 0
cellwise-load l a x v n es right p has h =
    go l.address refl (implied (is_some l.word) (is_some l.address) (served-addressed (length n) l right) (rw has))
  where
    go : (o : Option ℕ) → l.address ≡ o → is_some o ≡ true → x ≡ get_or n a 0
    go none e t = false-true t
    go (some c) e t =
        let same_address : c ≡ a = rw e at p in
        let is : l.address ≡ some a = rw same_address at e in
        let low : a < length n = ltb-true a (length n) (rw is at (load_in_range (length n) l right)) in
        lanes_word x (get_or n a 0) (λ j lane. rw has at ((h a j low lane).0 (rw (is, eqb_self a) refl)))

-- What was taken is what the plain run loads.
pub taken_is_loaded : (fill : Filling) (port : ℕ) (es : List LogEntry) (k : ℕ) (v : ℕ → ℕ → ℕ) (n : List ℕ) (rows : Rows)
    → all_of (right_load (length n)) (own_in loads es) ≡ true → AllRows es rows → Cellwise v n es
    → (row : List ℕ) → Row (value_taken port) es row → (i x : ℕ) → get_elem? row i ≡ some x
    → get_elem? (values_at port (values_from word_reading fill k (record { memory = n; rows = rows }) (map access_of es))) i ≡ some x
taken_is_loaded fill port [] k v n rows right h g row r i x e = let z : get_elem? [] i ≡ some x = (rw r at e) in let y : false ≡ true = cc in false-true y
taken_is_loaded fill port (of_load l ∷ es) k v n rows right h g row r i x e =
    go (eqb l.port port) l.finished l.word has i r e
    (λ row' r' j e'. taken_is_loaded fill port es (suc k) v n (used_up LoadAddress l.port rows)
    (and_right (right_load (length n) l) (all_of (right_load (length n)) (own_in loads es)) right) (rows_after_load l es rows h)
    (λ b j low lane. (g b j low lane).1) row' r' j x e')
  where
    word : ℕ
    word = get_or n (next_of (rows LoadAddress l.port) (fill.address k)) 0

    later : List ℕ
    later = values_at port (values_from word_reading fill (suc k) (record { memory = n; rows = used_up LoadAddress l.port rows }) (map access_of es))

    has : (y : ℕ) → l.word ≡ some y → y ≡ word
    has y is =
        cellwise-load l (next_of (rows LoadAddress l.port) (fill.address k)) y v n es
        (and_left (right_load (length n) l) (all_of (right_load (length n)) (own_in loads es)) right) (load_fits l es rows (fill.address k) h) is g

    served : (o : Option ℕ) → ((y : ℕ) → o ≡ some y → y ≡ word) → (j : ℕ)
        → fed (some o) (Row (value_taken port) es) row → get_elem? row j ≡ some x
        → ((row' : List ℕ) → Row (value_taken port) es row' → (j : ℕ) → get_elem? row' j ≡ some x → get_elem? later j ≡ some x)
        → get_elem? (word ∷ later) j ≡ some x
    served none w j (empty, r') e' rec = let z : get_elem? [] j ≡ some x = (rw empty at e') in let y : false ≡ true = cc in false-true y
    served (some y) w zero (row', is, r') e' rec = let z : some y ≡ some x = (rw is at e') in sym (ap some (w y refl)) ∙ z
    served (some y) w (suc j) (row', is, r') e' rec = rec row' r' j (rw is at e')

    go : (same taken : Bool) (o : Option ℕ) → ((y : ℕ) → o ≡ some y → y ≡ word)
        → (j : ℕ) → fed (place_for same (pick taken o none)) (Row (value_taken port) es) row → get_elem? row j ≡ some x
        → ((row' : List ℕ) → Row (value_taken port) es row' → (j : ℕ) → get_elem? row' j ≡ some x → get_elem? later j ≡ some x)
        → get_elem? (pick same (word ∷ later) later) j ≡ some x
    go false taken o w j r' e' rec = rec row r' j e'
    go true true o w j r' e' rec = served o w j r' e' rec
    go true false o w j (empty, r') e' rec = let z : get_elem? [] j ≡ some x = (rw empty at e') in let y : false ≡ true = cc in false-true y
taken_is_loaded fill port (of_store s ∷ es) k v n rows right h g row r i x e =
    taken_is_loaded fill port es (suc k) (virtually s.finished address word v) (set n address word)
    (used_up StoreData s.port (used_up StoreAddress s.port rows)) (rw (length-set n address word) right) (rows_after_store s es rows h)
    (cellwise-store s address word (store-fits s es rows (fill.address k) h) (word_fits_lem s es rows (fill.word k) h) v n es g) row r i x e
  where
    address : ℕ
    address = next_of (rows StoreAddress s.port) (fill.address k)

    word : ℕ
    word = next_of (rows StoreData s.port) (fill.word k)

-- Where every store is written, virtual memory is memory, and memory is the plain run's.
cellwise-written : (fill : Filling) (es : List LogEntry) (k : ℕ) (v : ℕ → ℕ → ℕ) (n : List ℕ) (rows : Rows) → AllRows es rows
    → Cellwise v n es → all_of finished (own_in stores es) ≡ true → (b j : ℕ) → b < length n → j < lanes
    → v b j ≡ cell_at (memory_from word_reading fill k (record { memory = n; rows = rows }) (map access_of es)) b j
cellwise-written fill [] k v n rows h g t b j low lane = g b j low lane
cellwise-written fill (of_load l ∷ es) k v n rows h g t b j low lane =
    cellwise-written fill es (suc k) v n (used_up LoadAddress l.port rows) (rows_after_load l es rows h) (λ b j low lane. (g b j low lane).1) t b j low lane
cellwise-written fill (of_store s ∷ es) k v n rows h g t b j low lane =
    rw (and_left s.finished (all_of finished (own_in stores es)) t) at
    (cellwise-written fill es (suc k) (virtually s.finished address word v) (set n address word)
    (used_up StoreData s.port (used_up StoreAddress s.port rows)) (rows_after_store s es rows h)
    (cellwise-store s address word (store-fits s es rows (fill.address k) h) (word_fits_lem s es rows (fill.word k) h) v n es g)
    (and_right s.finished (all_of finished (own_in stores es)) t) b j (rw (length-set n address word) low) lane)
  where
    address : ℕ
    address = next_of (rows StoreAddress s.port) (fill.address k)

    word : ℕ
    word = next_of (rows StoreData s.port) (fill.word k)

pub memory-long : (fill : Filling) (k : ℕ) (s : PlainState ℕ) (accesses : List Access)
    → length (memory_from word_reading fill k s accesses) ≡ length s.memory
memory-long fill k s [] = refl
memory-long fill k s (load p ∷ rest) = memory-long fill (suc k) (after_load s p.port) rest
memory-long fill k s (store p ∷ rest) =
    memory-long fill (suc k) (after_store word_reading fill k s p.port) rest
    ∙ length-set s.memory (next_of (s.rows StoreAddress p.port) (fill.address k)) (next_of (s.rows StoreData p.port) (fill.word k))

pub written_is_plain : (fill : Filling) (es : List LogEntry) (m n : List ℕ) (rows : Rows) → length m ≡ length n → AllRows es rows
    → Cellwise (cell_at m) n es → all_of finished (own_in stores es) ≡ true
    → m ≡ memory_from word_reading fill 0 (record { memory = n; rows = rows }) (map access_of es)
written_is_plain fill es m n rows long h g t =
    cells-memory m _ (long ∙ sym (memory-long fill 0 (record { memory = n; rows = rows }) (map access_of es)))
    (λ b j low lane. cellwise-written fill es 0 (cell_at m) n rows h g t b j (rw (← long) low) lane)

-- ---- the plain run does not look at offsets

module _ {A : Type 0} (reading : Reading A) (fill : Filling) where
  pub values-uncounted : (k : ℕ) (s : PlainState A) (xs : List Access) → values_from reading fill k s (map uncounted xs) ≡ values_from reading fill k s xs
  values-uncounted k s [] = refl
  values-uncounted k s (load p ∷ xs) = rw (values-uncounted (suc k) (after_load s p.port) xs)
  values-uncounted k s (store p ∷ xs) = values-uncounted (suc k) (after_store reading fill k s p.port) xs

  pub memory-uncounted : (k : ℕ) (s : PlainState A) (xs : List Access) → memory_from reading fill k s (map uncounted xs) ≡ memory_from reading fill k s xs
  memory-uncounted k s [] = refl
  memory-uncounted k s (load p ∷ xs) = memory-uncounted (suc k) (after_load s p.port) xs
  memory-uncounted k s (store p ∷ xs) = memory-uncounted (suc k) (after_store reading fill k s p.port) xs

pub count-uncounted : (p : Access → Bool) → ((a : Access) → p (uncounted a) ≡ p a) → (xs : List Access)
    → count_where p (map uncounted xs) ≡ count_where p xs
count-uncounted p blind [] = refl
count-uncounted p blind (a ∷ xs) = rw (blind a, count-uncounted p blind xs)

-- so the log's accesses are counted as the run's
pub seen-count : {groups : List GroupPairs} {answered : List Answered} {log : List LogEntry} → LogSeen groups answered log
    → (p : Access → Bool) → ((a : Access) → p (uncounted a) ≡ p a)
    → count_where p (map access_of log) ≡ count_where p (accesses groups (told answered))
seen-count {groups} {answered} s p blind = ap (count_where p) s.shape ∙ count-uncounted p blind (accesses groups (told answered))

pub loads-uncounted : (a : Access) → is_load (uncounted a) ≡ is_load a
loads-uncounted (load p) = refl
loads-uncounted (store p) = refl

pub stores-uncounted : (a : Access) → is_store (uncounted a) ≡ is_store a
stores-uncounted (load p) = refl
stores-uncounted (store p) = refl

pub uses-uncounted : (argument : Argument) (port : ℕ) (a : Access) → uses argument port (uncounted a) ≡ uses argument port a
uses-uncounted LoadAddress port (load p) = refl
uses-uncounted LoadAddress port (store p) = refl
uses-uncounted StoreAddress port (load p) = refl
uses-uncounted StoreAddress port (store p) = refl
uses-uncounted StoreData port (load p) = refl
uses-uncounted StoreData port (store p) = refl
