-- The plain run up to one of its accesses: the rows that are left there are what counting says, and a load loads the memory that is there.
use Prim.Native.Nat.{ℕ, zero, suc, ◌+◌}
use native.Mathlib.Nat.{zero-add, add-zero, add-suc, suc-add}
use mathlib.Core.Path.{◌≡◌, refl, ap}
use mathlib.Core.Bool.{Bool, true, false}
use mathlib.Core.List.{List, [], ◌∷◌, ◌++◌, map, tail}
use mathlib.Core.Option.{Option, none, some}
use lib.Dec.{eqb}
use lib.ListN.{length, drop, get_or, get_elem?}
use Rattle.number.specs.Basics.{pick, count_where}
use Rattle.table.specs.declared.Pair.{Pair}
use Rattle.table.specs.Group.{Access, load, store, is_load}
use Rattle.queue.specs.declared.arguments.Argument.{Argument}
use Rattle.queue.specs.declared.arguments.Argument.TheVariants.{LoadAddress, StoreAddress, StoreData}
use Rattle.sequential.specs.Plain.{Rows, Filling, next_of, used_up, Reading, PlainState, values_from, memory_from}
use Rattle.sequential.specs.Demand3.{uses}
use Rattle.sequential.proofs.Rows.{eqb-turned}
use Rattle.origins.specs.Origins.{loaded, used_by, store_uses}

abbrev pub state : {A : Type 0} → List A → Rows → PlainState A
state s rows = record { memory = s; rows = rows }

-- ---- the rows that are left

-- after an access; after several
abbrev pub rows_after : Access → Rows → Rows
rows_after (load p) rows = used_up LoadAddress p.port rows
rows_after (store p) rows = used_up StoreData p.port (used_up StoreAddress p.port rows)

abbrev pub rows_past : List Access → Rows → Rows
rows_past [] rows = rows
rows_past (x ∷ xs) rows = rows_past xs (rows_after x rows)

drop-tail : {A : Type 0} (n : ℕ) (l : List A) → drop (suc n) l ≡ drop n (tail l)
drop-tail zero [] = refl
drop-tail (suc n) [] = refl
drop-tail n (x ∷ l) = refl

-- what the rest finds of a row, where one access before it used one of it or not
drop_used : {A : Type 0} (a b n : ℕ) (row : List A) → drop (pick (eqb a b) (suc n) n) row ≡ drop n (pick (eqb b a) (tail row) row)
drop_used a b n row = rw (eqb-turned b a) (go (eqb a b))
  where
    go : (t : Bool) → drop (pick t (suc n) n) row ≡ drop n (pick t (tail row) row)
    go true = drop-tail n row
    go false = refl

left_after : (rows : Rows) (x : Access) (before : List Access) (argument : Argument) (port : ℕ)
    → drop (count_where (uses argument port) (x ∷ before)) (rows argument port)
    ≡ drop (count_where (uses argument port) before) (rows_after x rows argument port)
left_after rows (load p) before LoadAddress port =
    drop_used p.port port (count_where (uses LoadAddress port) before) (rows LoadAddress port)
left_after rows (load p) before StoreAddress port = refl
left_after rows (load p) before StoreData port = refl
left_after rows (store p) before LoadAddress port = refl
left_after rows (store p) before StoreAddress port =
    drop_used p.port port (count_where (uses StoreAddress port) before) (rows StoreAddress port)
left_after rows (store p) before StoreData port =
    drop_used p.port port (count_where (uses StoreData port) before) (rows StoreData port)

pub left_past : (rows : Rows) (before : List Access) (argument : Argument) (port : ℕ)
    → rows_past before rows argument port ≡ drop (count_where (uses argument port) before) (rows argument port)
left_past rows [] argument port = refl
left_past rows (x ∷ before) argument port = rw (left_after rows x before argument port) (left_past (rows_after x rows) before argument port)

-- what a store uses, by the rows that are left
pub store-after : (rows : Rows) (x : Access) (before : List Access) (argument : Argument) (filled : ℕ) (o : Option Access)
    → store_uses rows (x ∷ before) argument filled o ≡ store_uses (rows_after x rows) before argument filled o
store-after rows x before argument filled none = refl
store-after rows x before argument filled (some (load q)) = refl
store-after rows x before argument filled (some (store q)) =
    ap (λ (row : List ℕ). some (next_of row filled)) (left_after rows x before argument q.port)

-- ---- what a load loads

module _ {A : Type 0} (reading : Reading A) (fill : Filling) where
  nth_left : (k : ℕ) (s : List A) (rows : Rows) (before : List Access) (p : Pair) (rest : List Access)
      → get_elem? (map loaded (values_from reading fill k (state s rows) (before ++ load p ∷ rest))) (count_where is_load before)
      ≡ some (get_or (memory_from reading fill k (state s rows) before)
      (next_of (rows_past before rows LoadAddress p.port) (fill.address (k + length before))) reading.beyond)
  nth_left k s rows [] p rest = rw (add-zero k)
  nth_left k s rows (load q ∷ before) p rest = rw (add-suc k, ← suc-add k) (nth_left (suc k) s (rows_after (load q) rows) before p rest)
  nth_left k s rows (store q ∷ before) p rest = rw (add-suc k, ← suc-add k) (nth_left (suc k) _ (rows_after (store q) rows) before p rest)

  -- The nth load loads the word at its address of the memory that the accesses before it leave.
  pub nth-loads : (s : List A) (rows : Rows) (before : List Access) (p : Pair) (rest : List Access)
      → get_elem? (map loaded (values_from reading fill 0 (state s rows) (before ++ load p ∷ rest))) (count_where is_load before)
      ≡ some (get_or (memory_from reading fill 0 (state s rows) before) (used_by rows before LoadAddress p.port (fill.address (length before)))
      reading.beyond)
  nth-loads s rows before p rest = rw (← left_past rows before LoadAddress p.port) (rw (zero-add (length before)) at (nth_left 0 s rows before p rest))
