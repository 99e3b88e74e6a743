-- A load's origin is the last store before it to its address: each store leaves itself in the cell of its address, and no other.
use Prim.Native.Nat.{ℕ, zero, suc, ◌+◌, ◌<◌}
use native.Mathlib.Nat.{zero-add, add-zero, add-suc, suc-add, not-suc-le-zero, le_of_suc-le-suc}
use mathlib.Core.Path.{◌≡◌, refl, sym, ap, ◌∙◌}
use mathlib.Core.Bool.{Bool, true, false}
use mathlib.Core.List.{List, [], ◌∷◌, ◌++◌}
use mathlib.Core.Option.{Option, some}
use lib.Dec.{eqb}
use lib.ListN.{length, take, get_or, set, length-set, get_elem?}
use lib.Seq.{get_or-set_same, get_or-set_other}
use borrow.Author.Tests.{eqb-true, eqb-false}
use Rattle.number.specs.Basics.{pick}
use Rattle.table.specs.Group.{Access, load, store}
use Rattle.queue.specs.declared.arguments.Argument.TheVariants.{LoadAddress, StoreAddress}
use Rattle.sequential.specs.Plain.{Rows, rows_of, Filling, next_of, memory_from}
use Rattle.origins.specs.Origins.{Origin, opening, by, origin_reading, openings, origin_of, used_by, store_uses, is_at, last_to, stores_at, OriginsAreLast}
use Rattle.origins.proofs.Past.{state, rows_after, store-after, nth-loads}

-- one cell of a memory into which something is put
pub get_d_put : {A : Type 0} (s : List A) (b a : ℕ) (x d : A) → a < length s → get_or (set s b x) a d ≡ pick (eqb b a) x (get_or s a d)
get_d_put s b a x d low = go (eqb b a) refl
  where
    go : (t : Bool) → eqb b a ≡ t → get_or (set s b x) a d ≡ pick t x (get_or s a d)
    go true e = rw (eqb-true b a e) (get_or-set_same s a x d low)
    go false e = get_or-set_other s b a x d (λ p. eqb-false b a e (sym p))

module _ (fill : Filling) (a end : ℕ) (address : ℕ → Option ℕ) where
  last-from : (k : ℕ) (s : List Origin) (rows : Rows) (before rest : List Access) → a < length s → get_or s a (opening end) ≡ last_to address a k
      → ((i : ℕ) → address (k + i) ≡ store_uses rows (take i (before ++ rest)) StoreAddress (fill.address (k + i)) (get_elem? (before ++ rest) i))
      → get_or (memory_from (origin_reading end) fill k (state s rows) before) a (opening end) ≡ last_to address a (k + length before)
  last-from k s rows [] rest low h d = rw (add-zero k) h
  last-from k s rows (load p ∷ before) rest low h d =
      last-from (suc k) s (rows_after (load p) rows) before rest low
      (h ∙ ap (λ (o : Option ℕ). pick (is_at a o) (by k) (last_to address a k)) (sym (rw (add-zero k) at (d 0))))
      (λ i. rw (suc-add k i, ← add-suc k i)
      (d (suc i) ∙ store-after rows (load p) (take i (before ++ rest)) StoreAddress (fill.address (k + suc i)) (get_elem? (before ++ rest) i)))
      ∙ ap (last_to address a) (suc-add k (length before) ∙ sym (add-suc k (length before)))
  last-from k s rows (store p ∷ before) rest low h d =
      last-from (suc k) (set s b (by k)) (rows_after (store p) rows) before rest (rw (length-set s b (by k)) low)
      (get_d_put s b a (by k) (opening end) low
      ∙ rw h (ap (λ (o : Option ℕ). pick (is_at a o) (by k) (last_to address a k)) (sym (rw (add-zero k) at (d 0)))))
      (λ i. rw (suc-add k i, ← add-suc k i)
      (d (suc i) ∙ store-after rows (store p) (take i (before ++ rest)) StoreAddress (fill.address (k + suc i)) (get_elem? (before ++ rest) i)))
      ∙ ap (last_to address a) (suc-add k (length before) ∙ sym (add-suc k (length before)))
    where
      b : ℕ
      b = next_of (rows StoreAddress p.port) (fill.address k)

-- ---- the opening

pub openings_at : (b : ℕ) (m : List ℕ) (a : ℕ) (d : Origin) → a < length m → get_or (openings b m) a d ≡ opening (b + a)
openings_at b [] a d low = absurd (not-suc-le-zero low)
openings_at b (w ∷ m) zero d low = rw (add-zero b)
openings_at b (w ∷ m) (suc a) d low = openings_at (suc b) m a d (le_of_suc-le-suc low) ∙ ap opening (suc-add b a ∙ sym (add-suc b a))

pub openings-length : (b : ℕ) (m : List ℕ) → length (openings b m) ≡ length m
openings-length b [] = refl
openings-length b (w ∷ m) = ap suc (openings-length (suc b) m)

pub origins_are_last : OriginsAreLast
unfolding origin_of
origins_are_last groups memory ts fill before p rest is low =
    rw is
    (nth-loads (origin_reading (length memory)) fill (openings 0 memory) (rows_of ts) before p rest
    ∙ ap some
    (last-from fill a (length memory) (stores_at groups ts fill) 0 (openings 0 memory) (rows_of ts) before (load p ∷ rest)
    (rw (openings-length 0 memory) low) (openings_at 0 memory a (opening (length memory)) low ∙ ap opening (zero-add a))
    (λ i. rw (zero-add i, is))
    ∙ ap (last_to (stores_at groups ts fill) a) (zero-add (length before))))
  where
    a : ℕ
    a = used_by (rows_of ts) before LoadAddress p.port (fill.address (length before))
