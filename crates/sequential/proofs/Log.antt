-- The log: every access of the accepted activations in program order, finished ones included, with the same records as the
-- queue's entries. What an entry of the log remembers means nothing; where it stands is what counts.
use Prim.Native.Nat.{ℕ, suc, ◌+◌}
use native.Mathlib.Nat.{add-zero, add-suc, suc-add}
use native.Mathlib.Omega.{arith}
use mathlib.Core.Path.{◌≡◌, refl, sym, ap}
use mathlib.Core.Bool.{true, false, not}
use mathlib.Core.List.{List, [], ◌∷◌, ◌++◌, map, head-eq_of_cons-eq, tail-eq_of_cons-eq}
use mathlib.Core.Option.{Option, none, some}
use lib.Dec.{leb}
use lib.ListN.{length}
use borrow.Author.Tests.{le-leb}
use Rattle.number.specs.Basics.{all_of, is_some}
use Rattle.table.specs.declared.Pair.{Pair}
use Rattle.table.specs.Packed.{pair}
use Rattle.table.specs.Group.{Access, load, store}
use Rattle.queue.specs.declared.Kind.{Kind}
use Rattle.queue.specs.declared.Kind.TheVariants.{Load, Store}
use Rattle.queue.specs.Entry.{Entry, new_entry}
use Rattle.queue.proofs.ContentsLaws.{opposite}
use Rattle.queue.proofs.Lists.{false-true, and_both}
use Rattle.sequential.specs.Plain.{cons_option}

pub data LogEntry : Type 0 where
  of_load : Entry → LogEntry
  of_store : Entry → LogEntry

-- the access that an entry is of, with offset 0; and the entry of an access that has been given nothing yet
abbrev pub pair_for : Entry → Pair
pair_for e = pair 0 e.port

abbrev pub access_of : LogEntry → Access
access_of (of_load e) = load (pair_for e)
access_of (of_store e) = store (pair_for e)

abbrev pub fresh : Access → LogEntry
fresh (load p) = of_load (new_entry p 0)
fresh (store p) = of_store (new_entry p 0)

-- ---- one side of the log: what is proved of a kind and its opposite serves loads and stores alike
abbrev pub loads : Kind
loads = Load

abbrev pub stores : Kind
stores = Store

abbrev pub put : Kind → Entry → LogEntry
put Load e = of_load e
put Store e = of_store e

-- the entry, where it is of the kind
abbrev pub own : Kind → LogEntry → Option Entry
own Load (of_load e) = some e
own Load (of_store e) = none
own Store (of_load e) = none
own Store (of_store e) = some e

pub own_put : (K : Kind) (e : Entry) → own K (put K e) ≡ some e
own_put Load e = refl
own_put Store e = refl

pub put_own : (K : Kind) (d : LogEntry) (e : Entry) → own K d ≡ some e → d ≡ put K e
put_own Load (of_load k) e h = let is : k ≡ e = cc in rw is
put_own Load (of_store k) e h = cc
put_own Store (of_load k) e h = cc
put_own Store (of_store k) e h = let is : k ≡ e = cc in rw is

-- every entry is of one of the two kinds
abbrev pub Opposite : Kind → Kind → Type 0
Opposite K K' = (e : LogEntry) → is_some (own K e) ≡ not (is_some (own K' e))

pub loads-stores : Opposite loads stores
loads-stores (of_load l) = refl
loads-stores (of_store s) = refl

pub stores-loads : Opposite stores loads
stores-loads (of_load l) = refl
stores-loads (of_store s) = refl

pub opposed : (K : Kind) → Opposite K (opposite K)
opposed Load = loads-stores
opposed Store = stores-loads

-- an entry, and how many of the other kind come before it in the log
pub record Placed : Type 0 where
  pub before : ℕ
  pub entry : Entry

abbrev pub placed_entry : Placed → Entry
placed_entry x = x.entry

abbrev pub place : ℕ → Entry → Placed
place n a = record { before = n; entry = a }

abbrev pub onto : Option Entry → ℕ → List Placed → List Placed → List Placed
onto none n here passed = passed
onto (some a) n here passed = place n a ∷ here

abbrev pub counting : Option Entry → ℕ → ℕ
counting none n = suc n
counting (some a) n = n

-- the entries of a kind, where n of the other kind come before; the entries alone; how many are of the other kind
abbrev pub side : Kind → ℕ → List LogEntry → List Placed
side K n [] = []
side K n (e ∷ es) = onto (own K e) n (side K n es) (side K (suc n) es)

abbrev pub own_in : Kind → List LogEntry → List Entry
own_in K [] = []
own_in K (e ∷ es) = cons_option (own K e) (own_in K es)

abbrev pub others : Kind → List LogEntry → ℕ
others K [] = 0
others K (e ∷ es) = counting (own K e) (others K es)

module _ (K : Kind) where
  pub side-append : (n : ℕ) (xs ys : List LogEntry) → side K n (xs ++ ys) ≡ side K n xs ++ side K (n + others K xs) ys
  side-append n [] ys = rw (add-zero n)
  side-append n (e ∷ xs) ys = go (own K e) (side-append n xs ys) (side-append (suc n) xs ys)
    where
      go : (o : Option Entry) → side K n (xs ++ ys) ≡ side K n xs ++ side K (n + others K xs) ys
          → side K (suc n) (xs ++ ys) ≡ side K (suc n) xs ++ side K (suc n + others K xs) ys
          → onto o n (side K n (xs ++ ys)) (side K (suc n) (xs ++ ys)) ≡ onto o n (side K n xs) (side K (suc n) xs) ++ side K (n + counting o (others K xs)) ys
      go none h k = rw (add-suc n (others K xs), ← suc-add n (others K xs)) k
      go (some a) h k = ap (λ (l : List Placed). place n a ∷ l) h

  pub map-side : (n : ℕ) (es : List LogEntry) → map placed_entry (side K n es) ≡ own_in K es
  map-side n [] = refl
  map-side n (e ∷ es) = go (own K e) (map-side n es) (map-side (suc n) es)
    where
      go : (o : Option Entry) → map placed_entry (side K n es) ≡ own_in K es → map placed_entry (side K (suc n) es) ≡ own_in K es
          → map placed_entry (onto o n (side K n es) (side K (suc n) es)) ≡ cons_option o (own_in K es)
      go none h k = k
      go (some a) h k = ap (λ (l : List Entry). a ∷ l) h

  pub own_in_append : (xs ys : List LogEntry) → own_in K (xs ++ ys) ≡ own_in K xs ++ own_in K ys
  own_in_append [] ys = refl
  own_in_append (e ∷ xs) ys = go (own K e) (own_in_append xs ys)
    where
      go : (o : Option Entry) → own_in K (xs ++ ys) ≡ own_in K xs ++ own_in K ys → cons_option o (own_in K (xs ++ ys)) ≡ cons_option o (own_in K xs) ++ own_in K ys
      go none h = h
      go (some a) h = ap (λ (l : List Entry). a ∷ l) h

  pub side-length : (n : ℕ) (es : List LogEntry) → length (side K n es) ≡ length (own_in K es)
  side-length n [] = refl
  side-length n (e ∷ es) = go (own K e) (side-length n es) (side-length (suc n) es)
    where
      go : (o : Option Entry) → length (side K n es) ≡ length (own_in K es) → length (side K (suc n) es) ≡ length (own_in K es)
          → length (onto o n (side K n es) (side K (suc n) es)) ≡ length (cons_option o (own_in K es))
      go none h k = k
      go (some a) h k = ap suc h

  -- no entry remembers more of the other kind than there are
  pub side_before : (n : ℕ) (es : List LogEntry) → all_of (λ x. leb x.before (n + others K es)) (side K n es) ≡ true
  side_before n [] = refl
  side_before n (e ∷ es) = go (own K e) (side_before n es) (side_before (suc n) es)
    where
      go : (o : Option Entry) → all_of (λ x. leb x.before (n + others K es)) (side K n es) ≡ true
          → all_of (λ x. leb x.before (suc n + others K es)) (side K (suc n) es) ≡ true
          → all_of (λ x. leb x.before (n + counting o (others K es))) (onto o n (side K n es) (side K (suc n) es)) ≡ true
      go none h k = rw (add-suc n (others K es), ← suc-add n (others K es)) k
      go (some a) h k = and_both (le-leb n (n + others K es) (omega arith)) h

  -- an entry of the side stands in the log
  pub side-split : (n : ℕ) (es : List LogEntry) (xs : List Placed) (x : Placed) (ys : List Placed) → side K n es ≡ xs ++ x ∷ ys
      → (pre post : List LogEntry) × (es ≡ pre ++ put K x.entry ∷ post) × (side K n pre ≡ xs)
  side-split n [] [] x ys h = let e : false ≡ true = cc in false-true e
  side-split n [] (z ∷ zs) x ys h = let e : false ≡ true = cc in false-true e
  side-split n (e ∷ es) xs x ys h = go (own K e) refl xs h (λ zs k. side-split n es zs x ys k) (λ zs k. side-split (suc n) es zs x ys k)
    where
      Found : ℕ → List LogEntry → List Placed → Type 0
      Found k l zs = (pre post : List LogEntry) × (l ≡ pre ++ put K x.entry ∷ post) × (side K k pre ≡ zs)

      go : (o : Option Entry) → own K e ≡ o → (zs : List Placed) → onto o n (side K n es) (side K (suc n) es) ≡ zs ++ x ∷ ys
          → ((vs : List Placed) → side K n es ≡ vs ++ x ∷ ys → Found n es vs)
          → ((vs : List Placed) → side K (suc n) es ≡ vs ++ x ∷ ys → Found (suc n) es vs)
          → Found n (e ∷ es) zs
      go none own zs k here passed = let (pre, post, is, f) = passed zs k in (e ∷ pre, post, ap (λ (l : List LogEntry). e ∷ l) is, rw (own, f))
      go (some a) own [] k here passed =
          let same : x.entry ≡ a = sym (ap placed_entry (head-eq_of_cons-eq k)) in ([], es, rw (same, put_own K e a own), refl)
      go (some a) own (z ∷ zs) k here passed = let (pre, post, is, f) = here zs (tail-eq_of_cons-eq k) in
          (e ∷ pre, post, ap (λ (l : List LogEntry). e ∷ l) is, rw (own, f, head-eq_of_cons-eq k))
