-- Laws of counting offsets: one access more.
use Prim.Native.Nat.{ℕ, suc, ◌+◌, ◌-◌, ◌≤◌, ◌<◌}
use native.Mathlib.Omega.{arith}
use native.Mathlib.Nat.{zero-add, add-zero, suc-add, add-suc}
use native.Mathlib.Numerals.{add-one}
use mathlib.Core.Path.{◌≡◌, refl, sym, ap, ◌∙◌}
use mathlib.Core.Bool.{Bool, true, false}
use mathlib.Core.List.{List, [], ◌∷◌, ◌++◌, map, map-append, append-nil}
use lib.Dec.{eqb, leb, ltb}
use lib.ListN.{length, take, get_or, set, replicate, length-append, length-map}
use lib.Seq.{set_at, append_snoc, take-suc, length-take-le}
use borrow.Author.Tests.{leb-true, le-leb, eq-eqb}
use Rattle.std.specs.Array.{AllOfLen}
use Rattle.std.specs.List.{slice_range}
use Rattle.std.specs.Bool.{then_some}
use Rattle.std.specs.Option.{IfSome, IfNone}
use denote.Ref.{Bor}
use Rattle.std.proofs.lemmas.List.{get_or-replicate}
use Rattle.std.proofs.lemmas.Grind.{same_number_lists}
use Rattle.number.specs.Basics.{pick, keep_where, all_of}
use Rattle.number.proofs.Both.{and_left, and_right}
use Rattle.ordering.specs.declared.Ordered.{Ordered}
use Rattle.ordering.specs.Records.{order_in}
use Rattle.table.specs.declared.Pair.{Pair}
use Rattle.table.specs.Packed.{pair, packed_pair}
use Rattle.table.specs.Group.{Access, load, store, pair_of, is_load, is_store, pairs_where, offsets_counted, counted_pairs}
use Rattle.table.specs.TableBytes.{filled}
use Rattle.grouping.specs.declared.GroupSoFar.{GroupSoFar}
use Rattle.grouping.specs.declared.Accesses.{Accesses}
use Rattle.grouping.specs.Grouping.{access_at, in_order, names_accesses}
use Rattle.grouping.specs.Internal.{with_pair, with_access, Room, Below, Named, listed, HoldsGroup}

-- ---- loads and stores along accesses, and then along others

counted_append : (l s : ℕ) (xs ys : List Access) → offsets_counted l s (xs ++ ys)
    ≡ offsets_counted l s xs ++ offsets_counted (l + length (counted_pairs is_load l s xs)) (s + length (counted_pairs is_store l s xs)) ys
counted_append l s [] ys = rw (add-zero l, add-zero s)
counted_append l s (load p ∷ xs) ys = rw (counted_append (suc l) s xs ys, suc-add, add-suc)
counted_append l s (store p ∷ xs) ys = rw (counted_append l (suc s) xs ys, suc-add, add-suc)

pairs_append : (kind : Access → Bool) (xs ys : List Access) → pairs_where kind (xs ++ ys) ≡ pairs_where kind xs ++ pairs_where kind ys
pairs_append kind [] ys = refl
pairs_append kind (x ∷ xs) ys = go (kind x) (pairs_append kind xs ys)
  where
    go : (t : Bool) → pairs_where kind (xs ++ ys) ≡ pairs_where kind xs ++ pairs_where kind ys
        → map pair_of (pick t (x ∷ keep_where kind (xs ++ ys)) (keep_where kind (xs ++ ys)))
        ≡ map pair_of (pick t (x ∷ keep_where kind xs) (keep_where kind xs)) ++ pairs_where kind ys
    go true e = ap (λ (ps : List Pair). pair_of x ∷ ps) e
    go false e = e

-- each access is a load or a store
pub both_lengths : (l s : ℕ) (xs : List Access) → length (counted_pairs is_load l s xs) + length (counted_pairs is_store l s xs) ≡ length xs
both_lengths l s [] = refl
both_lengths l s (load p ∷ xs) = let e = both_lengths (suc l) s xs in omega arith
both_lengths l s (store p ∷ xs) = let e = both_lengths l (suc s) xs in omega arith

-- ---- the records

filled_one : (ps : List Pair) (p : Pair) → length ps < 32 → set (filled ps) (length ps) (packed_pair p) ≡ filled (ps ++ p ∷ [])
filled_one ps p low =
    let more : 32 - length ps ≡ suc (32 - (length ps + 1)) = omega arith in
    let size : length (map packed_pair ps) ≡ length ps = length-map ps packed_pair in
    rw (length-append, map-append, more)
    (set_at (map packed_pair ps) 0 (replicate (32 - (length ps + 1)) 0) (packed_pair p) (length ps) size
    ∙ sym (append_snoc (map packed_pair ps) (packed_pair p) (replicate (32 - (length ps + 1)) 0)))

listed_one : (ps : List Pair) (p : Pair) → length ps < 32 → with_pair (listed ps) p ≡ listed (ps ++ p ∷ [])
listed_one ps p low = let size : length ps + 1 ≡ length (ps ++ p ∷ []) = sym (length-append ps (p ∷ [])) in rw (size, filled_one ps p low)

zeros : {xs : List ℕ} → AllOfLen (λ x. x ≡ 0) xs 32 → xs ≡ replicate 32 0
zeros {xs} all = same_number_lists xs (replicate 32 0) all.long λ k low. all.at k 0 (omega (arith, all.long)) ∙ sym (get_or-replicate 32 k 0 0 (omega (arith, all.long)))

pub group_none : {g : GroupSoFar} → (g.loads.count ≡ 0 × AllOfLen (λ x. x ≡ 0) g.loads.places 32) × (g.stores.count ≡ 0 × AllOfLen (λ x. x ≡ 0) g.stores.places 32)
    → HoldsGroup [] g
group_none (loads, stores) = record { loads = rw (loads.0, zeros loads.1); stores = rw (stores.0, zeros stores.1) }

module _ {xs : List Access} {g : GroupSoFar} (so : HoldsGroup xs g) (low : length xs < 32) where
  few : (length (counted_pairs is_load 0 0 xs) < 32) × (length (counted_pairs is_store 0 0 xs) < 32)
  few = let e = both_lengths 0 0 xs in (omega arith, omega arith)

  pub group-room : Room g
  group-room = record { loads = rw so.loads few.0; stores = rw so.stores few.1 }

  -- the pairs of a kind, with one access more
  more : (kind : Access → Bool) (a : Access) → counted_pairs kind 0 0 (xs ++ a ∷ [])
      ≡ counted_pairs kind 0 0 xs ++ counted_pairs kind (length (counted_pairs is_load 0 0 xs)) (length (counted_pairs is_store 0 0 xs)) (a ∷ [])
  more kind a = rw (counted_append 0 0 xs (a ∷ []), zero-add, zero-add) (pairs_append kind (offsets_counted 0 0 xs) _)

  pub group-more : (kind port : ℕ) → HoldsGroup (xs ++ pick (eqb kind 0) load store (pair 0 port) ∷ []) (with_access g kind port)
  group-more kind port = go (eqb kind 0)
    where
      go : (t : Bool) → HoldsGroup (xs ++ pick t load store (pair 0 port) ∷ []) (pick t
          (record { loads = with_pair g.loads (pair g.stores.count port); stores = g.stores })
          (record { loads = g.loads; stores = with_pair g.stores (pair g.loads.count port) }))
      go true = record {
        loads = rw (so.loads, so.stores, more is_load (load (pair 0 port)))
            (listed_one (counted_pairs is_load 0 0 xs) (pair (length (counted_pairs is_store 0 0 xs)) port) few.0);
        stores = so.stores ∙ rw (more is_store (load (pair 0 port)), append-nil);
      }
      go false = record {
        loads = so.loads ∙ rw (more is_load (store (pair 0 port)), append-nil);
        stores = rw (so.loads, so.stores, more is_store (store (pair 0 port)))
            (listed_one (counted_pairs is_store 0 0 xs) (pair (length (counted_pairs is_load 0 0 xs)) port) few.1);
      }

-- ---- the order, by its places

pub order-count : (r : Ordered) → names_accesses r ≡ true → r.count ≤ 32
order-count r h = leb-true r.count 32 (and_left (leb r.count 32) _ (and_right (eqb r.answer 0) _ h))

-- `all` says whether each access of the order is a number of one
pub is_named : (r : Ordered) (numbers : Bor (List ℕ)) (all : Bool) → r.answer ≡ 0 → r.count ≤ 32 → numbers.now ≡ slice_range r.accesses 0 r.count
    → all ≡ all_of (λ a. ltb a 32) numbers.now
    → IfSome (then_some all numbers) (λ given. Named r given.now) × IfNone (then_some all numbers) (names_accesses r ≡ false)
is_named r numbers all accepted few part told = go all told
  where
    is : numbers.now ≡ order_in r
    is = let whole : r.count - 0 ≡ r.count = omega arith in part ∙ rw whole

    names : names_accesses r ≡ all_of (λ a. ltb a 32) numbers.now
    names = rw (eq-eqb r.answer 0 accepted, le-leb r.count 32 few, is)

    go : (t : Bool) → t ≡ all_of (λ a. ltb a 32) numbers.now
        → IfSome (then_some t numbers) (λ given. Named r given.now) × IfNone (then_some t numbers) (names_accesses r ≡ false)
    go true e = (record { names = names ∙ sym e; is = is }, tt)
    go false e = (tt, names ∙ sym e)

module _ {numbers : List ℕ} (so : Below numbers) (accesses : Accesses) (i : ℕ) (low : i < length numbers) where
  one_more : in_order accesses (take (i + 1) numbers) ≡ in_order accesses (take i numbers) ++ access_at accesses (get_or numbers i 0) ∷ []
  one_more = rw (add-one, take-suc numbers i 0 low, map-append)

  fewer : length (in_order accesses (take i numbers)) ≡ i
  fewer = length-map (take i numbers) (access_at accesses) ∙ length-take-le i numbers (omega arith)

  module _ {g : GroupSoFar} (passed : HoldsGroup (in_order accesses (take i numbers)) g) where
    pub along_room : Room g
    along_room = let few = so.few in group-room passed (omega (arith, fewer))

    pub along_more : HoldsGroup (in_order accesses (take (i + 1) numbers))
        (with_access g (get_or accesses.kinds (get_or numbers i 0) 0) (get_or accesses.ports (get_or numbers i 0) 0))
    along_more = let few = so.few in rw one_more (group-more passed (omega (arith, fewer)) _ _)
