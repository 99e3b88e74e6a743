-- A group's program order is the order that its offsets were counted in.
use Prim.Native.Nat.{ℕ, zero, suc, ◌+◌, ◌≤◌, ◌<◌}
use native.Mathlib.Nat.{zero-add}
use native.Mathlib.Omega.{arith}
use mathlib.Core.Path.{◌≡◌, refl, ap, ◌∙◌}
use mathlib.Core.Logic.{◌⊎◌, inl, inr}
use mathlib.Core.Bool.{Bool, true, false, not, ◌&&◌, ◌||◌, false≢true}
use mathlib.Core.List.{List, [], ◌∷◌, map, append-nil}
use lib.Dec.{eqb, leb, ltb}
use lib.ListN.{length, get_or, take, set, length-map}
use borrow.Author.Tests.{le-leb, lt-leb, eqb-true, eq-eqb, ltb-true, ltb-false, le-ltb}
use Rattle.number.specs.Basics.{pick, all_of, count_where, front_while, after_while}
use Rattle.number.specs.Reply.{need, passed}
use Rattle.number.specs.Refusal.{bad_counts, bad_port, port_seen}
use Rattle.number.proofs.ReplyLaws.{refuses_among, refused-among, need-among, and_then_among, refusal_not_zero}
use Rattle.number.specs.Number.{AreBytes}
use Rattle.number.proofs.Both.{and_left, and_right}
use Rattle.ordering.specs.Orders.{times}
use Rattle.ordering.specs.Records.{order_in}
use Rattle.ordering.specs.Answer.{answer}
use Rattle.ordering.proofs.Theorem.{all_just_answered}
use Rattle.ordering.proofs.ReadBack.{accepted-length, no-refusal-is-zero, order-front}
use Rattle.table.specs.declared.Pair.{Pair}
use Rattle.table.specs.Group.{Access, load, store, pair_of, is_load, is_store, before_store, order_from, at_offset, offsets_counted, counted_pairs, uncounted}
use Rattle.table.specs.Table.{load_rule, store_rule, check_pairs, counts_right, none_seen, groups_of, check_group, check_groups, check_table}
use Rattle.table.specs.RightTables.{Each, StoresAgree}
use Rattle.table.specs.Packed.{pair}
use Rattle.table.specs.TableBytes.{pack}
use Rattle.table.proofs.RightTables.{Offsets, loads_rise, stores-count, right_tables}
use Rattle.table.proofs.PackedLaws.{AllSmall}
use Rattle.table.proofs.PackLaws.{small_groups_held}
use Rattle.grouping.specs.declared.Accesses.{Accesses}
use Rattle.grouping.proofs.CountLaws.{both_lengths, order-count}
use Rattle.grouping.specs.Grouping.{access_at, in_order, with_offsets, names_accesses, OrderKept, OrderCounted, RefusedForCountsOrPorts}
use Rattle.grouping.specs.Grouping.{CountsAndPorts, RightByPorts, OrdersGrouped, RefusalsGroupNothing, TablesHoldGroup, NoGroupsRefused}

-- loads behind k stores, k above j, are not before store j
none_before : (j l k : ℕ) (xs : List Access) → j < k
    → (front_while (before_store j) (counted_pairs is_load l k xs) ≡ []) × (after_while (before_store j) (counted_pairs is_load l k xs) ≡ counted_pairs is_load l k xs)
none_before j l k [] h = (refl, refl)
none_before j l k (load p ∷ xs) h = (rw (lt-leb k j h), rw (lt-leb k j h))
none_before j l k (store p ∷ xs) h = none_before j l (suc k) xs (omega arith)

order_from_lem : (l j : ℕ) (xs : List Access) → order_from j (counted_pairs is_load l j xs) (counted_pairs is_store l j xs) ≡ offsets_counted l j xs
order_from_lem l j [] = refl
order_from_lem l j (load p ∷ xs) = go (counted_pairs is_load (suc l) j xs) (counted_pairs is_store (suc l) j xs) (order_from_lem (suc l) j xs)
  where
    go : (loads stores : List Pair) {rest : List Access} → order_from j loads stores ≡ rest
        → order_from j (at_offset j p ∷ loads) stores ≡ load (at_offset j p) ∷ rest
    go loads [] e = rw e
    go loads (s ∷ ss) e = rw (le-leb j j (omega arith), e)
order_from_lem l j (store p ∷ xs) =
    let (front, after) = none_before j l (suc j) xs (omega arith) in
    rw (front, after, order_from_lem l (suc j) xs)

pub order-counted : OrderCounted
order-counted xs = order_from_lem 0 0 xs

pub order-kept : OrderKept
order-kept xs = ap (map uncounted) (order-counted xs) ∙ go 0 0 xs
  where
    go : (l s : ℕ) (xs : List Access) → map uncounted (offsets_counted l s xs) ≡ map uncounted xs
    go l s [] = refl
    go l s (load p ∷ xs) = ap (λ (rest : List Access). load (at_offset 0 p) ∷ rest) (go (suc l) s xs)
    go l s (store p ∷ xs) = ap (λ (rest : List Access). store (at_offset 0 p) ∷ rest) (go l (suc s) xs)

-- ---- the offsets agree

abbrev counts_or_ports : ℕ → Bool
counts_or_ports n = eqb n bad_counts || (eqb n bad_port || eqb n port_seen)

pairs-agree : (rule : ℕ → ℕ → ℕ → Bool) (low i : ℕ) (seen : List Bool) (ps : List Pair) → Offsets rule low i ps
    → refuses_among counts_or_ports (check_pairs rule low i seen ps) ≡ true
unfolding check_pairs
pairs-agree rule low i seen [] h = refl
pairs-agree rule low i seen (p ∷ ps) h =
    rw h.0
    (and_then_among counts_or_ports (need (leb p.port 31) bad_port (need (not (get_or seen p.port false)) port_seen passed)) _
    (need-among counts_or_ports (leb p.port 31) bad_port _ refl (need-among counts_or_ports (not (get_or seen p.port false)) port_seen _ refl refl))
    λ t. pairs-agree rule p.offset (suc i) (set seen p.port true) ps h.1)

-- "load offsets never fall", and none is above the store count
loads_hold : (stores l k low i : ℕ) (xs : List Access) → low ≤ k → k + length (counted_pairs is_store l k xs) ≤ stores
    → Offsets (load_rule stores) low i (counted_pairs is_load l k xs)
loads_hold stores l k low i [] h m = tt
loads_hold stores l k low i (load p ∷ xs) h m =
    (rw (le-leb low k h, le-leb k stores (omega arith)), loads_hold stores (suc l) k k (suc i) xs (omega arith) m)
loads_hold stores l k low i (store p ∷ xs) h m = loads_hold stores l (suc k) low i xs (omega arith) (omega arith)

none_counted : (j l k : ℕ) (xs : List Access) → j < k → count_where (before_store j) (counted_pairs is_load l k xs) ≡ 0
none_counted j l k [] h = refl
none_counted j l k (load p ∷ xs) h = rw (lt-leb k j h, none_counted j (suc l) k xs h)
none_counted j l k (store p ∷ xs) h = none_counted j l (suc k) xs (omega arith)

-- "each store's offset must agree": l loads came so far
stores_hold : (loads : List Pair) (l i low : ℕ) (xs : List Access)
    → ((m : ℕ) → i ≤ m → count_where (before_store m) loads ≡ l + count_where (before_store m) (counted_pairs is_load l i xs))
    → Offsets (store_rule loads) low i (counted_pairs is_store l i xs)
stores_hold loads l i low [] h = tt
stores_hold loads l i low (load p ∷ xs) h =
    stores_hold loads (suc l) i low xs λ m k. let e = h m k in let e = rw (le-leb i m k) at e in omega arith
stores_hold loads l i low (store p ∷ xs) h =
    let none = none_counted i l (suc i) xs (omega arith) in
    let e = h i (omega arith) in
    (eq-eqb l (count_where (before_store i) loads) (omega arith), stores_hold loads l (suc i) l xs λ m k. h m (omega arith))

loads_right : (xs : List Access) → Offsets (load_rule (length (with_offsets xs).stores)) 0 0 (with_offsets xs).loads
loads_right xs = loads_hold (length (with_offsets xs).stores) 0 0 0 0 xs (omega arith) (omega arith)

stores_right : (xs : List Access) → Offsets (store_rule (with_offsets xs).loads) 0 0 (with_offsets xs).stores
stores_right xs = stores_hold (with_offsets xs).loads 0 0 0 xs λ m k. omega arith

pub refused_for_counts_or_ports : RefusedForCountsOrPorts
unfolding check_table check_groups check_group
refused_for_counts_or_ports xs k h =
    which (eqb k bad_counts) refl (eqb k bad_port) refl (eqb k port_seen) refl (refused-among counts_or_ports (check_table (with_offsets xs ∷ [])) whole h)
  where
    loads : refuses_among counts_or_ports (check_pairs (load_rule (length (with_offsets xs).stores)) 0 0 none_seen.loads (with_offsets xs).loads) ≡ true
    loads = pairs-agree _ 0 0 _ _ (loads_right xs)

    stores : refuses_among counts_or_ports (check_pairs (store_rule (with_offsets xs).loads) 0 0 none_seen.stores (with_offsets xs).stores) ≡ true
    stores = pairs-agree _ 0 0 _ _ (stores_right xs)

    which : (a : Bool) → eqb k bad_counts ≡ a → (b : Bool) → eqb k bad_port ≡ b → (c : Bool) → eqb k port_seen ≡ c → a || (b || c) ≡ true
        → (k ≡ bad_counts) ⊎ ((k ≡ bad_port) ⊎ (k ≡ port_seen))
    which true d b e c f t = inl (eqb-true k bad_counts d)
    which false d true e c f t = inr (inl (eqb-true k bad_port e))
    which false d false e true f t = inr (inr (eqb-true k port_seen f))
    which false d false e false f t = absurd (false≢true t)

    whole : refuses_among counts_or_ports (check_table (with_offsets xs ∷ [])) ≡ true
    whole =
        let g = with_offsets xs in
        and_then_among counts_or_ports (check_group none_seen g) _
        (need-among counts_or_ports (counts_right (length g.loads) (length g.stores)) bad_counts _ refl
        (and_then_among counts_or_ports (check_pairs (load_rule (length g.stores)) 0 0 none_seen.loads g.loads) _ loads λ t. stores))
        λ t. refl

-- ---- a right table

pub right_by_ports : RightByPorts
right_by_ports xs = (to, from)
  where
    to : check_table (with_offsets xs ∷ []) ≡ passed → CountsAndPorts (with_offsets xs)
    to e =
        let r = (right_tables (with_offsets xs ∷ [])).0 e in record {
          counts = r.counts.0;
          load_ports = rw append-nil at r.load_ports;
          store_ports = rw append-nil at r.store_ports;
          loads_once = rw append-nil at r.loads_once;
          stores_once = rw append-nil at r.stores_once;
        }

    from : CountsAndPorts (with_offsets xs) → check_table (with_offsets xs ∷ []) ≡ passed
    from r =
        let g = with_offsets xs in
        let (above, fall, below) = loads_rise (length g.stores) 0 0 g.loads (loads_right xs) in
        let agree : StoresAgree g = λ j few. rw zero-add at (stores-count g.loads 0 0 g.stores (stores_right xs) j few) in
        (right_tables (g ∷ [])).1 (record {
          group_count = (omega arith, omega arith);
          counts = (r.counts, tt);
          never_fall = (fall, tt);
          load_offsets = (below, tt);
          store_offsets = (agree, tt);
          load_ports = rw append-nil r.load_ports;
          store_ports = rw append-nil r.store_ports;
          loads_once = rw append-nil r.loads_once;
          stores_once = rw append-nil r.stores_once;
        })

-- ---- the answer to pairs

-- an order's accesses are below 32
all_below : (xs : List ℕ) → ((a : ℕ) → 32 ≤ a → times a xs ≡ 0) → all_of (λ a. ltb a 32) xs ≡ true
all_below [] h = refl
all_below (x ∷ xs) h = go (ltb x 32) refl (all_below xs λ a high. rest a (eqb x a) (h a high))
  where
    rest : (a : ℕ) (t : Bool) → pick t (suc (times a xs)) (times a xs) ≡ 0 → times a xs ≡ 0
    rest a true e = absurd (omega arith)
    rest a false e = e

    there : (t : Bool) → t ≡ true → pick t (suc (times x xs)) (times x xs) ≡ 0 → ⊥
    there true e h = omega arith
    there false e h = false≢true e

    go : (t : Bool) → ltb x 32 ≡ t → all_of (λ a. ltb a 32) xs ≡ true → t && all_of (λ a. ltb a 32) xs ≡ true
    go true d e = e
    go false d e = absurd (there (eqb x x) (eq-eqb x x refl) (h x (ltb-false x 32 d)))

-- the accesses that are listed have no offset yet
access-uncounted : (accesses : Accesses) (a : ℕ) → uncounted (access_at accesses a) ≡ access_at accesses a
access-uncounted accesses a = go (eqb (get_or accesses.kinds a 0) 0)
  where
    go : (t : Bool) → uncounted (pick t load store (pair 0 (get_or accesses.ports a 0))) ≡ pick t load store (pair 0 (get_or accesses.ports a 0))
    go true = refl
    go false = refl

listed-uncounted : (accesses : Accesses) (numbers : List ℕ) → map uncounted (in_order accesses numbers) ≡ in_order accesses numbers
listed-uncounted accesses [] = refl
listed-uncounted accesses (a ∷ numbers) = rw (access-uncounted accesses a, listed-uncounted accesses numbers)

pub orders_grouped : OrdersGrouped
orders_grouped n pairs accesses numbers h =
    let (few, size) = accepted-length n pairs numbers h in
    let once = (((all_just_answered n pairs).given numbers).0 h).1.respects.once in
    let below : all_of (λ a. ltb a 32) numbers ≡ true = all_below numbers λ a high. once a ∙ rw (le-ltb a n (omega arith)) in
    rw (h, le-leb (length numbers) 32 (omega arith), order-front numbers, below, order-kept (in_order accesses numbers), listed-uncounted accesses numbers)

pub refusals_group_nothing : RefusalsGroupNothing
refusals_group_nothing n k pairs accesses h = rw (h, refusal_not_zero (answer n pairs) k (no-refusal-is-zero n pairs) h)

-- ---- the table's record

abbrev PortSmall : Access → Type 0
PortSmall a = (pair_of a).port < 256

take-few : {A : Type 0} (n : ℕ) (l : List A) → length (take n l) ≤ n
take-few zero l = omega arith
take-few (suc n) [] = omega arith
take-few (suc n) (x ∷ l) = let few = take-few n l in omega arith

ports-small : (accesses : Accesses) (numbers : List ℕ) → AreBytes accesses.ports → Each PortSmall (in_order accesses numbers)
ports-small accesses [] h = tt
ports-small accesses (a ∷ rest) h = (go (eqb (get_or accesses.kinds a 0) 0), ports-small accesses rest h)
  where
    byte : (l : List ℕ) (i : ℕ) → AreBytes l → get_or l i 0 < 256
    byte [] i h = omega arith
    byte (x ∷ l) zero h = ltb-true x 256 (and_left (ltb x 256) _ h)
    byte (x ∷ l) (suc i) h = byte l i (and_right (ltb x 256) _ h)

    go : (t : Bool) → PortSmall (pick t load store (pair 0 (get_or accesses.ports a 0)))
    go true = byte accesses.ports a h
    go false = byte accesses.ports a h

counted-small : (l k : ℕ) (xs : List Access) → l + (k + length xs) ≤ 256 → Each PortSmall xs
    → AllSmall (counted_pairs is_load l k xs) × AllSmall (counted_pairs is_store l k xs)
counted-small l k [] few h = (tt, tt)
counted-small l k (load p ∷ xs) few h =
    let (loads, stores) = counted-small (suc l) k xs (omega arith) h.1 in
    ((record { offset = omega arith; port = h.0 }, loads), stores)
counted-small l k (store p ∷ xs) few h =
    let (loads, stores) = counted-small l (suc k) xs (omega arith) h.1 in
    (loads, (record { offset = omega arith; port = h.0 }, stores))

pub tables_hold_group : TablesHoldGroup
tables_hold_group r accesses bytes = go (names_accesses r) refl
  where
    go : (t : Bool) → names_accesses r ≡ t
        → groups_of (pack (pick t (with_offsets (in_order accesses (order_in r)) ∷ []) [])) ≡ pick t (with_offsets (in_order accesses (order_in r)) ∷ []) []
    go false e = refl
    go true e =
        let xs = in_order accesses (order_in r) in
        let few : length xs ≤ 32 = rw (length-map (order_in r) (access_at accesses))
        (omega (arith, take-few r.count r.accesses, order-count r e)) in
        let both = both_lengths 0 0 xs in
        let (loads, stores) = counted-small 0 0 xs (omega arith) (ports-small accesses (order_in r) bytes) in
        small_groups_held (with_offsets xs ∷ []) (rw append-nil (omega arith)) (rw append-nil (omega arith)) (loads, stores, tt)

pub no_groups_refused : NoGroupsRefused
unfolding check_table
no_groups_refused = refl
