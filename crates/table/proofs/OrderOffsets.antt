-- In a right group the offsets are the numbers that program order gives: a load's counts the stores before it, a store's the
-- loads before it. So the pairs that are read off the order are the group's own pairs.
use Prim.Native.Nat.{ℕ, zero, suc, ◌+◌, ◌≤◌, ◌<◌}
use native.Mathlib.Nat.{le_trans, le_antisymm, not-suc-le-zero, le_of_suc-le-suc, zero-add, add-zero, suc-add, add_assoc}
use native.Mathlib.Omega.{arith}
use mathlib.Core.Path.{◌≡◌, refl, sym, ap, ◌∙◌}
use mathlib.Core.Bool.{Bool, true, false}
use mathlib.Core.List.{List, [], ◌∷◌, ◌++◌, map, append-nil}
use lib.Dec.{leb}
use lib.ListN.{length, get_or, set}
use borrow.Author.Tests.{le-leb, lt-leb, leb-true, leb-false, eqb-true}
use Rattle.table.specs.declared.Pair.{Pair}
use Rattle.number.specs.Basics.{pick, count_where, front_while, after_while}
use Rattle.number.specs.Reply.{passed}
use Rattle.table.specs.Group.{GroupPairs, blank_pair, Access, load, store, is_load, is_store, pairs_where, before_store, order_from, order, at_offset}
use Rattle.table.specs.Group.{offsets_counted, counted_pairs}
use Rattle.table.specs.Table.{load_rule, store_rule, check_pairs, Seen, none_seen, seen_after, check_group, check_groups, check_table}
use Rattle.table.specs.Table.{OffsetsCountOrder}
use Rattle.number.proofs.Both.{and_left, and_right}
use Rattle.table.proofs.CheckLaws.{count_most, pairs-passed, group-passed, groups-passed, table-passed}
use Rattle.table.proofs.Order.{order-pairs}

-- ---- loads

-- offsets that never fall, from `low` on, and never pass `top`
abbrev pub Between : ℕ → ℕ → List Pair → Type 0
Between low top [] = Unit {0}
Between low top (p ∷ ps) = (low ≤ p.offset) × (p.offset ≤ top) × Between p.offset top ps

lower : (low low' top : ℕ) (ls : List Pair) → low' ≤ low → Between low top ls → Between low' top ls
lower low low' top [] h b = tt
lower low low' top (p ∷ ps) h b = (le_trans h b.0, b.1, b.2)

between_while : (j low top : ℕ) (ls : List Pair) → j ≤ low → Between low top ls → Between j j (front_while (before_store j) ls)
between_while j low top [] h b = tt
between_while j low top (p ∷ ps) h b = go (leb p.offset j) refl (between_while j p.offset top ps (le_trans h b.0) b.2)
  where
    go : (t : Bool) → leb p.offset j ≡ t → Between j j (front_while (before_store j) ps)
        → Between j j (pick t (p ∷ front_while (before_store j) ps) [])
    go true e r = let k = leb-true p.offset j e in (le_trans h b.0, k, lower j p.offset j (front_while (before_store j) ps) k r)
    go false e r = tt

between-rest : (j low top : ℕ) (ls : List Pair) → Between low top ls → Between (suc j) top (after_while (before_store j) ls)
between-rest j low top [] b = tt
between-rest j low top (p ∷ ps) b = go (leb p.offset j) refl (between-rest j p.offset top ps b.2)
  where
    go : (t : Bool) → leb p.offset j ≡ t → Between (suc j) top (after_while (before_store j) ps)
        → Between (suc j) top (pick t (after_while (before_store j) ps) (p ∷ ps))
    go true e r = r
    go false e r = (leb-false p.offset j e, b.1, b.2)

-- ---- stores

-- the offset of each store, from the jth on, counts the loads before it, where `passed` loads come before all of `ls`
abbrev pub Agree : ℕ → ℕ → List Pair → List Pair → Type 0
Agree passed j ls [] = Unit {0}
Agree passed j ls (s ∷ ss) = (s.offset ≡ passed + count_where (before_store j) ls) × Agree passed (suc j) ls ss

-- loads before store j are before each later one
count_while : (j i : ℕ) (ls : List Pair) → j ≤ i
    → count_where (before_store i) ls ≡ length (front_while (before_store j) ls) + count_where (before_store i) (after_while (before_store j) ls)
count_while j i [] h = refl
count_while j i (p ∷ ps) h = go (leb p.offset j) refl (count_while j i ps h)
  where
    go : (t : Bool) → leb p.offset j ≡ t
        → count_where (before_store i) ps ≡ length (front_while (before_store j) ps) + count_where (before_store i) (after_while (before_store j) ps)
        → count_where (before_store i) (p ∷ ps) ≡ length (pick t (p ∷ front_while (before_store j) ps) []) + count_where (before_store i)
        (pick t (after_while (before_store j) ps) (p ∷ ps))
    go true e r = rw (le-leb p.offset i (le_trans (leb-true p.offset j e) h), suc-add) (ap suc r)
    go false e r = sym (zero-add (count_where (before_store i) (p ∷ ps)))

none_before : (j low top : ℕ) (ls : List Pair) → j < low → Between low top ls → count_where (before_store j) ls ≡ 0
none_before j low top [] h b = refl
none_before j low top (p ∷ ps) h b = rw (lt-leb p.offset j (le_trans h b.0)) (none_before j p.offset top ps (le_trans h b.0) b.2)

count_here : (j low top : ℕ) (ls : List Pair) → Between low top ls → count_where (before_store j) ls ≡ length (front_while (before_store j) ls)
count_here j low top ls b =
    count_while j j ls (omega arith)
    ∙ ap (λ (n : ℕ). length (front_while (before_store j) ls) + n)
    (none_before j (suc j) top (after_while (before_store j) ls) (omega arith) (between-rest j low top ls b))
    ∙ add-zero (length (front_while (before_store j) ls))

agree_on : (passed j i : ℕ) (ls ss : List Pair) → j ≤ i → Agree passed i ls ss
    → Agree (passed + length (front_while (before_store j) ls)) i (after_while (before_store j) ls) ss
agree_on passed j i ls [] h a = tt
agree_on passed j i ls (s ∷ ss) h a = (
  a.0 ∙ rw (count_while j i ls h)
      (sym (add_assoc passed (length (front_while (before_store j) ls)) (count_where (before_store i) (after_while (before_store j) ls)))),
  agree_on passed j (suc i) ls ss (omega arith) a.1,
)

-- ---- both

-- loads before the next store, among those that no store before has passed: their offset is the number of those stores
loads_first : (k j : ℕ) (ls : List Pair) (rest : List Access) → Between j j ls
    → offsets_counted k j (map load ls ++ rest) ≡ map load ls ++ offsets_counted (k + length ls) j rest
loads_first k j [] rest b = rw add-zero
loads_first k j (l ∷ ls) rest b =
    let e : j ≡ l.offset = le_antisymm b.0 b.1 in
    let more : suc k + length ls ≡ k + suc (length ls) = omega arith in
    ap (λ (n : ℕ). load (at_offset n l) ∷ offsets_counted (suc k) j (map load ls ++ rest)) e
    ∙ ap (λ (t : List Access). load l ∷ t) (loads_first (suc k) j ls rest (lower l.offset j j ls b.0 b.2))
    ∙ ap (λ (n : ℕ). load l ∷ map load ls ++ offsets_counted n j rest) more

order-counted : (k j : ℕ) (ls ss : List Pair) → Between j (j + length ss) ls → Agree k j ls ss → offsets_counted k j (order_from j ls ss) ≡ order_from j ls ss
order-counted k j ls [] b a = let b' : Between j j ls = rw add-zero at b in rw append-nil at (loads_first k j ls [] b')
order-counted k j ls (s ∷ ss) b a =
    let e : j + suc (length ss) ≡ suc j + length ss = omega arith in
    let b' : Between j (suc j + length ss) ls = rw e at b in
    let front = front_while (before_store j) ls in
    let after = after_while (before_store j) ls in
    let here : k + length front ≡ s.offset = sym (a.0 ∙ ap (λ (m : ℕ). k + m) (count_here j j (suc j + length ss) ls b')) in
    loads_first k j front (store s ∷ order_from (suc j) after ss) (between_while j j (suc j + length ss) ls (omega arith) b')
    ∙ ap (λ (t : List Access). map load front ++ store (at_offset (k + length front) s) ∷ t)
    (order-counted (k + length front) (suc j) after ss (between-rest j j (suc j + length ss) ls b') (agree_on k j (suc j) ls ss (omega arith) a.1))
    ∙ ap (λ (n : ℕ). map load front ++ store (at_offset n s) ∷ order_from (suc j) after ss) here

-- ---- from the check

loads-checked : (stores low i : ℕ) (seen : List Bool) (ls : List Pair) → check_pairs (load_rule stores) low i seen ls ≡ passed → Between low stores ls
loads-checked stores low i seen [] e = tt
loads-checked stores low i seen (p ∷ ps) e =
    let (right, small, new, others) = pairs-passed (load_rule stores) low i seen p ps e in (
      leb-true _ _ (and_left (leb low p.offset) _ right),
      leb-true _ _ (and_right (leb low p.offset) _ right),
      loads-checked stores p.offset (suc i) (set seen p.port true) ps others,
    )

stores-checked : (ls : List Pair) (low i : ℕ) (seen : List Bool) (ss : List Pair) → check_pairs (store_rule ls) low i seen ss ≡ passed → Agree 0 i ls ss
stores-checked ls low i seen [] e = tt
stores-checked ls low i seen (s ∷ ss) e =
    let (right, small, new, others) = pairs-passed (store_rule ls) low i seen s ss e in
    (eqb-true _ _ right ∙ sym (zero-add _), stores-checked ls s.offset (suc i) (set seen s.port true) ss others)

ports-checked : (rule : ℕ → ℕ → ℕ → Bool) (low i : ℕ) (seen : List Bool) (ps : List Pair) → check_pairs rule low i seen ps ≡ passed
    → (j : ℕ) → j < length ps → (get_or ps j blank_pair).port ≤ 31
ports-checked rule low i seen [] e j h = absurd (not-suc-le-zero h)
ports-checked rule low i seen (p ∷ ps) e zero h = (pairs-passed rule low i seen p ps e).1
ports-checked rule low i seen (p ∷ ps) e (suc j) h = ports-checked rule p.offset (suc i) (set seen p.port true) ps
    (pairs-passed rule low i seen p ps e).3 j (le_of_suc-le-suc h)

-- offsets are at most the number of the other kind
between_at : (low top : ℕ) (ls : List Pair) → Between low top ls → (i : ℕ) → i < length ls → (get_or ls i blank_pair).offset ≤ top
between_at low top [] b i h = absurd (not-suc-le-zero h)
between_at low top (p ∷ ps) b zero h = b.1
between_at low top (p ∷ ps) b (suc i) h = between_at p.offset top ps b.2 i (le_of_suc-le-suc h)

agree_at : (j : ℕ) (ls ss : List Pair) → Agree 0 j ls ss → (i : ℕ) → i < length ss → (get_or ss i blank_pair).offset ≤ length ls
agree_at j ls [] a i h = absurd (not-suc-le-zero h)
agree_at j ls (s ∷ ss) a zero h = omega (arith, a.0, count_most (before_store j) ls)
agree_at j ls (s ∷ ss) a (suc i) h = agree_at (suc j) ls ss a.1 i (le_of_suc-le-suc h)

-- what a group that is passed is
pub record GroupRight (g : GroupPairs) : Type 0 where
  pub few_loads : length g.loads ≤ 16
  pub few_stores : length g.stores ≤ 16
  pub load_offset : (i : ℕ) → i < length g.loads → (get_or g.loads i blank_pair).offset ≤ 16
  pub store_offset : (i : ℕ) → i < length g.stores → (get_or g.stores i blank_pair).offset ≤ 16
  pub load_port : (i : ℕ) → i < length g.loads → (get_or g.loads i blank_pair).port ≤ 31
  pub store_port : (i : ℕ) → i < length g.stores → (get_or g.stores i blank_pair).port ≤ 31
  pub loads_are : counted_pairs is_load 0 0 (order g) ≡ g.loads
  pub stores_are : counted_pairs is_store 0 0 (order g) ≡ g.stores

right_group : (seen : Seen) (g : GroupPairs) → check_group seen g ≡ passed → GroupRight g
right_group seen g e =
    let (few, fewer, ls, ss) = group-passed seen g e in
    let between : Between 0 (length g.stores) g.loads = loads-checked (length g.stores) 0 0 seen.loads g.loads ls in
    let agree : Agree 0 0 g.loads g.stores = stores-checked g.loads 0 0 seen.stores g.stores ss in
    let e : offsets_counted 0 0 (order g) ≡ order g = order-counted 0 0 g.loads g.stores (rw (zero-add (length g.stores)) between) agree in
    record {
      few_loads = few;
      few_stores = fewer;
      load_offset = λ i h. le_trans (between_at 0 (length g.stores) g.loads between i h) fewer;
      store_offset = λ i h. le_trans (agree_at 0 g.loads g.stores agree i h) few;
      load_port = ports-checked (load_rule (length g.stores)) 0 0 seen.loads g.loads ls;
      store_port = ports-checked (store_rule g.loads) 0 0 seen.stores g.stores ss;
      loads_are = ap (pairs_where is_load) e ∙ (order-pairs g).0;
      stores_are = ap (pairs_where is_store) e ∙ (order-pairs g).1;
    }

groups_right : (seen : Seen) (gs : List GroupPairs) → check_groups seen gs ≡ passed → (i : ℕ) (d : GroupPairs) → i < length gs
    → GroupRight (get_or gs i d)
groups_right seen [] e i d h = absurd (not-suc-le-zero h)
groups_right seen (g ∷ gs) e zero d h = right_group seen g (groups-passed seen g gs e).0
groups_right seen (g ∷ gs) e (suc i) d h = groups_right (seen_after g seen) gs (groups-passed seen g gs e).1 i d (le_of_suc-le-suc h)

-- every group of a right table is right, and there are at most 16
pub table_groups_few : (gs : List GroupPairs) → check_table gs ≡ passed → length gs ≤ 16
table_groups_few gs e = (table-passed gs e).1

pub table_group_right : (gs : List GroupPairs) → check_table gs ≡ passed → (i : ℕ) (d : GroupPairs) → i < length gs → GroupRight (get_or gs i d)
table_group_right gs e = groups_right none_seen gs (table-passed gs e).2

-- the offsets of a right table say just what its program order says
pub offsets_count_order : OffsetsCountOrder
offsets_count_order gs e i d h = let r = table_group_right gs e i d h in (r.loads_are, r.stores_are)
