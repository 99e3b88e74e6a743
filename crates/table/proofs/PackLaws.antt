-- Laws of the record of a table: a right table's accesses have room in it, it holds its groups, and it grows by a group.
use Prim.Native.Nat.{ℕ, zero, suc, ◌+◌, ◌-◌, ◌≤◌, ◌<◌}
use mathlib.Core.Path.{◌≡◌, refl, sym, ap, ap₂, ◌∙◌}
use mathlib.Core.Bool.{Bool, true, false}
use mathlib.Core.List.{List, [], ◌∷◌, ◌++◌, map, append-nil, append_assoc}
use native.Mathlib.Omega.{arith}
use native.Mathlib.Nat.{add_assoc, add-zero, zero-add}
use lib.Dec.{leb}
use borrow.Author.Tests.{le-leb, leb-true, eqb-true}
use lib.ListN.{length, get_or, drop, set, replicate, length-set, length-map, length-append}
use lib.Seq.{take_at, drop_at, set_at, append_snoc, drop-append-add, drop-drop}
use Rattle.table.specs.declared.Pair.{Pair}
use Rattle.table.specs.declared.read.NewGroup.{NewGroup}
use Rattle.table.specs.declared.read.Gathered.{Gathered}
use Rattle.table.specs.declared.Table.{Table}
use Rattle.number.specs.Basics.{pick, held, count_where, flat_map}
use Rattle.number.specs.Reply.{passed}
use Rattle.table.specs.Packed.{pair_in, packed_pair, group_in, packed_group}
use Rattle.table.specs.Group.{GroupPairs, list_of, before_store}
use Rattle.table.specs.Table.{groups_of, span_meant, meant_in, load_rule, store_rule, check_pairs, seeing}
use Rattle.table.specs.Table.{Seen, none_seen, seen_after, check_group, check_groups}
use Rattle.table.specs.TableBytes.{filled, placed, spans, loads_in, stores_in, pack}
use Rattle.table.specs.RoundTrip.{AccessesFit, RecordsHoldGroups}
use Rattle.table.specs.Internal.{pack_pairs, pack_group, put_in, grown}
use Rattle.table.proofs.PackedLaws.{groups_read_back, AllSmall, all_read_back, map-append}
use Rattle.number.proofs.HeldLaws.{held-few, drop-replicate}
use Rattle.table.proofs.CheckLaws.{count_most, pairs-passed, group-passed, groups-passed, table-passed}
use Rattle.number.proofs.Both.{and_right}

-- ---- each access takes a port that none has taken, so there are at most 32 of a kind

-- how many ports have been seen
abbrev pub marked : List Bool → ℕ
marked seen = count_where (λ (b : Bool). b) seen

marked_more : (seen : List Bool) (port : ℕ) → get_or seen port false ≡ false → port < length seen → marked (set seen port true) ≡ suc (marked seen)
marked_more [] port e h = absurd (omega arith)
marked_more (b ∷ seen) zero e h = rw e
marked_more (b ∷ seen) (suc port) e h = go b (marked_more seen port e (omega arith))
  where
    go : (t : Bool) → marked (set seen port true) ≡ suc (marked seen)
        → pick t (suc (marked (set seen port true))) (marked (set seen port true)) ≡ suc (pick t (suc (marked seen)) (marked seen))
    go true d = ap suc d
    go false d = d

-- the marks after these pairs are as many as the marks were, and the pairs' own
pub record Marking (seen : List Bool) (ps : List Pair) : Type 0 where
  pub long : length (seeing ps seen) ≡ length seen
  pub many : marked (seeing ps seen) ≡ marked seen + length ps

pub pairs-marked : (rule : ℕ → ℕ → ℕ → Bool) (low i : ℕ) (seen : List Bool) (ps : List Pair) → length seen ≡ 32
    → check_pairs rule low i seen ps ≡ passed
    → Marking seen ps
unfolding seeing
pairs-marked rule low i seen [] h e = record { long = refl; many = omega arith }
pairs-marked rule low i seen (p ∷ ps) h e =
    let (right, small, new, others) = pairs-passed rule low i seen p ps e in
    let l = length-set seen p.port true in
    let m = marked_more seen p.port new (omega (arith, small)) in
    let w = pairs-marked rule p.offset (suc i) (set seen p.port true) ps (l ∙ h) others in
    record { long = w.long ∙ l; many = w.many ∙ rw m (omega arith) }

-- how many ports of each kind have been seen
pub record Marks (seen : Seen) (loads stores : ℕ) : Type 0 where
  pub loads_long : length seen.loads ≡ 32
  pub stores_long : length seen.stores ≡ 32
  pub loads_many : marked seen.loads ≡ loads
  pub stores_many : marked seen.stores ≡ stores

pub marks_none : Marks none_seen 0 0
marks_none = record { loads_long = refl; stores_long = refl; loads_many = refl; stores_many = refl }

module _ {seen : Seen} {loads stores : ℕ} (w : Marks seen loads stores) where
  pub marks-room : (loads ≤ 32) × (stores ≤ 32)
  marks-room = (
    omega (arith, count_most (λ (b : Bool). b) seen.loads, w.loads_long, w.loads_many),
    omega (arith, count_most (λ (b : Bool). b) seen.stores, w.stores_long, w.stores_many),
  )

  pub marks-more : (g : GroupPairs) → check_group seen g ≡ passed → Marks (seen_after g seen) (loads + length g.loads) (stores + length g.stores)
  marks-more g e =
      let (few, fewer, ls, ss) = group-passed seen g e in
      let l = pairs-marked _ _ _ seen.loads g.loads w.loads_long ls in
      let s = pairs-marked _ _ _ seen.stores g.stores w.stores_long ss in
      record {
        loads_long = l.long ∙ w.loads_long;
        stores_long = s.long ∙ w.stores_long;
        loads_many = l.many ∙ rw w.loads_many;
        stores_many = s.many ∙ rw w.stores_many;
      }

marks-groups : (seen : Seen) (gs : List GroupPairs) {loads stores : ℕ} → Marks seen loads stores → check_groups seen gs ≡ passed
    → (loads + length (loads_in gs) ≤ 32) × (stores + length (stores_in gs) ≤ 32)
marks-groups seen [] w e = let r = marks-room w in (omega (arith, r.0), omega (arith, r.1))
marks-groups seen (g ∷ gs) w e =
    let (first, others) = groups-passed seen g gs e in
    let r = marks-groups (seen_after g seen) gs (marks-more w g first) others in
    rw (length-append, length-append) (omega (arith, r.0), omega (arith, r.1))

-- a right table has at most 32 loads and 32 stores
pub accesses-fit : AccessesFit
accesses-fit gs e =
    let r = marks-groups none_seen gs marks_none (table-passed gs e).2 in
    (omega (arith, r.0), omega (arith, r.1))

-- ---- the pairs of a right table have room in a number

-- where no right offset is above 16, the pairs that are passed are small
pairs_small : (rule : ℕ → ℕ → ℕ → Bool) → ((low i offset : ℕ) → rule low i offset ≡ true → offset ≤ 16)
    → (low i : ℕ) (seen : List Bool) (ps : List Pair) → check_pairs rule low i seen ps ≡ passed → AllSmall ps
pairs_small rule most low i seen [] e = tt
pairs_small rule most low i seen (p ∷ ps) e =
    let (right, small, new, others) = pairs-passed rule low i seen p ps e in (
      record { offset = omega (arith, most low i p.offset right); port = omega (arith, small) },
      pairs_small rule most p.offset (suc i) (set seen p.port true) ps others,
    )

pub group-small : (seen : Seen) (g : GroupPairs) → check_group seen g ≡ passed → AllSmall g.loads × AllSmall g.stores
group-small seen g e =
    let (few, fewer, ls, ss) = group-passed seen g e in (
      pairs_small (load_rule (length g.stores))
          (λ low i offset r. omega (arith, leb-true offset (length g.stores) (and_right (leb low offset) _ r), fewer)) 0 0 seen.loads g.loads ls,
      pairs_small (store_rule g.loads)
          (λ low i offset r. omega (arith, eqb-true offset (count_where (before_store i) g.loads) r, count_most (before_store i) g.loads, few))
          0 0 seen.stores g.stores ss,
    )

-- the pairs of every group are small
abbrev pub SmallGroups : List GroupPairs → Type 0
SmallGroups [] = Unit {0}
SmallGroups (g ∷ gs) = AllSmall g.loads × AllSmall g.stores × SmallGroups gs

groups-small : (seen : Seen) (gs : List GroupPairs) → check_groups seen gs ≡ passed → SmallGroups gs
groups-small seen [] e = tt
groups-small seen (g ∷ gs) e =
    let (first, others) = groups-passed seen g gs e in
    let (loads, stores) = group-small seen g first in
    (loads, stores, groups-small (seen_after g seen) gs others)

-- ---- the record holds the groups

-- what stands at the front of numbers
front-held : (xs : List Pair) (rest : List ℕ) → AllSmall xs → map pair_in (held 0 (length xs) (map packed_pair xs ++ rest)) ≡ xs
front-held xs rest small =
    let n : length (map packed_pair xs) ≡ length xs = length-map xs packed_pair in
    let h : length xs ≤ length (map packed_pair xs ++ rest) = rw (length-append, n) (omega arith) in
    ap (map pair_in) (held-few 0 (length xs) (map packed_pair xs ++ rest) h ∙ take_at (map packed_pair xs) rest (length xs) n) ∙ all_read_back xs small

-- accesses that stand behind others: where they are few enough they are just these
part_front : (places : List ℕ) (first : ℕ) (xs rest : List Pair) (more : List ℕ) → drop first places ≡ map packed_pair (xs ++ rest) ++ more
    → first + length xs ≤ 32 → AllSmall xs
    → (list_of places (span_meant (record { first = first; count = length xs })) ≡ xs) × (drop (first + length xs) places ≡ map packed_pair rest ++ more)
part_front places first xs rest more e few small =
    let n : length (map packed_pair xs) ≡ length xs = length-map xs packed_pair in
    let d : drop first places ≡ map packed_pair xs ++ (map packed_pair rest ++ more) = e
    ∙ ap (λ (l : List ℕ). l ++ more) (map-append packed_pair xs rest) ∙ append_assoc (map packed_pair xs) (map packed_pair rest) more in (
      rw (le-leb (first + length xs) 32 few, d) (front-held xs (map packed_pair rest ++ more) small),
      sym (drop-drop (length xs) first places)
          ∙ rw d (drop_at (map packed_pair xs) (map packed_pair rest ++ more) (length xs) n),
    )

spans_hold : (loads stores : List ℕ) (load store : ℕ) (gs : List GroupPairs) (l s : List ℕ) → drop load loads ≡ map packed_pair (loads_in gs) ++ l
    → drop store stores ≡ map packed_pair (stores_in gs) ++ s
    → load + length (loads_in gs) ≤ 32 → store + length (stores_in gs) ≤ 32 → SmallGroups gs → map (meant_in loads stores) (spans load store gs) ≡ gs
spans_hold loads stores load store [] l s e f h k small = refl
spans_hold loads stores load store (g ∷ gs) l s e f h k small =
    let x : load + (length g.loads + length (loads_in gs)) ≤ 32 = rw length-append at h in
    let y : store + (length g.stores + length (stores_in gs)) ≤ 32 = rw length-append at k in
    let p = part_front loads load g.loads (loads_in gs) l e (omega (arith, x)) small.0 in
    let q = part_front stores store g.stores (stores_in gs) s f (omega (arith, y)) small.1 in
    let b : group_in (packed_group (placed load store g)) ≡ placed load store g =
    groups_read_back (placed load store g) (record { first = omega (arith, x); count = omega (arith, x) })
    (record { first = omega (arith, y); count = omega (arith, y) }) in
    rw (
      b,
      p.0,
      q.0,
      spans_hold loads stores (load + length g.loads) (store + length g.stores) gs l s p.1 q.1 (omega (arith, x))
          (omega (arith, y)) small.2,
    )

spans-length : (load store : ℕ) (gs : List GroupPairs) → length (spans load store gs) ≡ length gs
spans-length load store [] = refl
spans-length load store (g ∷ gs) = ap suc (spans-length (load + length g.loads) (store + length g.stores) gs)

-- groups, right or wrong, that the places are enough for and whose offsets and ports are bytes
pub small_groups_held : (gs : List GroupPairs) → length (loads_in gs) ≤ 32 → length (stores_in gs) ≤ 32 → SmallGroups gs → groups_of (pack gs) ≡ gs
small_groups_held gs loads stores small =
    let n = spans-length 0 0 gs in
    let blanks : List ℕ = replicate (16 - length gs) 0 in
    let h : length gs ≤ length (spans 0 0 gs ++ blanks) = rw (length-append, n) (omega arith) in
    ap (map (meant_in (pack gs).loads (pack gs).stores)) (held-few 0 (length gs) (spans 0 0 gs ++ blanks) h ∙ take_at (spans 0 0 gs) blanks (length gs) n)
    ∙ spans_hold (pack gs).loads (pack gs).stores 0 0 gs _ _ refl refl (omega arith) (omega arith) small

pub records_hold_groups : RecordsHoldGroups
records_hold_groups gs right =
    let (loads, stores) = accesses-fit gs right in
    small_groups_held gs loads stores (groups-small none_seen gs (table-passed gs right).2)

-- ---- the record with a group more

spans_snoc : (load store : ℕ) (gs : List GroupPairs) (g : GroupPairs)
    → spans load store (gs ++ g ∷ []) ≡ spans load store gs ++ packed_group (placed (load + length (loads_in gs)) (store + length (stores_in gs)) g) ∷ []
spans_snoc load store [] g = rw (add-zero, add-zero)
spans_snoc load store (x ∷ gs) g =
    rw (length-append, length-append, ← add_assoc, ← add_assoc, spans_snoc (load + length x.loads) (store + length x.stores) gs g)

flat_snoc : {A B : Type 0} (f : A → List B) (xs : List A) (x : A) → flat_map f (xs ++ x ∷ []) ≡ flat_map f xs ++ f x
flat_snoc f [] x = append-nil (f x)
flat_snoc f (y ∷ xs) x = rw (flat_snoc f xs x) (sym (append_assoc (f y) (flat_map f xs) (f x)))

filled_more : (xs ls : List Pair) → put_in (filled xs) (length xs) (pack_pairs ls) ≡ filled (xs ++ ls)
filled_more xs ls =
    let n : length (map packed_pair xs) ≡ length xs = length-map xs packed_pair in
    let m : length (map packed_pair ls) ≡ length ls = length-map ls packed_pair in
    let blanks : List ℕ = replicate (32 - length xs) 0 in
    let e : 32 - length xs - length ls ≡ 32 - length (xs ++ ls) = rw length-append (omega arith) in
    let d : drop (length xs + length ls) (filled xs) ≡ replicate (32 - length (xs ++ ls)) 0 =
    ap (λ (k : ℕ). drop (k + length ls) (filled xs)) (sym n) ∙ drop-append-add (map packed_pair xs) blanks (length ls) ∙ rw (drop-replicate, e)
    in
    rw (take_at (map packed_pair xs) blanks (length xs) n, take_at (map packed_pair ls) (replicate (32 - length ls) 0) (length ls) m, d, map-append)

spans_more : (done : List GroupPairs) (g : GroupPairs) → length done < 16
    → set (pack done).groups (length done) (packed_group (placed (length (loads_in done)) (length (stores_in done)) g)) ≡ (pack (done ++ g ∷ [])).groups
spans_more done g h =
    let blanks : List ℕ = replicate (16 - (length done + 1)) 0 in
    let m : 16 - length done ≡ suc (16 - (length done + 1)) = omega arith in
    let x : ℕ = packed_group (placed (length (loads_in done)) (length (stores_in done)) g) in
    let e : spans 0 0 (done ++ g ∷ []) ≡ spans 0 0 done ++ x ∷ [] = spans_snoc 0 0 done g ∙ rw (zero-add, zero-add) in
    rw (e, length-append, m) (set_at (spans 0 0 done) 0 blanks x (length done) (spans-length 0 0 done) ∙ sym (append_snoc (spans 0 0 done) x blanks))

abbrev table_made : ℕ → List ℕ → List ℕ → List ℕ → Table
table_made n groups loads stores = record { count = n; groups = groups; loads = loads; stores = stores }

-- the record of these groups, by its numbers
pub record Packed (t : Gathered) (done : List GroupPairs) : Type 0 where
  pub table : t.table ≡ pack done
  pub loads_are : t.loads ≡ length (loads_in done)
  pub stores_are : t.stores ≡ length (stores_in done)

pub packed_more : {t : Gathered} {done : List GroupPairs} {x : NewGroup} → Packed t done → (g : GroupPairs) → x ≡ pack_group g → length done < 16
    → Packed (grown t x) (done ++ g ∷ [])
packed_more {t} {done} {x} w g e h =
    let ls = flat_snoc (λ (y : GroupPairs). y.loads) done g in
    let ss = flat_snoc (λ (y : GroupPairs). y.stores) done g in
    let r = (grown t x).table in
    let n : r.count ≡ length (done ++ g ∷ []) = rw (w.table, length-append) in
    let a : r.groups ≡ (pack (done ++ g ∷ [])).groups = rw (w.table, w.loads_are, w.stores_are, e) (spans_more done g h) in
    let b : r.loads ≡ filled (loads_in (done ++ g ∷ [])) = rw (w.table, w.loads_are, e, ls) (filled_more (loads_in done) g.loads) in
    let c : r.stores ≡ filled (stores_in (done ++ g ∷ [])) = rw (w.table, w.stores_are, e, ss) (filled_more (stores_in done) g.stores) in
    record {
      table = ap₂ (λ (n : ℕ) (a : List ℕ). table_made n a r.loads r.stores) n a
          ∙ ap₂ (table_made (length (done ++ g ∷ [])) (pack (done ++ g ∷ [])).groups) b c;
      loads_are = rw (w.loads_are, e, ls, length-append);
      stores_are = rw (w.stores_are, e, ss, length-append);
    }
