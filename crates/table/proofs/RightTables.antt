-- Checking passes the right tables, and no others; the statement is specs/RightTables.antt.
use Prim.Native.Nat.{ℕ, zero, suc, ◌+◌, ◌≤◌, ◌<◌}
use native.Mathlib.Nat.{add-zero, add-suc, suc-add, zero-add, le_trans}
use native.Mathlib.Omega.{arith}
use mathlib.Core.Path.{◌≡◌, refl, sym, ◌∙◌}
use mathlib.Core.Logic.{◌≢◌}
use mathlib.Core.Bool.{Bool, true, false, ◌||◌}
use mathlib.Core.List.{List, [], ◌∷◌, ◌++◌, map, map-append}
use lib.Dec.{eqb, leb}
use lib.ListN.{length, get_or, set, length-set, get_or-replicate}
use lib.Seq.{get_or-set_same, get_or-set_other}
use borrow.Author.Tests.{leb-true, le-leb, eqb-true, eqb-false, eq-eqb, ne_eqb}
use Rattle.table.specs.declared.Pair.{Pair}
use Rattle.number.specs.Basics.{any_of, count_where}
use Rattle.number.specs.Reply.{passed}
use Rattle.table.specs.Group.{GroupPairs, blank_pair, before_store}
use Rattle.table.specs.Table.{load_rule, store_rule, check_pairs, seeing, counts_right, Seen, none_seen, seen_after, check_group, check_groups}
use Rattle.table.specs.Table.{check_table}
use Rattle.table.specs.TableBytes.{loads_in, stores_in}
use Rattle.table.specs.RightTables.{Each, Distinct, NeverFall, offset_of, port_of, RightTable, RightTables, CountsWithin, LoadsNeverFall}
use Rattle.table.specs.RightTables.{LoadsWithin, StoresAgree}
use Rattle.number.proofs.Both.{and_left, and_right}
use Rattle.table.proofs.CheckLaws.{pairs-passed, group-passed, group_pass, groups-passed, table-passed, table_pass}

-- ---- every element
module _ {A : Type 0} where
  each_map : {P Q : A → Type 0} (xs : List A) → ((x : A) → P x → Q x) → Each P xs → Each Q xs
  each_map [] f e = tt
  each_map (x ∷ xs) f e = (f x e.0, each_map xs f e.1)

  each_both : (P Q : A → Type 0) (xs : List A) → Each P xs → Each Q xs → Each (λ x. P x × Q x) xs
  each_both P Q [] e f = tt
  each_both P Q (x ∷ xs) e f = ((e.0, f.0), each_both P Q xs e.1 f.1)

-- ---- ports: each is 0 to 31, and differs from those before it and from those in `done`
abbrev Differs : ℕ → List ℕ → Type 0
Differs n ns = Each (λ (m : ℕ). n ≢ m) ns

abbrev Fresh : List ℕ → List ℕ → Type 0
Fresh done [] = Unit {0}
Fresh done (n ∷ ns) = (n ≤ 31) × Differs n done × Fresh (n ∷ done) ns

-- the ports that are done after these
abbrev done_after : List ℕ → List ℕ → List ℕ
done_after done [] = done
done_after done (n ∷ ns) = done_after (n ∷ done) ns

fresh-split : (done ns ms : List ℕ) → Fresh done (ns ++ ms) → Fresh done ns × Fresh (done_after done ns) ms
fresh-split done [] ms f = (tt, f)
fresh-split done (n ∷ ns) ms f = let r = fresh-split (n ∷ done) ns ms f.2 in ((f.0, f.1, r.0), r.1)

fresh-join : (done ns ms : List ℕ) → Fresh done ns → Fresh (done_after done ns) ms → Fresh done (ns ++ ms)
fresh-join done [] ms f g = g
fresh-join done (n ∷ ns) ms f g = (f.0, f.1, fresh-join (n ∷ done) ns ms f.2 g)

-- so they are all within the limits and distinct, and differ from those that are done
record Apart (done ns : List ℕ) : Type 0 where
  pub small : Each (λ (n : ℕ). n ≤ 31) ns
  pub others : Each (λ (n : ℕ). Differs n done) ns
  pub once : Distinct ns

fresh-apart : (done ns : List ℕ) → Fresh done ns → Apart done ns
fresh-apart done [] f = record { small = tt; others = tt; once = tt }
fresh-apart done (n ∷ ns) f =
    let r = fresh-apart (n ∷ done) ns f.2 in
    record {
      small = (f.0, r.small);
      others = (f.1, each_map ns (λ m d. d.1) r.others);
      once = (each_map ns (λ m d e. d.0 (sym e)) r.others, r.once);
    }

apart-fresh : (done ns : List ℕ) → Apart done ns → Fresh done ns
apart-fresh done [] a = tt
apart-fresh done (n ∷ ns) a = (
  a.small.0,
  a.others.0,
  apart-fresh (n ∷ done) ns (record {
    small = a.small.1;
    others = each_both (λ m. m ≢ n) (λ m. Differs m done) ns (each_map ns (λ m d e. d (sym e)) a.once.0) a.others.1;
    once = a.once.1;
  }),
)

none_done : (ns : List ℕ) → Each (λ (n : ℕ). Differs n []) ns
none_done [] = tt
none_done (n ∷ ns) = (tt, none_done ns)

once-fresh : (ns : List ℕ) → Each (λ (n : ℕ). n ≤ 31) ns → Distinct ns → Fresh [] ns
once-fresh ns h d = apart-fresh [] ns (record { small = h; others = none_done ns; once = d })

-- ---- marks: just the ports that are done are marked
record Marked (marks : List Bool) (done : List ℕ) : Type 0 where
  pub long : length marks ≡ 32
  pub are : (n : ℕ) → n ≤ 31 → get_or marks n false ≡ any_of (eqb n) done

marked_more : {marks : List Bool} {done : List ℕ} {n : ℕ} → n ≤ 31 → Marked marks done → Marked (set marks n true) (n ∷ done)
marked_more {marks} {done} {n} h w = record { long = length-set marks n true ∙ w.long; are = λ m k. go m k (eqb m n) refl }
  where
    go : (m : ℕ) → m ≤ 31 → (t : Bool) → eqb m n ≡ t → get_or (set marks n true) m false ≡ (t || any_of (eqb m) done)
    go m k true e = rw (eqb-true m n e) (get_or-set_same marks n true false (omega (arith, w.long)))
    go m k false e = get_or-set_other marks n m true false (eqb-false m n e) ∙ w.are m k

unmarked-differs : (n : ℕ) (done : List ℕ) → any_of (eqb n) done ≡ false → Differs n done
unmarked-differs n [] e = tt
unmarked-differs n (m ∷ done) e = go (eqb n m) refl e (unmarked-differs n done)
  where
    go : (t : Bool) → eqb n m ≡ t → (t || any_of (eqb n) done) ≡ false → (any_of (eqb n) done ≡ false → Differs n done) → Differs n (m ∷ done)
    go true f d ih = let z : ◌≡◌ {A = ℕ} 0 1 = cc in absurd (omega arith)
    go false f d ih = (eqb-false n m f, ih d)

differs-unmarked : (n : ℕ) (done : List ℕ) → Differs n done → any_of (eqb n) done ≡ false
differs-unmarked n [] d = refl
differs-unmarked n (m ∷ done) d = rw (ne_eqb n m d.0) (differs-unmarked n done d.1)

-- ---- pairs of one kind, whatever the rule for their offsets
abbrev pub Offsets : (ℕ → ℕ → ℕ → Bool) → ℕ → ℕ → List Pair → Type 0
Offsets rule low i [] = Unit {0}
Offsets rule low i (p ∷ ps) = (rule low i p.offset ≡ true) × Offsets rule p.offset (suc i) ps

module _ (rule : ℕ → ℕ → ℕ → Bool) where
  pairs-fresh : (low i : ℕ) (marks : List Bool) (done : List ℕ) (ps : List Pair) → Marked marks done → check_pairs rule low i marks ps ≡ passed →
      Offsets rule low i ps × Fresh done (map port_of ps)
  pairs-fresh low i marks done [] w e = (tt, tt)
  pairs-fresh low i marks done (p ∷ ps) w e =
      let (right, small, new, others) = pairs-passed rule low i marks p ps e in
      let d = unmarked-differs p.port done (sym (w.are p.port small) ∙ new) in
      let k = pairs-fresh p.offset (suc i) (set marks p.port true) (p.port ∷ done) ps (marked_more small w) others in
      ((right, k.0), (small, d, k.1))

  pairs-right : (low i : ℕ) (marks : List Bool) (done : List ℕ) (ps : List Pair) → Marked marks done → Offsets rule low i ps →
      Fresh done (map port_of ps) → check_pairs rule low i marks ps ≡ passed
  unfolding check_pairs
  pairs-right low i marks done [] w o f = refl
  pairs-right low i marks done (p ∷ ps) w o f =
      let u : get_or marks p.port false ≡ false = w.are p.port f.0 ∙ differs-unmarked p.port done f.1 in
      let k = pairs-right p.offset (suc i) (set marks p.port true) (p.port ∷ done) ps (marked_more f.0 w) o.1 f.2 in
      rw (o.0, le-leb p.port 31 f.0, u) k

marked-after : (marks : List Bool) (done : List ℕ) (ps : List Pair) → Marked marks done → Fresh done (map port_of ps) →
    Marked (seeing ps marks) (done_after done (map port_of ps))
unfolding seeing
marked-after marks done [] w f = w
marked-after marks done (p ∷ ps) w f = marked-after (set marks p.port true) (p.port ∷ done) ps (marked_more f.0 w) f.2

-- ---- offsets
pub loads_rise : (stores low i : ℕ) (ls : List Pair) → Offsets (load_rule stores) low i ls →
    Each (λ (o : ℕ). low ≤ o) (map offset_of ls) × NeverFall (map offset_of ls) × Each (λ (o : ℕ). o ≤ stores) (map offset_of ls)
loads_rise stores low i [] o = (tt, tt, tt)
loads_rise stores low i (l ∷ ls) o =
    let (above, fall, below) = loads_rise stores l.offset (suc i) ls o.1 in
    let h = leb-true low l.offset (and_left (leb low l.offset) _ o.0) in
    let k = leb-true l.offset stores (and_right (leb low l.offset) _ o.0) in
    ((h, each_map (map offset_of ls) (λ m g. le_trans h g) above), (above, fall), (k, below))

loads-agree : (stores low i : ℕ) (ls : List Pair) → Each (λ (o : ℕ). low ≤ o) (map offset_of ls) → NeverFall (map offset_of ls) →
    Each (λ (o : ℕ). o ≤ stores) (map offset_of ls) → Offsets (load_rule stores) low i ls
loads-agree stores low i [] a f b = tt
loads-agree stores low i (l ∷ ls) a f b =
    (rw (le-leb low l.offset a.0, le-leb l.offset stores b.0), loads-agree stores l.offset (suc i) ls f.0 f.1 b.1)

each-above : (ns : List ℕ) → Each (λ (n : ℕ). 0 ≤ n) ns
each-above [] = tt
each-above (n ∷ ns) = (omega arith, each-above ns)

-- the stores from the ith on count the loads before them
abbrev Agreeing : List Pair → ℕ → List Pair → Type 0
Agreeing loads i ss = (j : ℕ) → j < length ss → (get_or ss j blank_pair).offset ≡ count_where (before_store (i + j)) loads

pub stores-count : (loads : List Pair) (low i : ℕ) (ss : List Pair) → Offsets (store_rule loads) low i ss → Agreeing loads i ss
stores-count loads low i [] o j h = absurd (omega arith)
stores-count loads low i (s ∷ ss) o zero h = rw add-zero (eqb-true s.offset (count_where (before_store i) loads) o.0)
stores-count loads low i (s ∷ ss) o (suc j) h = rw (add-suc, ← suc-add) (stores-count loads s.offset (suc i) ss o.1 j (omega arith))

stores-agree : (loads : List Pair) (low i : ℕ) (ss : List Pair) → Agreeing loads i ss → Offsets (store_rule loads) low i ss
stores-agree loads low i [] a = tt
stores-agree loads low i (s ∷ ss) a =
    let h : s.offset ≡ count_where (before_store i) loads = rw add-zero at (a 0 (omega arith)) in
    (eq-eqb s.offset _ h, stores-agree loads s.offset (suc i) ss (λ j k. rw (add-suc, ← suc-add) at (a (suc j) (omega arith))))

-- ---- a group
right_counts : (a b : ℕ) → (a ≤ 16) × (b ≤ 16) → counts_right a b ≡ true
right_counts a b h = rw (le-leb a 16 h.0, le-leb b 16 h.1)

-- all of a right group but its ports
record Shape (g : GroupPairs) : Type 0 where
  pub counts : CountsWithin g
  pub never_fall : LoadsNeverFall g
  pub load_offsets : LoadsWithin g
  pub store_offsets : StoresAgree g

record Done (seen : Seen) (loads stores : List ℕ) : Type 0 where
  pub loads_marked : Marked seen.loads loads
  pub stores_marked : Marked seen.stores stores

module _ (seen : Seen) (g : GroupPairs) {loads stores : List ℕ} (w : Done seen loads stores) where
  group-right : check_group seen g ≡ passed → Shape g × Fresh loads (map port_of g.loads) × Fresh stores (map port_of g.stores)
  group-right e =
      let (few, fewer, ls, ss) = group-passed seen g e in
      let l = pairs-fresh (load_rule (length g.stores)) 0 0 seen.loads loads g.loads w.loads_marked ls in
      let s = pairs-fresh (store_rule g.loads) 0 0 seen.stores stores g.stores w.stores_marked ss in
      let (above, fall, below) = loads_rise (length g.stores) 0 0 g.loads l.0 in (
        record {
          counts = (few, fewer);
          never_fall = fall;
          load_offsets = below;
          store_offsets = λ j h. rw zero-add at (stores-count g.loads 0 0 g.stores s.0 j h);
        },
        l.1,
        s.1,
      )

  right_group : Shape g → Fresh loads (map port_of g.loads) → Fresh stores (map port_of g.stores) → check_group seen g ≡ passed
  right_group r l s =
      let c = right_counts (length g.loads) (length g.stores) r.counts in
      let o = loads-agree (length g.stores) 0 0 g.loads (each-above (map offset_of g.loads)) r.never_fall r.load_offsets in
      let p = stores-agree g.loads 0 0 g.stores (λ j h. rw zero-add (r.store_offsets j h)) in
      let a = pairs-right (load_rule (length g.stores)) 0 0 seen.loads loads g.loads w.loads_marked o l in
      let b = pairs-right (store_rule g.loads) 0 0 seen.stores stores g.stores w.stores_marked p s in
      group_pass seen g c a b

  done-after : Fresh loads (map port_of g.loads) → Fresh stores (map port_of g.stores) →
      Done (seen_after g seen) (done_after loads (map port_of g.loads)) (done_after stores (map port_of g.stores))
  done-after l s = record {
    loads_marked = marked-after seen.loads loads g.loads w.loads_marked l;
    stores_marked = marked-after seen.stores stores g.stores w.stores_marked s;
  }

-- ---- groups
groups_right : (seen : Seen) (gs : List GroupPairs) {loads stores : List ℕ} → Done seen loads stores → check_groups seen gs ≡ passed →
    Each Shape gs × Fresh loads (map port_of (loads_in gs)) × Fresh stores (map port_of (stores_in gs))
groups_right seen [] w e = (tt, tt, tt)
groups_right seen (g ∷ gs) {loads} {stores} w e =
    let (first, others) = groups-passed seen g gs e in
    let (shape, l, s) = group-right seen g w first in
    let (shapes, ls, ss) = groups_right (seen_after g seen) gs (done-after seen g w l s) others in
    ((shape, shapes), joined loads g.loads (loads_in gs) l ls, joined stores g.stores (stores_in gs) s ss)
  where
    joined : (done : List ℕ) (ps qs : List Pair) → Fresh done (map port_of ps) → Fresh (done_after done (map port_of ps)) (map port_of qs) →
        Fresh done (map port_of (ps ++ qs))
    joined done ps qs a b = rw (map-append port_of ps qs) (fresh-join done (map port_of ps) (map port_of qs) a b)

right_groups : (seen : Seen) (gs : List GroupPairs) {loads stores : List ℕ} → Done seen loads stores → Each Shape gs →
    Fresh loads (map port_of (loads_in gs)) → Fresh stores (map port_of (stores_in gs)) → check_groups seen gs ≡ passed
unfolding check_groups
right_groups seen [] w r l s = refl
right_groups seen (g ∷ gs) {loads} {stores} w r l s =
    let ls = parted loads g.loads (loads_in gs) l in
    let ss = parted stores g.stores (stores_in gs) s in
    let a = right_group seen g w r.0 ls.0 ss.0 in
    let b = right_groups (seen_after g seen) gs (done-after seen g w ls.0 ss.0) r.1 ls.1 ss.1 in
    rw (a, b)
  where
    parted : (done : List ℕ) (ps qs : List Pair) → Fresh done (map port_of (ps ++ qs)) →
        Fresh done (map port_of ps) × Fresh (done_after done (map port_of ps)) (map port_of qs)
    parted done ps qs f = fresh-split done (map port_of ps) (map port_of qs) (rw (map-append port_of ps qs) at f)

-- ---- tables
none_done_yet : Done none_seen [] []
none_done_yet = record { loads_marked = unmarked; stores_marked = unmarked }
  where
    unmarked : Marked none_seen.loads []
    unmarked = record { long = refl; are = λ n h. get_or-replicate 32 n false false (omega arith) }

pub right_tables : RightTables
right_tables gs = (to, from)
  where
    to : check_table gs ≡ passed → RightTable gs
    to e =
        let (some, few, groups) = table-passed gs e in
        let (shapes, l, s) = groups_right none_seen gs none_done_yet groups in
        let loads = fresh-apart [] (map port_of (loads_in gs)) l in
        let stores = fresh-apart [] (map port_of (stores_in gs)) s in
        record {
          group_count = (some, few);
          counts = each_map gs (λ g r. r.counts) shapes;
          never_fall = each_map gs (λ g r. r.never_fall) shapes;
          load_offsets = each_map gs (λ g r. r.load_offsets) shapes;
          store_offsets = each_map gs (λ g r. r.store_offsets) shapes;
          load_ports = loads.small;
          store_ports = stores.small;
          loads_once = loads.once;
          stores_once = stores.once;
        }

    shaped : (l : List GroupPairs) → Each CountsWithin l → Each LoadsNeverFall l → Each LoadsWithin l → Each StoresAgree l → Each Shape l
    shaped [] a b c d = tt
    shaped (g ∷ l) a b c d =
        (record { counts = a.0; never_fall = b.0; load_offsets = c.0; store_offsets = d.0 }, shaped l a.1 b.1 c.1 d.1)

    from : RightTable gs → check_table gs ≡ passed
    from r =
        let shapes = shaped gs r.counts r.never_fall r.load_offsets r.store_offsets in
        let l = once-fresh (map port_of (loads_in gs)) r.load_ports r.loads_once in
        let s = once-fresh (map port_of (stores_in gs)) r.store_ports r.stores_once in
        let g = right_groups none_seen gs none_done_yet shapes l s in
        table_pass gs (rw (le-leb 1 (length gs) r.group_count.0, le-leb (length gs) 16 r.group_count.1)) g
