-- Activation by the record: room by the counts, and the new entries by their offsets.
use Rattle.std.proofs.Common.{◌≡◌, ℕ, suc, ◌+◌, ◌<◌, ◌≤◌, Bool, true, false, ◌&&◌, leb, List, [], ◌∷◌, map, length, get_or, sym, refl, ap}
use Rattle.std.proofs.Common.{◌∙◌, le_trans, add-zero, add-suc, arith, leb-true}
use lib.ListN.{length-map}
use Rattle.table.specs.declared.Pair.{Pair}
use Rattle.table.specs.declared.Group.{Group}
use Rattle.table.specs.Group as T
use Rattle.table.specs.Group.{GroupPairs, blank_pair, pairs_of, Access, order, counted_pairs}
use Rattle.table.specs.Table.{group_at, groups_of}
use Rattle.table.proofs.CheckLaws.{view-length, groups-size}
use Rattle.table.proofs.OrderOffsets.{GroupRight}
use Rattle.queue.specs.declared.Kind.TheVariants.{Load as load, Store as store}
use Rattle.queue.specs.Entry.{entry_in}
use Rattle.queue.specs.Contents.{Contents, contents_of, of_kind}
use Rattle.queue.specs.Sound.{sound}
use Rattle.queue.specs.Activate.{room, with_group, activate, new_entries, is_of}
use Rattle.queue.specs.Parts.{queue_of}
use Rattle.queue.specs.Internal.{entry_after, PairsFit, Appended, longer, with_pairs}
use Rattle.queue.specs.declared.Kind.{Kind}
use Rattle.queue.specs.declared.Queue.{Queue}
use Rattle.number.specs.Refusal.{unsound, no_group, no_place}
use Rattle.number.specs.Reply.{refuse, accept, need}
use Rattle.number.proofs.Both.{and_left, and_right}
use Rattle.queue.proofs.ContentsLaws.{get_elem?_past, mapped-length}
use Rattle.queue.proofs.SoundLaws.{depth-most, table-right}
use Rattle.queue.proofs.GroupLaws.{groups-few, group-get_elem?}

-- ---- the new entries by their offsets
new_counted : (kind : Kind) (n loads stores : ℕ) (xs : List Access)
    → new_entries kind (n + of_kind kind stores loads) xs ≡ map (entry_after n) (counted_pairs (is_of kind) loads stores xs)
new_counted kind n l s [] = refl
new_counted load n l s (T.load p ∷ xs) = rw (new_counted load n (suc l) s xs)
new_counted load n l s (T.store p ∷ xs) = rw (← add-suc n s) (new_counted load n l (suc s) xs)
new_counted store n l s (T.load p ∷ xs) = rw (← add-suc n l) (new_counted store n (suc l) s xs)
new_counted store n l s (T.store p ∷ xs) = rw (new_counted store n l (suc s) xs)

new_entries_lem : (kind : Kind) (n : ℕ) {g : GroupPairs} → GroupRight g → map (entry_after n) (of_kind kind g.loads g.stores) ≡ new_entries kind n (order g)
new_entries_lem load n {g} right =
    ap (map (entry_after n)) (sym right.loads_are) ∙ sym (new_counted load n 0 0 (order g)) ∙ ap (λ (m : ℕ). new_entries load m (order g)) (add-zero n)
new_entries_lem store n {g} right =
    ap (map (entry_after n)) (sym right.stores_are) ∙ sym (new_counted store n 0 0 (order g)) ∙ ap (λ (m : ℕ). new_entries store m (order g)) (add-zero n)

-- in a right group the offsets say what the order says
pub with_group_is : (q : Contents) (g : GroupPairs) → GroupRight g → with_pairs q g ≡ with_group q g
with_group_is q g right = rw (new_entries_lem load (length q.stores.entries) right, new_entries_lem store (length q.loads.entries) right)

-- ---- on the record
module _ (q : Queue) (g : Group) where
  abbrev pub chosen : GroupPairs
  chosen = pairs_of q.frame.table.loads q.frame.table.stores g

  pub loads-size : length chosen.loads ≡ g.loads.count
  loads-size = view-length q.frame.table.loads g.loads

  pub stores-size : length chosen.stores ≡ g.stores.count
  stores-size = view-length q.frame.table.stores g.stores

  pub room-record : room (contents_of q) (pairs_of q.frame.table.loads q.frame.table.stores g) ≡ leb
      (q.frame.loads.count + g.loads.count) q.frame.loads.depth && leb (q.frame.stores.count + g.stores.count)
      q.frame.stores.depth
  unfolding contents_of
  room-record = rw (
    mapped-length entry_in 0 q.frame.loads.count q.load_entries,
    mapped-length entry_in 0 q.frame.stores.count
        q.store_entries,
    loads-size,
    stores-size,
  )

  pub appended-both : {ls ss : List ℕ}
      → Appended q.frame.loads.count chosen.loads q.frame.stores.count q.load_entries ls
      → Appended q.frame.stores.count chosen.stores q.frame.loads.count q.store_entries ss
      → contents_of (queue_of (record {
        table = q.frame.table;
        memory_length = q.frame.memory_length;
        loads = longer q.frame.loads g.loads.count;
        stores = longer q.frame.stores g.stores.count;
      }) ls ss) ≡ with_pairs (contents_of q) chosen
  unfolding contents_of
  appended-both {ls} {ss} a b =
      rw (
        mapped-length entry_in 0 q.frame.loads.count q.load_entries,
        mapped-length entry_in 0 q.frame.stores.count q.store_entries,
        length-map chosen.loads (entry_after q.frame.stores.count),
        length-map chosen.stores (entry_after q.frame.loads.count),
        loads-size,
        stores-size,
        rw loads-size at a.holds,
        rw stores-size at b.holds,
      )

-- a right group's pairs fit where there is room
pairs-fit : (ps : List Pair) → ((i : ℕ) → i < length ps → (get_or ps i blank_pair).offset ≤ 16)
    → ((i : ℕ) → i < length ps → (get_or ps i blank_pair).port ≤ 31)
    → (held depth : ℕ) → leb (held + length ps) depth ≡ true → depth ≤ 64 → PairsFit held ps
pairs-fit ps offset port held depth r d =
    record {
      room = le_trans (leb-true (held + length ps) depth r) d;
      offsets = offset;
      ports = λ i k. (let h = port i k in omega arith);
    }

module _ (q : Queue) (g : Group) (s : sound (contents_of q) ≡ true) (right : GroupRight (chosen q g)) (r : room (contents_of q) (chosen q g) ≡ true) where
  abbrev loads_room : Bool
  loads_room = leb (q.frame.loads.count + length (chosen q g).loads) q.frame.loads.depth

  abbrev stores_room : Bool
  stores_room = leb (q.frame.stores.count + length (chosen q g).stores) q.frame.stores.depth

  both : loads_room && stores_room ≡ true
  both = rw (loads-size q g, stores-size q g) (sym (room-record q g) ∙ r)

  pub loads-fit : PairsFit q.frame.loads.count (chosen q g).loads
  loads-fit =
      pairs-fit _ right.load_offset right.load_port q.frame.loads.count q.frame.loads.depth (and_left loads_room stores_room both) (depth-most q s load)

  pub stores-fit : PairsFit q.frame.stores.count (chosen q g).stores
  stores-fit =
      pairs-fit _ right.store_offset right.store_port q.frame.stores.count q.frame.stores.depth (and_right loads_room stores_room both)
      (depth-most q s store)

-- ---- the call
pub activate-unsound : (q : Contents) (group : ℕ) → sound q ≡ false → activate q group ≡ refuse unsound
unfolding activate
activate-unsound q group s = rw s

module _ (q : Queue) (group : ℕ) (s : sound (contents_of q) ≡ true) where
  pub activate-no-group : q.frame.table.count ≤ group → activate (contents_of q) group ≡ refuse no_group
  unfolding activate contents_of
  activate-no-group h =
      let e : length (groups_of q.frame.table) ≤ group = rw (groups-size q.frame.table) h in
      rw (s, get_elem?_past (groups_of q.frame.table) group e)

  module _ (k : group < q.frame.table.count) {g : Group} (a : g ≡ group_at q.frame.table.groups group) where
    abbrev asked : GroupPairs
    asked = pairs_of q.frame.table.loads q.frame.table.stores g

    pub activate-group : activate (contents_of q) group ≡ need (room (contents_of q) asked) no_place (accept (with_group (contents_of q) asked))
    unfolding activate contents_of
    activate-group = rw (s, group-get_elem? q.frame.table (groups-few q.frame.table (table-right q s)) group k a)
