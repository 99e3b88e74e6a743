-- What a sound queue's record is: its limits, the limits of its entries, and its table.
use Rattle.std.proofs.Common.{◌≡◌, ℕ, ◌<◌, ◌≤◌, Bool, true, false, ◌&&◌, leb, length, get_or, sym, refl, ap, ◌∙◌, le_trans, ltb-true, leb-true}
use mathlib.Core.Option.{none, some}
use Rattle.number.specs.Basics.{pick, all_of, within}
use Rattle.number.specs.Reply.{accepted, passed}
use Rattle.number.proofs.Both.{and_left, and_right}
use Rattle.number.proofs.AllLaws.{all_at}
use Rattle.number.proofs.ReplyLaws.{accepted-passed}
use Rattle.table.specs.Table.{groups_of, check_table}
use Rattle.queue.specs.declared.Kind.{Kind}
use Rattle.queue.specs.declared.Kind.TheVariants.{Load as load, Store as store}
use Rattle.queue.specs.declared.Queue.{Queue}
use Rattle.queue.specs.Entry.{unpacked, entry_in}
use Rattle.queue.specs.Contents.{Side, Contents, entries_held, contents_of, side_of}
use Rattle.queue.specs.Sound.{depth_right, memory_right, address_right, entry_right, side_right, sound}
use Rattle.queue.proofs.Lists.{false-true}
use Rattle.queue.proofs.ContentsLaws.{mapped-length, mapped_at, counts_of, numbers_of, opposite, side-held, side-depth, side-count, words-held}

pub within_most : (lo hi n : ℕ) → within lo hi n ≡ true → n ≤ hi
within_most lo hi n h = leb-true n hi (and_right (leb lo n) (leb n hi) h)

-- ---- the parts of the check
pub record SideSound (words : ℕ) (s other : Side) : Type 0 where
  pub depth : depth_right s.depth ≡ true
  pub few : leb (length s.entries) s.depth ≡ true
  pub entries : all_of (entry_right words (length other.entries)) s.entries ≡ true

pub record Sound (q : Contents) : Type 0 where
  pub words : memory_right q.memory_length ≡ true
  pub sides : (kind : Kind) → SideSound q.memory_length (side_of kind q) (side_of (opposite kind) q)
  pub table : accepted (check_table q.groups) ≡ true

side-parts : (words : ℕ) (s other : Side) → side_right words s other ≡ true → SideSound words s other
side-parts words s other h =
    let d = depth_right s.depth in
    let f = leb (length s.entries) s.depth in
    let both = and_left (d && f) _ h in
    record { depth = and_left d f both; few = and_right d f both; entries = and_right (d && f) _ h }

pub sound-parts : (q : Contents) → sound q ≡ true → Sound q
unfolding sound
sound-parts q h =
    let m = memory_right q.memory_length in
    let l = side_right q.memory_length q.loads q.stores in
    let s = side_right q.memory_length q.stores q.loads in
    let three = and_left (m && l && s) _ h in
    let two = and_left (m && l) s three in
    let loads = side-parts q.memory_length q.loads q.stores (and_right m l two) in
    let stores = side-parts q.memory_length q.stores q.loads (and_right (m && l) s three) in
    record {
      words = and_left m l two;
      sides = elim [ load ↦ loads | store ↦ stores ];
      table = and_right (m && l && s) _ h;
    }

parts-side : (words : ℕ) (s other : Side) → SideSound words s other → side_right words s other ≡ true
parts-side words s other p = rw (p.depth, p.few, p.entries)

pub parts-sound : (q : Contents) → Sound q → sound q ≡ true
unfolding sound
parts-sound q p =
    rw (
      p.words,
      parts-side q.memory_length q.loads q.stores (p.sides load),
      parts-side q.memory_length q.stores q.loads (p.sides store),
      p.table,
    )

-- ---- the check, on the record, in the order in which the code makes it
regroup : (m a e b f : Bool) → (m && (a && e) && (b && f)) ≡ (a && b && m && e && f)
regroup true true e true f = refl
regroup true true true false f = refl
regroup true true false false f = refl
regroup true false e b f = refl
regroup false true e true f = refl
regroup false true e false f = refl
regroup false false e b f = refl

pub sound-sides : (q : Queue) →
    sound (contents_of q) ≡
    ((depth_right q.frame.loads.depth && leb q.frame.loads.count q.frame.loads.depth)
    && (depth_right q.frame.stores.depth && leb q.frame.stores.count q.frame.stores.depth)
    && memory_right q.frame.memory_length
    && all_of (entry_right q.frame.memory_length q.frame.stores.count) (entries_held q.frame.loads.count q.load_entries)
    && all_of (entry_right q.frame.memory_length q.frame.loads.count) (entries_held q.frame.stores.count q.store_entries)
    && accepted (check_table (groups_of q.frame.table)))
unfolding sound contents_of
sound-sides q =
    let words : ℕ = q.frame.memory_length in
    let n : ℕ = q.frame.loads.count in
    let m : ℕ = q.frame.stores.count in
    rw (mapped-length entry_in 0 n q.load_entries, mapped-length entry_in 0 m q.store_entries)
    (ap (λ (b : Bool). b && accepted (check_table (groups_of q.frame.table)))
    (regroup (memory_right words) (depth_right q.frame.loads.depth && leb n q.frame.loads.depth)
    (all_of (entry_right words m) (entries_held n q.load_entries))
    (depth_right q.frame.stores.depth && leb m q.frame.stores.depth)
    (all_of (entry_right words n) (entries_held m q.store_entries))))

-- an address that is filled in
filled_in : (words a : ℕ) (addressed : Bool) → address_right words (pick addressed (some a) none) ≡ true → addressed ≡ true → a < words
filled_in words a true h e = ltb-true a words h
filled_in words a false h e = false-true e

-- ---- a sound queue's record
module _ (q : Queue) (s : sound (contents_of q) ≡ true) where
  pub words-most : q.frame.memory_length ≤ 4096
  words-most = within_most 1 4096 q.frame.memory_length (rw (words-held q) at (sound-parts (contents_of q) s).words)

  pub table-right : check_table (groups_of q.frame.table) ≡ passed
  unfolding contents_of
  table-right = accepted-passed _ (sound-parts (contents_of q) s).table

  module _ (kind : Kind) where
    side-sound : SideSound (contents_of q).memory_length (side_of kind (contents_of q)) (side_of (opposite kind) (contents_of q))
    side-sound = (sound-parts (contents_of q) s).sides kind

    pub depth-most : (counts_of kind q).depth ≤ 64
    depth-most = within_most 1 64 (counts_of kind q).depth (rw (side-depth kind q) at side-sound.depth)

    pub count-in-depth : (counts_of kind q).count ≤ (counts_of kind q).depth
    count-in-depth = leb-true _ _ (rw (side-count kind q, side-depth kind q) at side-sound.few)

    pub count_most : (counts_of kind q).count ≤ 64
    count_most = le_trans count-in-depth depth-most

    module _ (i : ℕ) (k : i < (counts_of kind q).count) where
      entry-right-at : entry_right q.frame.memory_length (counts_of (opposite kind) q).count (entry_in (get_or (numbers_of kind q) i 0)) ≡ true
      entry-right-at =
          let all : all_of (entry_right q.frame.memory_length (counts_of (opposite kind) q).count)
          (entries_held (counts_of kind q).count (numbers_of kind q)) ≡ true =
          rw (words-held q, side-count (opposite kind) q, side-held kind q) at side-sound.entries in
          ap (entry_right q.frame.memory_length (counts_of (opposite kind) q).count)
          (sym (mapped_at entry_in 0 (counts_of kind q).count (numbers_of kind q) i k))
          ∙ all_at _ (entries_held (counts_of kind q).count (numbers_of kind q)) i (entry_in 0) all
          (rw (mapped-length entry_in 0 (counts_of kind q).count (numbers_of kind q)) k)

      -- it remembers no more of the other kind than are held
      pub before-held : (unpacked (get_or (numbers_of kind q) i 0)).before ≤ (counts_of (opposite kind) q).count
      before-held = leb-true _ _
          (and_left (leb (unpacked (get_or (numbers_of kind q) i 0)).before (counts_of (opposite kind) q).count) _ entry-right-at)

      pub address-low : (unpacked (get_or (numbers_of kind q) i 0)).addressed ≡ true
          → (unpacked (get_or (numbers_of kind q) i 0)).address < q.frame.memory_length
      address-low e = filled_in q.frame.memory_length _ (unpacked (get_or (numbers_of kind q) i 0)).addressed
          (and_right (leb (unpacked (get_or (numbers_of kind q) i 0)).before (counts_of (opposite kind) q).count) _ entry-right-at) e
