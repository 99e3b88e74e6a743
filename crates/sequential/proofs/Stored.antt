-- A queue's record of what it is to hold: each entry packed into its number, and zeros in the places beyond.
use Prim.Native.Nat.{ℕ, zero, suc, ◌+◌, ◌*◌, ◌-◌, ◌%◌, ◌^◌, ◌≤◌, ◌<◌}
use native.Mathlib.Nat.{le_trans}
use native.Mathlib.Omega.{arith}
use mathlib.Core.Path.{◌≡◌, refl, ap, ◌∙◌}
use mathlib.Core.Bool.{Bool, true, ◌&&◌}
use mathlib.Core.List.{List, [], ◌∷◌, ◌++◌, map}
use mathlib.Core.Option.{Option, none, some}
use lib.Dec.{leb}
use lib.ListN.{length, replicate, length-append, length-map, length-replicate}
use lib.Seq.{take_at}
use borrow.Author.Tests.{leb-true, ltb-true, lt-ltb}
use Rattle.table.specs.declared.Table.{Table}
use Rattle.number.specs.Basics.{pick, all_of, held, is_some}
use Rattle.table.specs.Table.{groups_of}
use Rattle.number.proofs.HeldLaws.{held-few}
use Rattle.queue.specs.declared.Kind.{Kind}
use Rattle.queue.specs.declared.Kind.TheVariants.{Load, Store}
use Rattle.queue.specs.declared.Entry.{Entry as EntryStruct}
use Rattle.queue.specs.declared.Side.{Side as SideStruct}
use Rattle.queue.specs.declared.Queue.{Queue}
use Rattle.queue.specs.Entry.{Entry, entry_of, entry_in, number_of, bit, Small, entry_struct}
use Rattle.queue.specs.Contents.{Side, Contents, entries_held, contents_of, side_of}
use Rattle.queue.specs.Sound.{address_right, entry_right, sound}
use Rattle.number.proofs.Both.{and_left, and_right}
use Rattle.queue.proofs.Lists.{all_join, all-weaken₂, all_map}
use Rattle.queue.proofs.EntryLaws.{bit-small, entry_number}
use Rattle.queue.proofs.SoundLaws.{within_most, sound-parts}
use Rattle.queue.proofs.ContentsLaws.{opposite}
use Rattle.sequential.specs.RunsExist.{bits_fit, word_fits, StoredSide, StoredEntries, Stored}

-- what is true of every entry beside what a sound queue says: its port has five bits, and its word has 32
abbrev pub entry_fits : Entry → Bool
entry_fits e = bits_fit 5 e.port && word_fits e.word

-- ---- the record of an entry
abbrev number_in : Option ℕ → ℕ
number_in none = 0
number_in (some n) = n

read_option : (o : Option ℕ) → pick (is_some o) (some (number_in o)) none ≡ o
read_option none = refl
read_option (some n) = refl

abbrev struct_of : Entry → EntryStruct
struct_of e =
    entry_struct e.port (is_some e.address) (number_in e.address) (is_some e.word) (number_in e.word) e.finished e.before

entry_struct_lem : (e : Entry) → entry_of (struct_of e) ≡ e
entry_struct_lem e = rw (read_option e.address, read_option e.word)

-- its fields have room
word_small : (o : Option ℕ) → word_fits o ≡ true → number_in o < 4294967296
word_small none h = omega arith
word_small (some w) h = ltb-true w (2 ^ 32) h

address-small : (words : ℕ) (o : Option ℕ) → words ≤ 4096 → address_right words o ≡ true → number_in o < 65536
address-small words none m h = omega arith
address-small words (some a) m h = omega (arith, ltb-true a words h)

struct_small : (words others : ℕ) → words ≤ 4096 → others ≤ 64 → (e : Entry) → entry_right words others e ≡ true → entry_fits e ≡ true
    → Small (struct_of e)
struct_small words others few most e right h = record {
  port = ltb-true e.port 32 (and_left (bits_fit 5 e.port) (word_fits e.word) h);
  before = omega (arith, leb-true e.before others (and_left (leb e.before others) _ right));
  address = address-small words e.address few (and_right (leb e.before others) _ right);
  word = word_small e.word (and_right (bits_fit 5 e.port) (word_fits e.word) h);
}

number_small : (e : EntryStruct) → Small e → bits_fit 64 (number_of e) ≡ true
unfolding number_of
number_small e s =
    lt-ltb (number_of e) (2 ^ 64)
    (sum e.port (bit e.addressed) (bit e.filled) (bit e.finished) e.before e.address e.word
    (bit-small e.addressed) (bit-small e.filled) (bit-small e.finished) s.before s.address s.word)
  where
    sum : (p a f d b x w : ℕ) → a < 2 → f < 2 → d < 2 → b < 256 → x < 65536 → w < 4294967296
        → p % 32 + (32 * a + 64 * f + 128 * d) + 256 * b + 65536 * x + 4294967296 * w < 2 ^ 64
    sum p a f d b x w h₁ h₂ h₃ h₄ h₅ h₆ = omega arith

-- ---- a side: `f` packs, `g` reads, and what passes `p` and `r` is read back
abbrev padded : List ℕ → List ℕ
padded l = l ++ replicate (64 - length l) 0

zeros-fit : (n : ℕ) → all_of (bits_fit 64) (replicate n 0) ≡ true
zeros-fit zero = refl
zeros-fit (suc n) = zeros-fit n

module _ {A : Type 0} (f : A → ℕ) (g : ℕ → A) (p r : A → Bool) where
  map_back : ((x : A) → p x ≡ true → r x ≡ true → g (f x) ≡ x) → (l : List A) → all_of p l ≡ true → all_of r l ≡ true
      → map g (map f l) ≡ l
  map_back back [] h k = refl
  map_back back (x ∷ l) h k =
      rw (back x (and_left (p x) (all_of p l) h) (and_left (r x) (all_of r l) k), map_back back l (and_right (p x) (all_of p l) h) (and_right (r x) (all_of r l) k))

  side-back : ((x : A) → p x ≡ true → r x ≡ true → g (f x) ≡ x) → (l : List A) → all_of p l ≡ true → all_of r l ≡ true
      → map g (held 0 (length l) (padded (map f l))) ≡ l
  side-back back l h k =
      let n : length (map f l) ≡ length l = length-map l f in
      let m : length l ≤ length (padded (map f l)) = rw (length-append (map f l) (replicate (64 - length (map f l)) 0)) (omega arith) in
      ap (map g) (held-few 0 (length l) (padded (map f l)) m ∙ take_at (map f l) _ (length l) n) ∙ map_back back l h k

  side-stored : ((x : A) → p x ≡ true → r x ≡ true → bits_fit 64 (f x) ≡ true) → (l : List A) → length l ≤ 64 → all_of p l ≡ true
      → all_of r l ≡ true
      → StoredEntries (padded (map f l))
  side-stored small l few h k = record {
    places =
        rw (length-append (map f l) (replicate (64 - length (map f l)) 0), length-replicate {A = ℕ} (64 - length (map f l)) 0, length-map l f)
        (omega arith);
    numbers =
        all_join (bits_fit 64) (map f l) _
        (all_map (bits_fit 64) (λ x. bits_fit 64 (f x)) f (λ x. refl) l ∙ all-weaken₂ p r (λ x. bits_fit 64 (f x)) small l h k)
        (zeros-fit (64 - length (map f l)));
  }

-- ---- the record of a table and of what it is to hold
abbrev side_struct : Side → SideStruct
side_struct s = record { depth = s.depth; count = length s.entries; next = s.next }

abbrev packed : Side → List ℕ
packed s = padded (map (λ e. number_of (struct_of e)) s.entries)

abbrev pub record_of : Table → Contents → Queue
record_of table c = record {
  frame = record { table = table; memory_length = c.memory_length; loads = side_struct c.loads; stores = side_struct c.stores };
  load_entries = packed c.loads;
  store_entries = packed c.stores;
}

module _ (table : Table) (c : Contents) (right : sound c ≡ true) (fit : (K : Kind) → all_of entry_fits (side_of K c).entries ≡ true) where
  words-few : c.memory_length ≤ 4096
  words-few = within_most 1 4096 c.memory_length (sound-parts c right).words

  depth-few : (K : Kind) → (side_of K c).depth ≤ 64
  depth-few K = within_most 1 64 (side_of K c).depth ((sound-parts c right).sides K).depth

  side-few : (K : Kind) → length (side_of K c).entries ≤ 64
  side-few K = le_trans (leb-true (length (side_of K c).entries) (side_of K c).depth ((sound-parts c right).sides K).few) (depth-few K)

  module _ (K : Kind) where
    abbrev others : ℕ
    others = length (side_of (opposite K) c).entries

    small : (e : Entry) → entry_right c.memory_length others e ≡ true → entry_fits e ≡ true → Small (struct_of e)
    small = struct_small c.memory_length others words-few (side-few (opposite K))

    entries-back : entries_held (length (side_of K c).entries) (packed (side_of K c)) ≡ (side_of K c).entries
    entries-back =
        side-back (λ e. number_of (struct_of e)) entry_in (entry_right c.memory_length others) entry_fits
        (λ e h k. ap entry_of (entry_number (struct_of e) (small e h k)) ∙ entry_struct_lem e)
        (side_of K c).entries ((sound-parts c right).sides K).entries (fit K)

    entries-stored : StoredEntries (packed (side_of K c))
    entries-stored =
        side-stored (λ e. number_of (struct_of e)) entry_in (entry_right c.memory_length others) entry_fits
        (λ e h k. number_small (struct_of e) (small e h k))
        (side_of K c).entries (side-few K) ((sound-parts c right).sides K).entries (fit K)

    side-stored-too : (side_of K c).next < 2 ^ 32 → StoredSide (side_struct (side_of K c))
    side-stored-too next = record { depth = omega (arith, depth-few K); count = omega (arith, side-few K); next = next }

  -- it holds just that
  pub record-holds : groups_of table ≡ c.groups → contents_of (record_of table c) ≡ c
  unfolding contents_of
  record-holds same = rw (same, entries-back Load, entries-back Store)

  -- and a program holds it
  pub record-stored : ((K : Kind) → (side_of K c).next < 2 ^ 32) → Stored (record_of table c)
  record-stored next = record {
    words = omega (arith, words-few);
    loads = side-stored-too Load (next Load);
    stores = side-stored-too Store (next Store);
    load_entries = entries-stored Load;
    store_entries = entries-stored Store;
  }
