-- A queue's record and what it holds, side by side. Every rule speaks of what a queue holds.
-- Document 01, "How the queue moves": "a queue holds its table, both depths, the memory length, and for each side the
-- next serial and the entries from the oldest, whose serials run without a gap up to that next one".
use Rattle.std.specs.Prelude.{ℕ, zero, suc, ◌+◌, ◌-◌, ◌%◌, ◌^◌, Bool, List, [], ◌∷◌, map, length, take}
use Rattle.number.specs.Basics.{pick, held}
use Rattle.table.specs.Group.{GroupPairs}
use Rattle.table.specs.Table.{groups_of}
use Rattle.queue.specs.declared.Side.{Side as SideStruct}
use Rattle.queue.specs.declared.Queue.{Queue}
use Rattle.queue.specs.declared.Kind.{Kind}
use Rattle.queue.specs.declared.Kind.TheVariants.{Load as load, Store as store}
use Rattle.queue.specs.Entry.{Entry, entry_in}

-- one side: its depth, the next serial, and the entries from the oldest
pub record Side : Type 0 where
  pub depth : ℕ
  pub next : ℕ
  pub entries : List Entry

-- the table and the memory length, and both sides
pub record Contents : Type 0 where
  pub groups : List GroupPairs
  pub memory_length : ℕ
  pub loads : Side
  pub stores : Side

-- the entries that a count and a run of numbers hold
abbrev pub entries_held : ℕ → List ℕ → List Entry
entries_held n l = map entry_in (held 0 n l)

-- what the record of a side and its run of numbers hold
abbrev pub side_in : SideStruct → List ℕ → Side
side_in s l = record { depth = s.depth; next = s.next; entries = entries_held s.count l }

-- what a queue's record holds
unfoldable pub contents_of : Queue → Contents
contents_of q = record {
  groups = groups_of q.frame.table;
  memory_length = q.frame.memory_length;
  loads = side_in q.frame.loads q.load_entries;
  stores = side_in q.frame.stores q.store_entries;
}

-- of two things, one of the loads and one of the stores, that of the kind
abbrev pub of_kind : {A : Type 0} → Kind → A → A → A
of_kind load a b = a
of_kind store a b = b

abbrev pub side_of : Kind → Contents → Side
side_of kind q = of_kind kind q.loads q.stores

-- the same queue with other sides; a side with other entries; the queue with other entries of a kind
abbrev pub with_sides : Contents → Side → Side → Contents
with_sides q loads stores = record { groups = q.groups; memory_length = q.memory_length; loads = loads; stores = stores }

abbrev pub holding : Side → List Entry → Side
holding s entries = record { depth = s.depth; next = s.next; entries = entries }

abbrev pub with_entries : Kind → Contents → List Entry → Contents
with_entries load q entries = with_sides q (holding q.loads entries) q.stores
with_entries store q entries = with_sides q q.loads (holding q.stores entries)

-- Serials: "0 follows 4294967295, so age is judged by distance from the oldest entry".
abbrev pub after : ℕ → ℕ → ℕ
after serial n = (serial + n) % 2 ^ 32

-- how far `serial` lies after `from`
abbrev pub age : ℕ → ℕ → ℕ
age from serial = (serial + (2 ^ 32 - from)) % 2 ^ 32

-- the oldest entry's serial, where `n` entries run up to the next serial
abbrev pub oldest : ℕ → ℕ → ℕ
oldest next n = (next + (2 ^ 32 - n)) % 2 ^ 32

-- the place, from the oldest, that a serial names; it is a place of the side only if it is below the number of entries
abbrev pub place_of : Side → ℕ → ℕ
place_of s serial = age (oldest s.next (length s.entries)) serial

-- of the other side, the entries that come before an entry: as many as it remembers
abbrev pub others_before : Side → Entry → List Entry
others_before other e = take e.before other.entries

-- one element made anew
abbrev pub update_at : {A : Type 0} → (A → A) → ℕ → List A → List A
update_at f i [] = []
update_at f zero (x ∷ xs) = f x ∷ xs
update_at f (suc i) (x ∷ xs) = x ∷ update_at f i xs

-- the place of the first element that passes, or the length where none does
abbrev pub first_place : {A : Type 0} → (A → Bool) → List A → ℕ
first_place p [] = 0
first_place p (x ∷ xs) = pick (p x) 0 (suc (first_place p xs))
