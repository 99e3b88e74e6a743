-- When a table is right. Document 01, "Bytes and tables", and the numbers 4 to 8 in the order of checking.
use Rattle.std.specs.Prelude.{ℕ, suc, ◌+◌, ◌<◌, ◌≡◌, ◌↔◌, Bool, true, false, not, ◌&&◌, ◌||◌, List, [], ◌∷◌, map, leb, eqb, length, get_or, take, set, replicate}
use Rattle.table.specs.declared.Pair.{Pair}
use Rattle.table.specs.declared.Group.{Group}
use Rattle.table.specs.declared.Span.{Span}
use Rattle.table.specs.declared.Table.{Table}
use Rattle.number.specs.Basics.{pick, held, count_where, within}
use Rattle.number.specs.Reply.{Reply, need, number, passed, both}
use Rattle.number.specs.Refusal.{bad_group_count, bad_counts, bad_offset, bad_port, port_seen}
use Rattle.table.specs.Packed.{group_in}
use Rattle.table.specs.Group.{GroupPairs, pairs_of, is_load, is_store, before_store, order, counted_pairs}

-- `count` accesses from the place `first` on. A span that runs past the 32 places stands for 17, more than a group may have: a
-- record with such a group is never right, since it meets 5 (`GroupsWithinPlaces`). No access is none, wherever it stands.
abbrev pub span_meant : Span → Span
span_meant s = pick (leb (s.first + s.count) 32) s (record { first = 0; count = pick (eqb s.count 0) 0 17 })

abbrev pub group_meant : Group → Group
group_meant g = record { loads = span_meant g.loads; stores = span_meant g.stores }

-- the group at a place; beyond the places there is no access
unfoldable pub group_at : List ℕ → ℕ → Group
group_at groups i = group_meant (group_in (get_or (take 16 groups) i 0))

-- the group that a number holds, as it is meant: its accesses stand among the table's loads and stores
abbrev pub meant_in : List ℕ → List ℕ → ℕ → GroupPairs
meant_in loads stores n = pairs_of loads stores (group_meant (group_in n))

-- A table as it is meant: its groups, as many as its count says.
abbrev pub groups_in : ℕ → List ℕ → List ℕ → List ℕ → List GroupPairs
groups_in n groups loads stores = map (meant_in loads stores) (held 0 n groups)

abbrev pub groups_of : Table → List GroupPairs
groups_of t = groups_in t.count t.groups t.loads t.stores

-- Offsets. A rule says which offset is right for the ith pair of its kind in the group (from 0), where the pair before it
-- has the offset `low` (0 for the first). "Load offsets never fall", and none is above the store count.
abbrev pub load_rule : ℕ → ℕ → ℕ → ℕ → Bool
load_rule stores low i offset = leb low offset && leb offset stores

-- "Each store's offset must agree": it counts the loads before the store.
abbrev pub store_rule : List Pair → ℕ → ℕ → ℕ → Bool
store_rule loads low i offset = eqb offset (count_where (before_store i) loads)

-- Ports that have been seen: a mark for each port from 0 to 31.
abbrev pub no_ports : List Bool
no_ports = replicate 32 false

-- A pair is checked in this order: 8 offset, 6 port above 31, 7 port seen in the table among its kind.
abbrev pub check_pair : Bool → List Bool → ℕ → Reply (Unit {0})
check_pair offset_right seen port =
    need offset_right bad_offset
    (need (leb port 31) bad_port
    (need (not (get_or seen port false)) port_seen
    passed))

-- A group's pairs of one kind, from the ith on: the first refusal that one of them meets.
unfoldable pub check_pairs : (ℕ → ℕ → ℕ → Bool) → ℕ → ℕ → List Bool → List Pair → Reply (Unit {0})
check_pairs rule low i seen [] = passed
check_pairs rule low i seen (p ∷ ps) =
    both (check_pair (rule low i p.offset) seen p.port)
    (check_pairs rule p.offset (suc i) (set seen p.port true) ps)

-- the marks after these pairs
unfoldable pub seeing : List Pair → List Bool → List Bool
seeing [] seen = seen
seeing (p ∷ ps) seen = seeing ps (set seen p.port true)

-- A group's counts are each 0 to 16. S-2: a group "with no load and no store .. is valid from now on, 5 being left for a count
-- above 16".
abbrev pub counts_right : ℕ → ℕ → Bool
counts_right loads stores = leb loads 16 && leb stores 16

-- Load ports and store ports are "two separate series".
pub record Seen : Type 0 where
  pub loads : List Bool
  pub stores : List Bool

abbrev pub none_seen : Seen
none_seen = record { loads = no_ports; stores = no_ports }

abbrev pub seen_after : GroupPairs → Seen → Seen
seen_after g seen = record { loads = seeing g.loads seen.loads; stores = seeing g.stores seen.stores }

-- A group: 5 counts, then its loads, then its stores.
unfoldable pub check_group : Seen → GroupPairs → Reply (Unit {0})
check_group seen g =
    need (counts_right (length g.loads) (length g.stores)) bad_counts
    (both (check_pairs (load_rule (length g.stores)) 0 0 seen.loads g.loads)
    (check_pairs (store_rule g.loads) 0 0 seen.stores g.stores))

-- Groups, one after the other: "a port stands once in a table".
unfoldable pub check_groups : Seen → List GroupPairs → Reply (Unit {0})
check_groups seen [] = passed
check_groups seen (g ∷ gs) = both (check_group seen g) (check_groups (seen_after g seen) gs)

-- A table: the first of 4, 5, 8, 6, 7 that it meets, or it is right.
unfoldable pub check_table : List GroupPairs → Reply (Unit {0})
check_table gs = need (within 1 16 (length gs)) bad_group_count (check_groups none_seen gs)

-- The number of the check is 0 just where the table is right: no refusal is 0. The proof is proofs/Among.antt.
abbrev pub ZeroMeansRight : Type 0
ZeroMeansRight = (gs : List GroupPairs) → (number (check_table gs) ≡ 0) ↔ (check_table gs ≡ passed)

-- A right table's groups stand within the places of its record, of whatever record with the arrays' lengths; a span of no
-- access is within them. The proof is proofs/WithinPlaces.antt.
abbrev pub span_within : Span → Bool
span_within s = eqb s.count 0 || leb (s.first + s.count) 32

abbrev pub group_within : Group → Bool
group_within g = span_within g.loads && span_within g.stores

abbrev pub GroupsWithinPlaces : Type 0
GroupsWithinPlaces =
    (t : Table) → length t.groups ≡ 16 → length t.loads ≡ 32 → length t.stores ≡ 32 → check_table (groups_of t) ≡ passed
    → (i : ℕ) → i < t.count → group_within (group_in (get_or t.groups i 0)) ≡ true

-- "A load's offset counts the group's stores before it; a store's counts the loads before it": along the program order of each
-- group of a right table stand just its loads and its stores, at their offsets. The proof is proofs/OrderOffsets.antt.
abbrev pub OffsetsCountOrder : Type 0
OffsetsCountOrder =
    (gs : List GroupPairs) → check_table gs ≡ passed → (i : ℕ) (d : GroupPairs) → i < length gs →
    (counted_pairs is_load 0 0 (order (get_or gs i d)) ≡ (get_or gs i d).loads) × (counted_pairs is_store 0 0 (order (get_or gs i d)) ≡ (get_or gs i d).stores)
