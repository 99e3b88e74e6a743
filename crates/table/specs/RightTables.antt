-- When a table is right, in the words of document 01 as S-2 leaves them, and with nothing of the checking: no marks, no order of
-- faults. The proof is proofs/RightTables.antt.
use Rattle.std.specs.Prelude.{ℕ, ◌≤◌, ◌<◌, ◌≡◌, ◌↔◌, ◌≢◌, List, [], ◌∷◌, map, length, get_or}
use Rattle.table.specs.declared.Pair.{Pair}
use Rattle.number.specs.Basics.{count_where}
use Rattle.number.specs.Reply.{passed}
use Rattle.table.specs.Group.{GroupPairs, blank_pair, before_store}
use Rattle.table.specs.Table.{check_table}
use Rattle.table.specs.TableBytes.{loads_in, stores_in}

-- every element has the property
abbrev pub Each : {A : Type 0} → (A → Type 0) → List A → Type 0
Each P [] = Unit {0}
Each P (x ∷ xs) = P x × Each P xs

-- each number differs from all later ones
abbrev pub Distinct : List ℕ → Type 0
Distinct [] = Unit {0}
Distinct (n ∷ ns) = Each (λ (m : ℕ). n ≢ m) ns × Distinct ns

-- each number is at most any later one
abbrev pub NeverFall : List ℕ → Type 0
NeverFall [] = Unit {0}
NeverFall (n ∷ ns) = Each (λ (m : ℕ). n ≤ m) ns × NeverFall ns

abbrev pub offset_of : Pair → ℕ
offset_of p = p.offset

abbrev pub port_of : Pair → ℕ
port_of p = p.port

-- each count is 0 to 16
abbrev pub CountsWithin : GroupPairs → Type 0
CountsWithin g = (length g.loads ≤ 16) × (length g.stores ≤ 16)

-- the load offsets never fall
abbrev pub LoadsNeverFall : GroupPairs → Type 0
LoadsNeverFall g = NeverFall (map offset_of g.loads)

-- no load offset is above the group's store count
abbrev pub LoadsWithin : GroupPairs → Type 0
LoadsWithin g = Each (λ (offset : ℕ). offset ≤ length g.stores) (map offset_of g.loads)

-- the offset of store j is how many loads are before it
abbrev pub StoresAgree : GroupPairs → Type 0
StoresAgree g = (j : ℕ) → j < length g.stores → (get_or g.stores j blank_pair).offset ≡ count_where (before_store j) g.loads

-- every port is 0 to 31
abbrev pub PortsWithin : List Pair → Type 0
PortsWithin ps = Each (λ (port : ℕ). port ≤ 31) (map port_of ps)

pub record RightTable (gs : List GroupPairs) : Type 0 where
  -- "number of groups (1 to 16)"
  pub group_count : (1 ≤ length gs) × (length gs ≤ 16)
  -- "its number of loads, its number of stores (each 0 to 16 ..)"; with S-2 both may be 0
  pub counts : Each CountsWithin gs
  -- "Load offsets never fall."
  pub never_fall : Each LoadsNeverFall gs
  -- "A load's offset counts the group's stores before it": no more than the group has.
  pub load_offsets : Each LoadsWithin gs
  -- "A store's counts the loads before it. .. Load i is before store j (both from 0) when its offset is at most j, and each
  -- store's offset must agree."
  pub store_offsets : Each StoresAgree gs
  -- "Load ports are 0 to 31, store ports 0 to 31, two separate series;"
  pub load_ports : PortsWithin (loads_in gs)
  pub store_ports : PortsWithin (stores_in gs)
  -- "a port stands once in a table."
  pub loads_once : Distinct (map port_of (loads_in gs))
  pub stores_once : Distinct (map port_of (stores_in gs))

-- Checking finds no fault in the right tables, and in no others.
abbrev pub RightTables : Type 0
RightTables = (gs : List GroupPairs) → (check_table gs ≡ passed) ↔ RightTable gs
