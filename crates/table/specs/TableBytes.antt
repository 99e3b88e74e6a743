-- A table's bytes. "A table is: fields per access (always 2), number of groups (1 to 16), then the groups. A group is its
-- number of loads, its number of stores, a pair for each load, then a pair for each store. A pair is offset, port."
use Rattle.std.specs.Prelude.{ℕ, zero, suc, ◌+◌, ◌-◌, Bool, true, List, [], ◌∷◌, ◌++◌, map, eqb, length, set, replicate}
use Rattle.table.specs.declared.Pair.{Pair}
use Rattle.table.specs.declared.Group.{Group}
use Rattle.table.specs.declared.Table.{Table}
use Rattle.number.specs.Basics.{flat_map, within}
use Rattle.number.specs.Refusal.{bad_fields, bad_group_count, bad_counts, left_over}
use Rattle.number.specs.Reply.{Reply, refuse, accept, need, and_then}
use Rattle.number.specs.Number.{Got, got, then_read, read_number, bytes_of, Wrote, wrote_if, before}
use Rattle.table.specs.Packed.{pair, packed_pair, packed_group}
use Rattle.table.specs.Group.{GroupPairs}
use Rattle.table.specs.Table.{load_rule, store_rule, check_pair, counts_right, Seen, none_seen, seen_after, check_table}

-- n pairs of one kind, from the ith on: each is read whole, and then 8, 6, 7
unfoldable pub read_pairs : (ℕ → ℕ → ℕ → Bool) → ℕ → ℕ → ℕ → List Bool → List ℕ → Reply (Got (List Pair))
read_pairs rule zero low i seen s = accept (got [] s)
read_pairs rule (suc n) low i seen s =
    then_read (read_number s) λ offset s₁.
    then_read (read_number s₁) λ port s₂.
    and_then (check_pair (rule low i offset) seen port) λ right.
    before (pair offset port) (read_pairs rule n offset (suc i) (set seen port true) s₂)

-- a group: both counts, 5, its loads, its stores
unfoldable pub read_group : Seen → List ℕ → Reply (Got GroupPairs)
read_group seen s =
    then_read (read_number s) λ loads s₁.
    then_read (read_number s₁) λ stores s₂.
    need (counts_right loads stores) bad_counts
    (then_read (read_pairs (load_rule stores) loads 0 0 seen.loads s₂) λ ls s₃.
    then_read (read_pairs (store_rule ls) stores 0 0 seen.stores s₃) λ ss s₄.
    accept (got (record { loads = ls; stores = ss }) s₄))

unfoldable pub read_groups : ℕ → Seen → List ℕ → Reply (Got (List GroupPairs))
read_groups zero seen s = accept (got [] s)
read_groups (suc n) seen s = then_read (read_group seen s) λ g s₁. before g (read_groups n (seen_after g seen) s₁)

-- "Reading a table, number by number: 1 or 2 for the number; 3 fields not 2; 4 group count; .. at the end 9 bytes left over." S-4: 42
-- after 1 and 2 of the number, and so before its field is checked and before the next number is read.
unfoldable pub read_table : List ℕ → Reply (List GroupPairs)
read_table s =
    then_read (read_number s) λ fields s₁.
    need (eqb fields 2) bad_fields
    (then_read (read_number s₁) λ count s₂.
    need (within 1 16 count) bad_group_count
    (then_read (read_groups count none_seen s₂) λ gs s₃.
    need (eqb (length s₃) 0) left_over (accept gs)))

-- The record of a table: each group's accesses stand behind those of the groups before it. Places that no group has, which
-- mean nothing, are 0.
abbrev pub filled : List Pair → List ℕ
filled ps = map packed_pair ps ++ replicate (32 - length ps) 0

-- the group whose accesses stand from these places on, and the groups after it
abbrev pub placed : ℕ → ℕ → GroupPairs → Group
placed load store g = record { loads = record { first = load; count = length g.loads }; stores = record { first = store; count = length g.stores } }

abbrev pub spans : ℕ → ℕ → List GroupPairs → List ℕ
spans load store [] = []
spans load store (g ∷ gs) = packed_group (placed load store g) ∷ spans (load + length g.loads) (store + length g.stores) gs

abbrev pub loads_in : List GroupPairs → List Pair
loads_in gs = flat_map (λ (g : GroupPairs). g.loads) gs

abbrev pub stores_in : List GroupPairs → List Pair
stores_in gs = flat_map (λ (g : GroupPairs). g.stores) gs

abbrev pub pack : List GroupPairs → Table
pack gs = record { count = length gs; groups = spans 0 0 gs ++ replicate (16 - length gs) 0; loads = filled (loads_in gs); stores = filled (stores_in gs) }

-- what a call that reads a table replies: the record of its groups
abbrev pub table_reply : Reply (List GroupPairs) → Reply Table
table_reply r = and_then r λ gs. accept (pack gs)

-- the same as a number and a record: 0 and the table, or the refusal number and the table of no groups, which means nothing
pub record TableRead : Type 0 where
  pub answer : ℕ
  pub table : Table

abbrev pub table_answer : Reply (List GroupPairs) → TableRead
table_answer (accept gs) = record { answer = 0; table = pack gs }
table_answer (refuse n) = record { answer = n; table = pack [] }

abbrev pub table_read : Reply Table → TableRead
table_read (accept t) = record { answer = 0; table = t }
table_read (refuse n) = record { answer = n; table = pack [] }

-- the numbers of a table, in the order of its bytes
abbrev pub pair_numbers : Pair → List ℕ
pair_numbers p = p.offset ∷ p.port ∷ []

abbrev pub group_numbers : GroupPairs → List ℕ
group_numbers g = length g.loads ∷ length g.stores ∷ flat_map pair_numbers g.loads ++ flat_map pair_numbers g.stores

abbrev pub table_numbers : List GroupPairs → List ℕ
table_numbers gs = 2 ∷ length gs ∷ flat_map group_numbers gs

abbrev pub table_bytes : List GroupPairs → List ℕ
table_bytes gs = bytes_of (table_numbers gs)

-- "Writing a table: 4, 5, 8, 6, 7 in the same order, then 10 the buffer is too short."
unfoldable pub wrote_table : List GroupPairs → List ℕ → Wrote
wrote_table gs = wrote_if (check_table gs) (table_bytes gs)
