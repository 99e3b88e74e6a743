-- S-2, "branches that touch no tally": "compilers hand us groups with no load and no store. Such a group is valid from now on, 5
-- being left for a count above 16". The proofs are in proofs/EmptyGroups.antt.
use Rattle.std.specs.Prelude.{ℕ, ◌+◌, ◌≤◌, ◌<◌, ◌≡◌, ◌↔◌, ◌⊎◌, List, ◌∷◌, ◌++◌, length, replicate}
use Rattle.number.specs.Refusal.{bad_counts}
use Rattle.number.specs.Reply.{refuse, accept, passed}
use Rattle.number.specs.Number.{got, read_number}
use Rattle.table.specs.Group.{GroupPairs, empty_group}
use Rattle.table.specs.Table.{Seen, check_group, check_groups, check_table}
use Rattle.table.specs.TableBytes.{read_group, read_table, table_bytes}

-- Wherever an empty group stands among groups, and whatever ports are seen, it adds none of 5 to 8 and hides none.
abbrev pub EmptyGroupsRight : Type 0
EmptyGroupsRight =
    (seen : Seen) (before after : List GroupPairs) →
    check_groups seen (before ++ empty_group ∷ after) ≡ check_groups seen (before ++ after)

-- So a table with room for one more group has the same fault, or none, with an empty group as without it.
abbrev pub EmptyGroupsLeaveFault : Type 0
EmptyGroupsLeaveFault =
    (before after : List GroupPairs) → 1 ≤ length (before ++ after) → length (before ++ after) ≤ 15 →
    check_table (before ++ empty_group ∷ after) ≡ check_table (before ++ after)

-- A group meets 5 where it has more than 16 loads or more than 16 stores, and nowhere else: in checking, writing, opening and 40,
abbrev pub BadCountsMeanAbove16 : Type 0
BadCountsMeanAbove16 =
    (seen : Seen) (g : GroupPairs) → (check_group seen g ≡ refuse bad_counts) ↔ ((16 < length g.loads) ⊎ (16 < length g.stores))

-- and in reading, once both counts are read.
abbrev pub ReadingBadCounts : Type 0
ReadingBadCounts =
    (seen : Seen) (s s₁ s₂ : List ℕ) (loads stores : ℕ) →
    read_number s ≡ accept (got loads s₁) → read_number s₁ ≡ accept (got stores s₂) →
    (read_group seen s ≡ refuse bad_counts) ↔ ((16 < loads) ⊎ (16 < stores))

-- A table of empty groups only, 1 to 16 of them, is right. Its bytes are 2, their number and two 0 for each: 02 01 00 00 for one.
-- They are read back.
pub record EmptyTable (n : ℕ) : Type 0 where
  pub right : check_table (replicate n empty_group) ≡ passed
  pub bytes : table_bytes (replicate n empty_group) ≡ 2 ∷ n ∷ replicate (n + n) 0
  pub reads : read_table (2 ∷ n ∷ replicate (n + n) 0) ≡ accept (replicate n empty_group)

abbrev pub EmptyTables : Type 0
EmptyTables = (n : ℕ) → 1 ≤ n → n ≤ 16 → EmptyTable n
