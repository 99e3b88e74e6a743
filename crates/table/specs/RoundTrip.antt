-- What reading and writing tables promise together: what is written is read back, and what is read was written so. The proofs are
-- proofs/RoundTrip.antt and proofs/PackLaws.antt.
use Rattle.std.specs.Prelude.{ℕ, ◌≤◌, ◌≡◌, ◌↔◌, List, ◌++◌, length, drop}
use Rattle.number.specs.Reply.{Reply, accept, and_then, passed}
use Rattle.number.specs.Number.{Fit, AreBytes}
use Rattle.table.specs.declared.Table.{Table}
use Rattle.table.specs.Group.{GroupPairs}
use Rattle.table.specs.Table.{groups_of, check_table}
use Rattle.table.specs.TableBytes.{read_table, pack, loads_in, stores_in, table_reply, table_read, table_answer, table_numbers, table_bytes, wrote_table}

-- Reading finds the fault that checking finds: of the bytes of groups, right or wrong, every number one of 32 bits, it tells the first
-- of 4, 5, 8, 6, 7 that they meet, and where they meet none it gives them.
abbrev pub FaultsAreRead : Type 0
FaultsAreRead = (gs : List GroupPairs) → Fit (table_numbers gs) → read_table (table_bytes gs) ≡ and_then (check_table gs) λ right. accept gs

abbrev pub TablesReadBack : Type 0
TablesReadBack = (gs : List GroupPairs) → check_table gs ≡ passed → read_table (table_bytes gs) ≡ accept gs

-- What is read is right, whatever the numbers of the list that it is read from.
abbrev pub OnlyRightTables : Type 0
OnlyRightTables = (s : List ℕ) (gs : List GroupPairs) → read_table s ≡ accept gs → check_table gs ≡ passed

-- S-4: "an accepted file is exactly what the writer gives for its meaning": reading accepts just the bytes that are written for a right
-- table, and gives that table. Reader and writer are inverse to each other.
abbrev pub TablesAreWritten : Type 0
TablesAreWritten =
    (s : List ℕ) (gs : List GroupPairs) → AreBytes s → (read_table s ≡ accept gs) ↔ ((check_table gs ≡ passed) × (s ≡ table_bytes gs))

-- "so equal meanings have equal bytes"
abbrev pub EqualTablesEqualBytes : Type 0
EqualTablesEqualBytes =
    (s t : List ℕ) (gs : List GroupPairs) → AreBytes s → AreBytes t → read_table s ≡ accept gs → read_table t ≡ accept gs → s ≡ t

-- The same, of the record that reading answers with 0 and of what writing it leaves in a buffer with room: the very bytes.
abbrev pub TablesWrittenBack : Type 0
TablesWrittenBack =
    (s buffer : List ℕ) → AreBytes s → (table_answer (read_table s)).answer ≡ 0 → length s ≤ length buffer →
    wrote_table (groups_of (table_answer (read_table s)).table) buffer ≡ record { answer = accept (length s); buffer = s ++ drop (length s) buffer }

-- What the contract of reading says, a reply, is that number and that record.
abbrev pub RepliesAreRecords : Type 0
RepliesAreRecords = (s : List ℕ) (r : Reply Table) → r ≡ table_reply (read_table s) → table_read r ≡ table_answer (read_table s)

-- "A port stands once in a table": the places of its record are enough for the accesses of a right table.
abbrev pub AccessesFit : Type 0
AccessesFit = (gs : List GroupPairs) → check_table gs ≡ passed → (length (loads_in gs) ≤ 32) × (length (stores_in gs) ≤ 32)

-- The record that reading gives holds just the groups that were read, in its meaningful places.
abbrev pub RecordsHoldGroups : Type 0
RecordsHoldGroups = (gs : List GroupPairs) → check_table gs ≡ passed → groups_of (pack gs) ≡ gs
