use Prim.Native.Nat.{◌≤◌, ◌*◌}
use Rattle.table.specs.Table.{groups_of}
use Rattle.table.specs.TableBytes.{group_numbers}
use Rattle.table.proofs.WriteLaws.{Tallied}
use Rattle.table.proofs.write.table_length.Given as goal

abbrev pub invariant-loop-i : goal.invariant-loop-i
invariant-loop-i l = (l.total ≤ 650 * l.i) × Tallied group_numbers (groups_of l.table) l.i l.total
