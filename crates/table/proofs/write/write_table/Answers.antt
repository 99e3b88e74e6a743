-- 4 to 8 first, then the length, and only then the first byte.
use Prim.Native.Nat.{◌≤◌}
use mathlib.Core.Path.{◌≡◌, sym, ap}
use native.Mathlib.Omega.{arith}
use borrow.Author.Rules.{rules}
use Rattle.number.specs.Reply.{accept, passed}
use Rattle.table.specs.Table.{groups_of, check_table}
use Rattle.table.specs.TableBytes.{table_bytes, wrote_table}
use Rattle.table.proofs.CheckLaws.{groups-size}
use Rattle.number.proofs.SpliceLaws.{wrote-short, wrote-fits}
use Rattle.table.proofs.OrderOffsets.{table_groups_few}
use Rattle.table.proofs.write.write_table.Goals as goal
use Rattle.table.proofs.write.write_table.Goals.{In_ok-check}

right : (c : In_ok-check) → check_table (groups_of c.args.table.now) ≡ passed
right c = sym c.in_ok-check.ensures

few : (c : In_ok-check) → c.args.table.now.count ≤ 16
few c = let t = c.args.table.now in rw (groups-size t) at (table_groups_few (groups_of t) (right c))

pub returns-in_err-check : goal.returns-in_err-check
unfolding wrote_table
returns-in_err-check c = let refused = sym c.in_err-check.ensures in rw refused (search rules)

pub table_length-length-requires : goal.table_length-length-requires
table_length-length-requires c = few (goal.at.table_length-length-requires c).In_ok-check

pub returns-then-out-length : goal.returns-then-out-length
unfolding wrote_table
returns-then-out-length c =
    let a = c.args in
    rw (
      right (goal.at.returns-then-out-length c).In_ok-check,
      wrote-short (table_bytes (groups_of a.table.now)) a.out.now (omega (arith, c.table_length-length.ensures)),
    ) (search rules)

pub put_table-requires : goal.put_table-requires
put_table-requires c = (few (goal.at.put_table-requires c).In_ok-check, omega (arith, c.table_length-length.ensures))

pub returns : goal.returns
unfolding wrote_table
returns c =
    let a = c.args in
    rw (
      right (goal.at.returns c).In_ok-check,
      wrote-fits (table_bytes (groups_of a.table.now)) a.out.now (omega (arith, c.table_length-length.ensures)),
    ) (ap accept c.table_length-length.ensures, c.put_table.ensures)
