-- Fields, group count, groups, and nothing left over.
use Prim.Native.Nat.{ℕ, ◌-◌, ◌≤◌}
use mathlib.Core.Path.{◌≡◌, ap, ◌∙◌}
use mathlib.Core.List.{List}
use native.Mathlib.Omega.{arith}
use borrow.Author.Rules.{rules}
use borrow.Author.Tests.{le-leb, lt-leb, eq-eqb, ne_eqb}
use lib.Dec.{eqb}
use lib.ListN.{length, drop, length-drop}
use Rattle.number.specs.Basics.{within}
use Rattle.number.specs.Refusal.{bad_group_count, left_over}
use Rattle.number.specs.Reply.{Reply, accept, need}
use Rattle.number.specs.Number.{then_read}
use Rattle.table.specs.Group.{GroupPairs}
use Rattle.table.specs.Table.{none_seen}
use Rattle.table.specs.TableBytes.{read_groups, read_table}
use Rattle.number.proofs.RoundTrip.{number_got, number_refused}
use Rattle.table.proofs.read.read_table.Goals as goal
use Rattle.table.proofs.read.read_table.Goals.{In_ok-count, then-count-lt1-via-then-count-lt1, then-count-lt1-via-else-count-lt1+then-count-gt16}

-- what follows both numbers, and what follows the test of the group count
abbrev groups_then : ℕ → List ℕ → Reply (List GroupPairs)
groups_then n s = then_read (read_groups n none_seen s) λ gs rest. need (eqb (length rest) 0) left_over (accept gs)

counted : (c : In_ok-count) → let n = c.in_ok-count.count in read_table c.args.bytes.now
    ≡ need (within 1 16 n) bad_group_count (groups_then n (drop c.in_ok-count.place c.args.bytes.now))
unfolding read_table
counted c =
    let fields = number_got c.args.bytes.now 0 c.in_ok-fields.ensures in
    let count = number_got c.args.bytes.now c.in_ok-fields.place c.in_ok-count.ensures in
    rw (fields.is, eq-eqb _ _ c.if-fields-ne2.false, count.is)

few : (c : In_ok-count) → let n = c.in_ok-count.count in 1 ≤ n → n ≤ 16
    → read_table c.args.bytes.now ≡ groups_then n (drop c.in_ok-count.place c.args.bytes.now)
few c some most = counted c ∙ rw (le-leb 1 c.in_ok-count.count some, le-leb c.in_ok-count.count 16 most)

pub returns-in_err-fields : goal.returns-in_err-fields
unfolding read_table
returns-in_err-fields c = rw (number_refused c.args.bytes.now 0 c.in_err-fields.ensures) (search rules)

pub returns-then-fields-ne2 : goal.returns-then-fields-ne2
unfolding read_table
returns-then-fields-ne2 c =
    let fields = number_got c.args.bytes.now 0 c.in_ok-fields.ensures in
    rw (fields.is, ne_eqb _ _ c.if-fields-ne2.true)

pub returns-in_err-count : goal.returns-in_err-count
unfolding read_table
returns-in_err-count c =
    let s = c.args.bytes.now in
    let fields = number_got s 0 c.in_ok-fields.ensures in
    let wrong = number_refused s c.in_ok-fields.place c.in_err-count.ensures in
    rw (fields.is, eq-eqb _ _ c.if-fields-ne2.false, wrong) (search rules)

pub returns-then-count-lt1 : goal.returns-then-count-lt1
returns-then-count-lt1 c =
    let n = c.in_ok-count.count in
    rw (counted (goal.at.returns-then-count-lt1 c).In_ok-count) (elim c.then-count-lt1.branch [
      | then-count-lt1-via-then-count-lt1 w ↦ rw (lt-leb 1 n w.if-count-lt1.true)
      | then-count-lt1-via-else-count-lt1+then-count-gt16 w ↦
          rw (le-leb 1 n w.if-count-lt1.false, lt-leb n 16 w.if-count-gt16.true)
    ])

pub returns-in_err-table : goal.returns-in_err-table
returns-in_err-table c = rw (few (goal.at.returns-in_err-table c).In_ok-count c.if-count-lt1.false c.if-count-gt16.false, c.in_err-table.ensures) (search rules)

pub returns-then-place-bytes : goal.returns-then-place-bytes
returns-then-place-bytes c =
    let rest = drop c.in_ok-table.place c.args.bytes.now in
    let left : length rest ≡ length c.args.bytes.now - c.in_ok-table.place = length-drop c.in_ok-table.place c.args.bytes.now in
    let groups = c.in_ok-table.ensures in
    let some = ne_eqb (length rest) 0 (λ z. c.if-place-bytes.true (omega (arith, left, z, groups.inside))) in
    rw (few (goal.at.returns-then-place-bytes c).In_ok-count c.if-count-lt1.false c.if-count-gt16.false, groups.is, some)

pub returns : goal.returns
returns c =
    let rest = drop c.in_ok-table.place c.args.bytes.now in
    let left : length rest ≡ length c.args.bytes.now - c.in_ok-table.place = length-drop c.in_ok-table.place c.args.bytes.now in
    let groups = c.in_ok-table.ensures in
    let none = eq-eqb (length rest) 0 (omega (arith, left, c.if-place-bytes.false)) in
    rw (few (goal.at.returns c).In_ok-count c.if-count-lt1.false c.if-count-gt16.false, groups.is, none) (ap accept groups.found)
