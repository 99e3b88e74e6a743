-- The groups before the ith are passed; what is left to check is the rest, with the ports seen so far.
use mathlib.Core.Path.{◌≡◌, refl, sym, ◌∙◌}
use mathlib.Core.Bool.{true}
use native.Mathlib.Omega.{arith}
use borrow.Author.Rules.{rules}
use borrow.Author.Tests.{le-leb, lt-leb}
use lib.ListN.{get_or}
use Rattle.number.specs.Basics.{within}
use Rattle.table.specs.Group.{GroupPairs, pairs_of}
use Rattle.table.specs.Table.{groups_of, group_at}
use Rattle.table.proofs.CheckLaws.{passing-stop, passing-more, passing-end, groups-size}
use Rattle.table.proofs.CheckLaws.{group_at_lem, table-count, table-groups}
use Rattle.table.proofs.CheckLaws.{none_marked}
use Rattle.table.proofs.Table.check.Goals as goal
use Rattle.table.proofs.Table.check.Goals.{After-check_group, then-self-lt1-via-then-self-lt1, then-self-lt1-via-else-self-lt1+then-self-gt16}

abbrev group_of : After-check_group → GroupPairs
group_of c = pairs_of c.args.self.now.loads c.args.self.now.stores (group_at c.args.self.now.groups c.loop-i.i)

this : (c : After-check_group) → get_or (groups_of c.args.self.now) c.loop-i.i (group_of c) ≡ group_of c
this c = group_at_lem c.args.self.now (omega arith) c.loop-i.i c.loop-i-test.true (group_of c) refl

few : (c : After-check_group) → within 1 16 c.args.self.now.count ≡ true
few c = rw (le-leb 1 c.args.self.now.count (omega arith), le-leb c.args.self.now.count 16 (omega arith))

pub loop-i-init : goal.loop-i-init
loop-i-init c = rw (none_marked c.default-seen.ensures) record { is = refl }

pub returns-then-self-lt1 : goal.returns-then-self-lt1
returns-then-self-lt1 c =
    let n = c.args.self.now.count in
    sym (table-count c.args.self.now (elim c.then-self-lt1.branch [
      | then-self-lt1-via-then-self-lt1 w ↦ rw (lt-leb 1 n w.if-self-lt1.true)
      | then-self-lt1-via-else-self-lt1+then-self-gt16 w ↦
          rw (le-leb 1 n w.if-self-lt1.false, lt-leb n 16 w.if-self-gt16.true)
    ]))

pub returns-in_err-check_group : goal.returns-in_err-check_group
returns-in_err-check_group c =
    let p = (goal.at.returns-in_err-check_group c).After-check_group in
    let t = c.args.self.now in
    let stop = passing-stop c.loop-i.invariant (group_of p) (group_of p) (omega (arith, groups-size t, c.loop-i-test.true)) (this p)
    c.in_err-check_group.ensures in
    rw (table-groups t (few p), stop) (search rules)

pub loop-i-preserved : goal.loop-i-preserved
loop-i-preserved c =
    let p = (goal.at.loop-i-preserved c).After-check_group in
    let passed = c.in_ok-check_group.ensures in
    passing-more c.loop-i.invariant (group_of p) (group_of p) (omega (arith, groups-size c.args.self.now, c.loop-i-test.true)) (this p) passed.0 passed.1

pub returns : goal.returns
returns c =
    let t = c.args.self.now in
    let few : within 1 16 t.count ≡ true = rw (le-leb 1 t.count (omega arith), le-leb t.count 16 (omega arith)) in
    sym (table-groups t few ∙ passing-end c.loop-i.invariant (omega (arith, groups-size t, c.loop-i-test.false)))
