-- The store's rule looks into the loads, which the first half of the check has found to rise.
use mathlib.Core.Path.{◌≡◌, sym, ap₂, ◌∙◌}
use mathlib.Core.Bool.{Bool, true}
use mathlib.Core.List.{List}
use native.Mathlib.Omega.{arith}
use borrow.Author.Rules.{rules}
use Rattle.std.specs.Prelude.{Err}
use Rattle.table.specs.Table.{counts_right}
use Rattle.table.specs.Internal.{seen_of, GroupInside}
use Rattle.table.proofs.CheckLaws.{group-inside, counts-few, rising-checked, among-length, group-counts, group-loads, group-stores, checks-last}
use Rattle.table.proofs.check.check_group.Goals as goal
use Rattle.table.proofs.check.check_group.Goals.{After-within-loads, After-group-group}

inside : (c : After-group-group) → GroupInside c.group-group.result
inside c = group-inside c.args.table.now.groups c.args.i c.group-group.ensures

right : (c : After-within-loads) → counts_right c.group-group.result.loads.count c.group-group.result.stores.count ≡ true
right c = sym c.counts_right.ensures ∙ c.if-not-counts_right.false

pub returns-then-not-counts_right : goal.returns-then-not-counts_right
returns-then-not-counts_right c =
    let a = c.args in
    rw (sym c.group-group.ensures) (group-counts a.table.now.loads a.table.now.stores c.group-group.result (seen_of a.seen.now) (sym c.counts_right.ensures ∙ c.if-not-counts_right.true))

pub within-loads-requires : goal.within-loads-requires
within-loads-requires c = (inside (goal.at.within-loads-requires c).After-group-group).0

pub within-stores-requires : goal.within-stores-requires
within-stores-requires c = (inside (goal.at.within-stores-requires c).After-group-group).1

pub check_pairs-requires : goal.check_pairs-requires
check_pairs-requires c = (counts-few _ _ (right (goal.at.check_pairs-requires c).After-within-loads)).1

pub returns-in_err-check_pairs : goal.returns-in_err-check_pairs
returns-in_err-check_pairs c =
    let a = c.args in
    let r : c.from_residual.result ≡ Err c.in_err-check_pairs.field-0.0 = search rules in
    let fault = rw c.within-loads.ensures at c.in_err-check_pairs.ensures in
    rw (r, sym c.group-group.ensures) (group-loads a.table.now.loads a.table.now.stores c.group-group.result (seen_of a.seen.now)
    (right (goal.at.returns-in_err-check_pairs c).After-within-loads) fault)

pub check_pairs-requires-2 : goal.check_pairs-requires-2
check_pairs-requires-2 c =
    let few = counts-few c.group-group.result.loads.count c.group-group.result.stores.count (right (goal.at.check_pairs-requires-2 c).After-within-loads) in
    let size = among-length c.within-loads.result.now c.args.table.now.loads c.group-group.result.loads c.within-loads.ensures in
    let loads = c.in_ok-check_pairs.ensures in
    (omega (arith, few.0, size), rising-checked _ _ _ _ _ loads.0)

pub returns : goal.returns
returns c =
    let a = c.args in
    let passed = c.in_ok-check_pairs.ensures in
    let stores = rw (c.within-loads.ensures, c.within-stores.ensures) at c.check_pairs-2.ensures in
    let loads = rw c.within-loads.ensures at passed.0 in
    let marks = rw c.within-loads.ensures at passed.1 in
    rw (sym c.group-group.ensures) (checks-last c.check_pairs-2.result
    (group-stores a.table.now.loads a.table.now.stores c.group-group.result (seen_of a.seen.now) (right (goal.at.returns c).After-within-loads) loads)
    (λ e. ap₂ (λ (x y : List Bool). record { loads = x; stores = y }) marks e) stores)
