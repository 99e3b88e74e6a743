-- Both counts, then the loads, then the stores, whose rule goes by the loads that were read.
use mathlib.Core.Path.{◌≡◌, sym, ap, ap₂, ◌∙◌}
use mathlib.Core.Bool.{Bool, true}
use mathlib.Core.List.{List, map}
use native.Mathlib.Omega.{arith}
use borrow.Author.Rules.{rules}
use lib.ListN.{length, drop, length-map}
use Rattle.std.specs.Prelude.{Err}
use Rattle.table.specs.declared.read.Pairs.{Pairs}
use Rattle.table.specs.Packed.{pair_in}
use Rattle.table.specs.Table.{counts_right}
use Rattle.table.specs.Internal.{read_two}
use Rattle.number.proofs.RoundTrip.{read_refused}
use Rattle.table.proofs.CheckLaws.{counts-few, rising-checked}
use Rattle.table.proofs.ReadLaws.{TwoGot, two-answer, group-two}
use Rattle.table.proofs.RoundTrip.{pairs-written}
use Rattle.table.proofs.read.read_group.Goals as goal
use Rattle.table.proofs.read.read_group.Goals.{After-counts_right, After-read_pairs}

counts : (c : After-counts_right) → TwoGot c.args.bytes.now c.args.at c.in_ok-load_count.load_count c.in_ok-load_count.store_count c.in_ok-load_count.place
counts c = two-answer c.args.bytes.now c.args.at c.in_ok-load_count.ensures

right : (c : After-read_pairs) → counts_right c.in_ok-load_count.load_count c.in_ok-load_count.store_count ≡ true
right c = sym c.counts_right.ensures ∙ c.if-not-counts_right.false

pub returns-in_err-load_count : goal.returns-in_err-load_count
returns-in_err-load_count c =
    let a = c.args in
    let two = read_two (drop a.at a.bytes.now) in
    let e = read_refused a.bytes.now two c.in_err-load_count.ensures in
    let r : c.from_residual.result ≡ Err c.in_err-load_count.field-0.0 = search rules in
    rw r (group-two _ _ ∙ rw e)

pub returns-then-not-counts_right : goal.returns-then-not-counts_right
returns-then-not-counts_right c =
    let wrong = sym c.counts_right.ensures ∙ c.if-not-counts_right.true in
    group-two _ _ ∙ rw ((counts (goal.at.returns-then-not-counts_right c).After-counts_right).is, wrong)

pub returns-in_err-loads : goal.returns-in_err-loads
returns-in_err-loads c =
    let g = goal.at.returns-in_err-loads c in
    let r : c.from_residual-in_err-loads.result ≡ Err c.in_err-loads.field-0.0 = search rules in
    rw r (group-two _ _ ∙ rw ((counts g.After-counts_right).is, right g.After-read_pairs, c.in_err-loads.ensures))

pub read_pairs-requires-2 : goal.read_pairs-requires-2
read_pairs-requires-2 c =
    let few = counts-few c.in_ok-load_count.load_count c.in_ok-load_count.store_count (right (goal.at.read_pairs-requires-2 c).After-read_pairs) in
    let loads = c.in_ok-loads.ensures in
    let loads_right = pairs-written _ _ _ _ _ _ loads.is in
    let same : map pair_in c.numbers.result.now ≡ loads.what = c.numbers.ensures.pairs ∙ loads.found.holds in
    let size : length c.numbers.result.now ≡ length loads.what = sym (length-map c.numbers.result.now pair_in) ∙ ap length same in
    (few.1, loads.inside, (omega (arith, size, loads_right.many, few.0), rw same (rising-checked _ _ _ _ _ loads_right.right)))

pub returns-in_err-stores : goal.returns-in_err-stores
returns-in_err-stores c =
    let g = goal.at.returns-in_err-stores c in
    let loads = c.in_ok-loads.ensures in
    let same : map pair_in c.numbers.result.now ≡ loads.what = c.numbers.ensures.pairs ∙ loads.found.holds in
    let wrong = rw same at c.in_err-stores.ensures in
    let r : c.from_residual-in_err-stores.result ≡ Err c.in_err-stores.field-0.0 = search rules in
    rw r (group-two _ _ ∙ rw ((counts g.After-counts_right).is, right g.After-read_pairs, loads.is, wrong))

pub returns : goal.returns
returns c =
    let g = goal.at.returns c in
    let loads = c.in_ok-loads.ensures in
    let stores = c.in_ok-stores.ensures in
    let same : map pair_in c.numbers.result.now ≡ loads.what = c.numbers.ensures.pairs ∙ loads.found.holds in
    let is = rw same at stores.is in
    record {
      what = record { loads = loads.what; stores = stores.what };
      is = group-two _ _ ∙ rw ((counts g.After-counts_right).is, right g.After-read_pairs, loads.is, is);
      inside = stores.inside;
      found = record {
        group = ap₂ (λ (x y : Pairs). record { loads = x; stores = y }) loads.found.pairs stores.found.pairs;
        marks = ap₂ (λ (x y : List Bool). record { loads = x; stores = y }) loads.found.marks stores.found.marks;
      };
    }
