use Rattle.std.proofs.Common.{◌≡◌, ◌+◌, ◌∷◌, drop, sym, ◌∙◌}
use Rattle.table.specs.Group.{GroupPairs, pairs_of}
use Rattle.table.specs.Table.{groups_of}
use Rattle.queue.specs.Open.{group_fits}
use Rattle.queue.proofs.GroupLaws.{fits_record, groups-here}
use Rattle.queue.proofs.WalkLaws.{all-on, all-stop}
use Rattle.queue.proofs.opening.groups_fit.Goals as goal
use Rattle.queue.proofs.opening.groups_fit.Goals.{After-group_fits}

-- the group at this place, before those that are not looked at yet, and what the test says of it
abbrev meant : After-group_fits → GroupPairs
meant c = pairs_of c.args.table.now.loads c.args.table.now.stores c.group-group.result

here : (c : After-group_fits) → drop c.loop-i.i (groups_of c.args.table.now) ≡ meant c ∷ drop (c.loop-i.i + 1) (groups_of c.args.table.now)
here c = groups-here c.args.table.now c.requires c.loop-i.i c.loop-i-test.true c.group-group.ensures

fits : (c : After-group_fits) → group_fits c.args.load_depth c.args.store_depth (meant c) ≡ c.group_fits.result
fits c = fits_record c.args.load_depth c.args.store_depth c.args.table.now.loads c.args.table.now.stores c.group-group.result ∙ sym c.group_fits.ensures

pub returns-then-not-group_fits : goal.returns-then-not-group_fits
returns-then-not-group_fits c =
    let p = (goal.at.returns-then-not-group_fits c).After-group_fits in
    all-stop c.loop-i.invariant (here p) (fits p ∙ c.if-not-group_fits.true)

pub loop-i-preserved : goal.loop-i-preserved
loop-i-preserved c =
    let p = (goal.at.loop-i-preserved c).After-group_fits in
    all-on c.loop-i.invariant (here p) (fits p ∙ c.if-not-group_fits.false)
