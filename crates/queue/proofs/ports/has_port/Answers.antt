use Rattle.std.proofs.Common.{◌≡◌, ◌+◌, ◌∷◌, drop, sym, ◌∙◌}
use Rattle.table.specs.Group.{pairs_of}
use Rattle.table.specs.Table.{groups_of}
use Rattle.table.proofs.CheckLaws.{group-inside}
use Rattle.queue.proofs.GroupLaws.{groups-here}
use Rattle.queue.proofs.WalkLaws.{none-on, none-stop}
use Rattle.queue.proofs.ports.has_port.Goals as goal
use Rattle.queue.proofs.ports.has_port.Goals.{After-group_names}

-- the group at this place stands before those that are not looked at yet
here : (c : After-group_names) → drop c.loop-i.i (groups_of c.args.table.now)
    ≡ pairs_of c.args.table.now.loads c.args.table.now.stores c.group-group.result ∷ drop (c.loop-i.i + 1) (groups_of c.args.table.now)
here c = groups-here c.args.table.now c.requires c.loop-i.i c.loop-i-test.true c.group-group.ensures

pub group_names-requires : goal.group_names-requires
group_names-requires c = group-inside _ _ c.group-group.ensures

pub returns-then-group_names : goal.returns-then-group_names
returns-then-group_names c =
    none-stop c.loop-i.invariant (here (goal.at.returns-then-group_names c).After-group_names) (sym c.group_names.ensures ∙ c.if-group_names.true)

pub loop-i-preserved : goal.loop-i-preserved
loop-i-preserved c =
    none-on c.loop-i.invariant (here (goal.at.loop-i-preserved c).After-group_names) (sym c.group_names.ensures ∙ c.if-group_names.false)
