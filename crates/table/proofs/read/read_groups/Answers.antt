-- i groups have been read into the table; what is left to read is the rest, with the ports seen so far.
use mathlib.Core.Path.{◌≡◌}
use borrow.Author.Rules.{rules}
use Rattle.std.specs.Prelude.{Err}
use Rattle.table.specs.Internal.{Growing}
use Rattle.table.proofs.CheckLaws.{none_marked}
use Rattle.table.proofs.ReadLaws.{gathering_none, gathering-refused, gathering-room, gathering-more, gathering-end}
use Rattle.table.proofs.RoundTrip.{group-written}
use Rattle.table.proofs.read.read_groups.Goals as goal
use Rattle.table.proofs.read.read_groups.Goals.{In_ok-group}

-- the ports seen leave room for the group
room : (c : In_ok-group) → Growing c.loop.gathered c.in_ok-group.group
room c =
    let group = c.in_ok-group.ensures in
    gathering-room c.loop.invariant c.loop-test.true c.requires.0 group (group-written _ _ group.is).right

pub loop-init : goal.loop-init
loop-init c = rw (none_marked c.default-seen.ensures) (gathering_none c.requires.1 c.none.ensures)

pub returns-in_err-group : goal.returns-in_err-group
returns-in_err-group c =
    let r : c.from_residual.result ≡ Err c.in_err-group.field-0.0 = search rules in
    rw r (gathering-refused c.loop.invariant c.loop-test.true c.in_err-group.ensures)

pub push-requires : goal.push-requires
push-requires c = room (goal.at.push-requires c).In_ok-group

pub loop-preserved : goal.loop-preserved
loop-preserved c =
    let group = c.in_ok-group.ensures in
    gathering-more c.loop.invariant c.loop-test.true c.requires.0 group (group-written _ _ group.is).right c.push.ensures

pub returns : goal.returns
returns c =
    let w = c.loop.invariant in
    let e = gathering-end w c.loop-test.false in
    record { what = w.done; is = e.0; inside = w.inside; found = e.1 }
