-- Each test that is left behind is a step of the rule; the test that fails is its refusal.
use Rattle.std.proofs.Common.{◌≡◌, ◌≤◌, length, sym, ◌∙◌, length-take-le, rules}
use Rattle.number.specs.Basics.{any_of}
use Rattle.table.specs.Table.{groups_of}
use Rattle.queue.specs.declared.Queue.{Queue}
use Rattle.queue.specs.Contents.{contents_of}
use Rattle.queue.specs.Arguments.{kind_of, names_port, give}
use Rattle.queue.specs.Parts.{queue_of_kind}
use Rattle.queue.specs.Internal.{Checked}
use Rattle.queue.proofs.SoundLaws.{table-right}
use Rattle.queue.proofs.ArgumentLaws.{give_record, side_for, own_room, gives}
use Rattle.queue.proofs.PartsLaws.{full, unfit}
use Rattle.queue.proofs.GroupLaws.{groups-few}
use Rattle.queue.proofs.arguments.give_in.Goals as goal
use Rattle.queue.proofs.arguments.give_in.Goals.{After-check_parts_of, In_ok-check_parts_of, After-has_port, After-side-held}

-- the parts by a kind are a queue's, which is sound where the check passed
abbrev queue : After-check_parts_of → Queue
queue c = queue_of_kind (kind_of c.args.argument) c.args.frame.now c.args.own_entries.now c.args.other_entries.now

good : (c : In_ok-check_parts_of) → let q = queue (goal.at.In_ok-check_parts_of c).After-check_parts_of in Checked q.frame q.load_entries q.store_entries
good c = rw c.kind_of-kind.ensures at c.in_ok-check_parts_of.ensures

-- whether the port is named, as the rule asks
looked : (c : After-has_port) → c.has_port.result ≡ any_of (names_port (kind_of c.args.argument) c.args.port) (groups_of c.args.frame.now.table)
looked c = rw c.kind_of-kind.ensures at c.has_port.ensures

-- its own side, whose entries its own run has room for
side : (c : After-side-held) → c.side-held.result ≡ side_for c.args.argument c.args.frame.now
side c = rw c.kind_of-kind.ensures at c.side-held.ensures

room : (c : After-side-held) → c.side-held.result.count ≤ length c.args.own_entries.now
room c =
    let a = c.args in
    rw (side c) (own_room a.argument a.frame.now a.own_entries.now a.other_entries.now (good (goal.at.After-side-held c).In_ok-check_parts_of))

pub returns-in_err-check_parts_of : goal.returns-in_err-check_parts_of
returns-in_err-check_parts_of c =
    let q = queue (goal.at.returns-in_err-check_parts_of c).After-check_parts_of in
    let a = c.args in
    rw (unfit q (give a.argument (contents_of q) a.port a.number) _ (rw c.kind_of-kind.ensures at c.in_err-check_parts_of.ensures)
    (λ e. rw (give_record a.argument q a.port a.number, e)))
    (search rules)

pub has_port-requires : goal.has_port-requires
has_port-requires c =
    let g = (goal.at.has_port-requires c).In_ok-check_parts_of in
    let q = queue (goal.at.has_port-requires c).After-check_parts_of in
    groups-few c.args.frame.now.table (table-right q (good g).right)

pub returns-then-not-has_port : goal.returns-then-not-has_port
returns-then-not-has_port c =
    let fit = good (goal.at.returns-then-not-has_port c).In_ok-check_parts_of in
    let q = queue (goal.at.returns-then-not-has_port c).After-check_parts_of in
    let h = (goal.at.returns-then-not-has_port c).After-has_port in
    let a = c.args in
    rw (full fit, give_record a.argument q a.port a.number, fit.right, sym (looked h) ∙ c.if-not-has_port.true)

pub returns-then-not-in_range : goal.returns-then-not-in_range
returns-then-not-in_range c =
    let fit = good (goal.at.returns-then-not-in_range c).In_ok-check_parts_of in
    let q = queue (goal.at.returns-then-not-in_range c).After-check_parts_of in
    let h = (goal.at.returns-then-not-in_range c).After-has_port in
    let a = c.args in
    rw (
      full fit,
      give_record a.argument q a.port a.number,
      fit.right,
      sym (looked h) ∙ c.if-not-has_port.false,
      sym c.in_range.ensures ∙ c.if-not-in_range.true,
    )

pub slice_bounds-give_oldest-end : goal.slice_bounds-give_oldest-end
slice_bounds-give_oldest-end c = room (goal.at.slice_bounds-give_oldest-end c).After-side-held

pub slice_bounds-give_oldest-end-2 : goal.slice_bounds-give_oldest-end-2
slice_bounds-give_oldest-end-2 c = sym (length-take-le _ _ (room (goal.at.slice_bounds-give_oldest-end-2 c).After-side-held))

pub returns : goal.returns
returns c =
    let fit = good (goal.at.returns c).In_ok-check_parts_of in
    let q = queue (goal.at.returns c).After-check_parts_of in
    let h = (goal.at.returns c).After-has_port in
    let s = (goal.at.returns c).After-side-held in
    let a = c.args in
    rw (
      full fit,
      give_record a.argument q a.port a.number,
      fit.right,
      sym (looked h) ∙ c.if-not-has_port.false,
      sym c.in_range.ensures ∙ c.if-not-in_range.false,
    )
    (rw (side s)
    (gives a.argument a.frame.now a.own_entries.now a.other_entries.now (rw (side s) at (room s)) (rw (side s) at c.give_oldest.ensures)))
