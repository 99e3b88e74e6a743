-- Each test that is left behind is a step of the rule; the test that fails is its refusal.
use Rattle.std.proofs.Common.{◌≡◌, true, sym, refl, ◌∙◌, rules}
use mathlib.Core.Option.{none}
use Rattle.number.specs.Refusal.{no_place}
use Rattle.number.specs.Reply.{accept, need}
use Rattle.table.specs.Group.{GroupPairs, pairs_of}
use Rattle.table.proofs.CheckLaws.{group-inside}
use Rattle.table.proofs.OrderOffsets.{GroupRight}
use Rattle.queue.specs.declared.Queue.{Queue}
use Rattle.queue.specs.declared.Kind.TheVariants as Kind
use Rattle.queue.specs.Contents.{contents_of}
use Rattle.queue.specs.Sound.{sound}
use Rattle.queue.specs.Activate.{room, with_group, activate}
use Rattle.queue.specs.Parts.{queue_of}
use Rattle.queue.specs.Internal.{PairsFit}
use Rattle.queue.proofs.PartsLaws.{full, unfit}
use Rattle.queue.proofs.SoundLaws.{table-right, count_most}
use Rattle.queue.proofs.GroupLaws.{groups-few, group-right}
use Rattle.queue.proofs.ActivateLaws.{with_group_is, room-record, loads-size, stores-size, appended-both, loads-fit, stores-fit}
use Rattle.queue.proofs.ActivateLaws.{activate-unsound, activate-no-group, activate-group}
use Rattle.queue.proofs.activation.activate_in.Goals as goal
use Rattle.queue.proofs.activation.activate_in.Goals.{After-has_room}

-- the queue of these parts, and the group that was chosen
abbrev queue : After-has_room → Queue
queue c = queue_of c.args.frame.now c.args.load_entries.now c.args.store_entries.now

abbrev meant : After-has_room → GroupPairs
meant c = pairs_of c.args.frame.now.table.loads c.args.frame.now.table.stores c.group-chosen.result

good : (c : After-has_room) → sound (contents_of (queue c)) ≡ true
good c = c.in_ok-check_parts.ensures.right

good_group : (c : After-has_room) → GroupRight (meant c)
good_group c =
    let t = table-right (queue c) (good c) in
    group-right c.args.frame.now.table (groups-few c.args.frame.now.table t) c.args.group c.if-frame-group.false c.group-chosen.ensures t

-- what the rule says of it, and that there is a place for it where the test says so
rule : (c : After-has_room) → activate (contents_of (queue c)) c.args.group
    ≡ need (room (contents_of (queue c)) (meant c)) no_place (accept (with_group (contents_of (queue c)) (meant c)))
rule c = activate-group (queue c) c.args.group (good c) c.if-frame-group.false c.group-chosen.ensures

has_place : (c : After-has_room) → room (contents_of (queue c)) (meant c) ≡ c.has_room.result
has_place c = room-record (queue c) c.group-chosen.result ∙ sym c.has_room.ensures

loads_fit : (c : After-has_room) → c.has_room.result ≡ true → PairsFit c.args.frame.now.loads.count (meant c).loads
loads_fit c e = loads-fit (queue c) c.group-chosen.result (good c) (good_group c) (has_place c ∙ e)

stores_fit : (c : After-has_room) → c.has_room.result ≡ true → PairsFit c.args.frame.now.stores.count (meant c).stores
stores_fit c e = stores-fit (queue c) c.group-chosen.result (good c) (good_group c) (has_place c ∙ e)

pub returns-in_err-check_parts-clause-moves : goal.returns-in_err-check_parts-clause-moves
returns-in_err-check_parts-clause-moves c =
    let q : Queue = queue_of c.args.frame.now c.args.load_entries.now c.args.store_entries.now in
    rw (unfit q (activate (contents_of q) c.args.group) _ c.in_err-check_parts.ensures (activate-unsound (contents_of q) c.args.group)) (search rules)

pub returns-then-frame-group-clause-moves : goal.returns-then-frame-group-clause-moves
returns-then-frame-group-clause-moves c =
    let fit = c.in_ok-check_parts.ensures in
    let q : Queue = queue_of c.args.frame.now c.args.load_entries.now c.args.store_entries.now in
    rw (full fit, activate-no-group q c.args.group fit.right c.if-frame-group.true)

pub returns-then-not-has_room-clause-moves : goal.returns-then-not-has_room-clause-moves
returns-then-not-has_room-clause-moves c =
    let p = (goal.at.returns-then-not-has_room-clause-moves c).After-has_room in
    rw (full c.in_ok-check_parts.ensures, rule p, has_place p ∙ c.if-not-has_room.true)

pub append-requires : goal.append-requires
append-requires c =
    let p = (goal.at.append-requires c).After-has_room in
    rw (c.among-new_loads.ensures.pairs (group-inside _ _ c.group-chosen.ensures).0)
    (loads_fit p c.if-not-has_room.false, count_most (queue p) (good p) Kind.Store, c.in_ok-check_parts.ensures.loads_whole)

pub append-requires-2 : goal.append-requires-2
append-requires-2 c =
    let p = (goal.at.append-requires-2 c).After-has_room in
    rw (c.among-new_stores.ensures.pairs (group-inside _ _ c.group-chosen.ensures).1)
    (stores_fit p c.if-not-has_room.false, count_most (queue p) (good p) Kind.Load, c.in_ok-check_parts.ensures.stores_whole)

pub lengthen-requires : goal.lengthen-requires
lengthen-requires c =
    let p = (goal.at.lengthen-requires c).After-has_room in
    rw (loads-size (queue p) c.group-chosen.result) at (loads_fit p c.if-not-has_room.false).room

pub lengthen-requires-2 : goal.lengthen-requires-2
lengthen-requires-2 c =
    let p = (goal.at.lengthen-requires-2 c).After-has_room in
    rw (stores-size (queue p) c.group-chosen.result) at (stores_fit p c.if-not-has_room.false).room

pub returns-clause-moves : goal.returns-clause-moves
returns-clause-moves c =
    let p = (goal.at.returns-clause-moves c).After-has_room in
    rw (full c.in_ok-check_parts.ensures, rule p, has_place p ∙ c.if-not-has_room.false)
    (record {
      answer = refl {a = 0};
      gives = refl {a = none};
      holds = rw (c.lengthen.ensures, c.lengthen-2.ensures)
          (appended-both (queue p) c.group-chosen.result (rw (c.among-new_loads.ensures.pairs (group-inside _ _ c.group-chosen.ensures).0) at c.append.ensures)
          (rw (c.among-new_stores.ensures.pairs (group-inside _ _ c.group-chosen.ensures).1) at c.append-2.ensures)
          ∙ with_group_is (contents_of (queue p)) (meant p) (good_group p));
    })
