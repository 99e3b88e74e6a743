-- Each test that is left behind is a step of the rule; the test that fails is its refusal.
use Rattle.std.proofs.Common.{◌≡◌, ◌<◌, true, get_or, sym, refl, ap, ◌∙◌, le_trans, length-set, arith, rules}
use borrow.Author.Tests.{not-true, not-false}
use Rattle.number.specs.Basics.{any_of}
use Rattle.table.specs.Table.{groups_of}
use Rattle.queue.specs.declared.Queue.{Queue}
use Rattle.queue.specs.declared.Entry.{Entry as EntryStruct}
use Rattle.queue.specs.declared.Kind.TheVariants.{Load as load}
use Rattle.queue.specs.Entry.{number_of, entry_in, mark_finished}
use Rattle.queue.specs.Contents.{contents_of, first_place, entries_held}
use Rattle.queue.specs.Arguments.{names_port}
use Rattle.queue.specs.Take.{untaken, take_rule}
use Rattle.queue.specs.Retire.{retire}
use Rattle.queue.specs.Parts.{queue_of}
use Rattle.queue.specs.Internal.{set_finished}
use Rattle.queue.proofs.EntryLaws.{finished_number}
use Rattle.queue.proofs.ContentsLaws.{side-anew, mapped-length}
use Rattle.queue.proofs.SoundLaws.{table-right}
use Rattle.queue.proofs.TakeLaws.{take-unsound, take-no-port, take_none, take-unserved, take-served}
use Rattle.queue.proofs.PartsLaws.{full, loads-room, stores-room, unfit}
use Rattle.queue.proofs.GroupLaws.{groups-few}
use Rattle.queue.proofs.taking.take_in.Goals as goal
use Rattle.queue.proofs.taking.take_in.Goals.{After-check_parts, After-has_port, In-Some}

-- the queue of these parts
abbrev queue : After-check_parts → Queue
queue c = queue_of c.args.frame.now c.args.load_entries.now c.args.store_entries.now

-- the port is named, and the place of its oldest untaken load is one of the queue
port : (c : After-has_port) → c.has_port.result ≡ true → any_of (names_port load c.args.port) (groups_of c.args.frame.now.table) ≡ true
port c e = sym c.has_port.ensures ∙ e

place : (c : In-Some) → c.in-Some.at ≡ first_place (untaken c.args.port) (entries_held c.args.frame.now.loads.count c.args.load_entries.now)
place c = sym c.in-Some.ensures.0 ∙ ap (first_place (untaken c.args.port)) c.held.ensures.entries

held : (c : In-Some) → c.in-Some.at < c.args.frame.now.loads.count
held c = rw (c.held.ensures.entries, mapped-length entry_in 0 c.args.frame.now.loads.count c.args.load_entries.now) at c.in-Some.ensures.1

pub has_port-requires : goal.has_port-requires
has_port-requires c =
    let q = queue (goal.at.has_port-requires c).After-check_parts in
    groups-few c.args.frame.now.table (table-right q c.in_ok-check_parts.ensures.right)

pub returns-in_err-check_parts-clause-takes : goal.returns-in_err-check_parts-clause-takes
returns-in_err-check_parts-clause-takes c =
    let q = queue (goal.at.returns-in_err-check_parts-clause-takes c).After-check_parts in
    rw (unfit q (take_rule (contents_of q) c.args.port) _ c.in_err-check_parts.ensures (take-unsound q c.args.port)) (search rules)

pub returns-then-not-has_port-clause-takes : goal.returns-then-not-has_port-clause-takes
returns-then-not-has_port-clause-takes c =
    let p = (goal.at.returns-then-not-has_port-clause-takes c).After-check_parts in
    let fit = c.in_ok-check_parts.ensures in
    rw (full fit, take-no-port (queue p) c.args.port fit.right (sym c.has_port.ensures ∙ c.if-not-has_port.true))

pub held-requires : goal.held-requires
held-requires c = loads-room c.in_ok-check_parts.ensures

pub returns-in_default-clause-takes : goal.returns-in_default-clause-takes
returns-in_default-clause-takes c =
    let p = (goal.at.returns-in_default-clause-takes c).After-check_parts in
    let h = (goal.at.returns-in_default-clause-takes c).After-has_port in
    let fit = c.in_ok-check_parts.ensures in
    let n = c.args.frame.now.loads.count in
    let size = mapped-length entry_in 0 n c.args.load_entries.now in
    let past : first_place (untaken c.args.port) (entries_held n c.args.load_entries.now) ≡ n = rw (c.held.ensures.entries, size) at c.in_default.ensures in
    rw (full fit, take_none (queue p) c.args.port fit.right (port h c.if-not-has_port.false) n (sym past) (omega arith))

pub bounds-load_entries-at : goal.bounds-load_entries-at
bounds-load_entries-at c = le_trans (held (goal.at.bounds-load_entries-at c).In-Some) (loads-room c.in_ok-check_parts.ensures)

pub returns-then-not-load-clause-takes : goal.returns-then-not-load-clause-takes
returns-then-not-load-clause-takes c =
    let p = (goal.at.returns-then-not-load-clause-takes c).After-check_parts in
    let h = (goal.at.returns-then-not-load-clause-takes c).After-has_port in
    let i = (goal.at.returns-then-not-load-clause-takes c).In-Some in
    let fit = c.in_ok-check_parts.ensures in
    rw (
      full fit,
      take-unserved (queue p) c.args.port fit.right (port h c.if-not-has_port.false) c.in-Some.at (place i) (held i) c.unpack-load.result
          (sym c.unpack-load.ensures) (not-true c.unpack-load.result.filled c.if-not-load.true),
    )

pub bounds-load_entries-at-2 : goal.bounds-load_entries-at-2
bounds-load_entries-at-2 c = le_trans (held (goal.at.bounds-load_entries-at-2 c).In-Some) (loads-room c.in_ok-check_parts.ensures)

pub retire-requires-clause-loads : goal.retire-requires-clause-loads
retire-requires-clause-loads c = rw (length-set c.args.load_entries.now c.in-Some.at c.pack.result) (loads-room c.in_ok-check_parts.ensures)

pub retire-requires-clause-stores : goal.retire-requires-clause-stores
retire-requires-clause-stores c = stores-room c.in_ok-check_parts.ensures

pub returns-clause-takes : goal.returns-clause-takes
returns-clause-takes c =
    let p = (goal.at.returns-clause-takes c).After-check_parts in
    let h = (goal.at.returns-clause-takes c).After-has_port in
    let i = (goal.at.returns-clause-takes c).In-Some in
    let fit = c.in_ok-check_parts.ensures in
    let taken : entry_in c.pack.result ≡ mark_finished (entry_in (get_or c.args.load_entries.now c.in-Some.at 0)) =
    finished_number (get_or c.args.load_entries.now c.in-Some.at 0)
    (c.pack.ensures ∙ ap (λ (e : EntryStruct). number_of (set_finished e)) c.unpack-load.ensures) in
    rw (
      full fit,
      take-served (queue p) c.args.port fit.right (port h c.if-not-has_port.false) c.in-Some.at (place i) (held i) c.unpack-load.result
          (sym c.unpack-load.ensures) (not-false c.unpack-load.result.filled c.if-not-load.false),
    )
    (record {
      answer = refl;
      gives = refl;
      holds = c.retire.ensures.retires
          ∙ ap retire (side-anew load (queue p) c.in-Some.at (loads-room fit) (held i)
          (record { number = c.pack.result; holds = taken; leaves = refl }));
    })
