use mathlib.Core.Path.{◌≡◌, refl, sym, ◌∙◌}
use mathlib.Core.Bool.{Bool}
use native.Mathlib.Omega.{arith}
use borrow.Author.Rules.{rules}
use lib.ListN.{length}
use Rattle.queue.specs.Contents.{contents_of}
use Rattle.replay.specs.Replay.{fits}
use Rattle.replay.proofs.EventLaws.{AllRead, all_read, not_read}
use Rattle.queue.proofs.ContentsLaws.{words-held}
use Rattle.replay.proofs.ReplayLaws.{buffers, replay-fault, replay-memory, replay-short, replay-accepted}
use Rattle.replay.proofs.replaying.replay_from.Goals as goal
use Rattle.replay.proofs.replaying.replay_from.Goals.{In_ok-events, After-have_room}

-- what the count says of the events
read : (c : In_ok-events) → AllRead c.args.trace.now c.args.at c.in_ok-events.events
read c = all_read c.args.trace.now c.args.at c.in_ok-events.ensures

-- and whether the buffers have room for them
room : (c : After-have_room) (r : AllRead c.args.trace.now c.args.at c.in_ok-events.events) {t : Bool} → c.have_room.result ≡ t
    → fits (length r.events) (buffers c.args.answers.now c.args.given.now c.args.values.now) ≡ t
room c r e = rw (sym r.many) (sym c.have_room.ensures ∙ e)

pub returns-in_err-events : goal.returns-in_err-events
returns-in_err-events c =
    let a = c.args in
    replay-fault (contents_of a.queue) _ a.memory.now a.counts.now (buffers a.answers.now a.given.now a.values.now)
    (not_read a.trace.now a.at c.in_err-events.ensures) (search rules)

pub returns-then-memory-queue : goal.returns-then-memory-queue
returns-then-memory-queue c =
    let a = c.args in
    let r = read (goal.at.returns-then-memory-queue c).In_ok-events in
    let apart : length a.memory.now ≡ (contents_of a.queue).memory_length → ⊥ =
    λ z. omega (arith, c.if-memory-queue.true, z, words-held a.queue) in
    replay-memory (contents_of a.queue) _ a.memory.now a.counts.now (buffers a.answers.now a.given.now a.values.now) r.is apart refl

pub returns-then-not-have_room : goal.returns-then-not-have_room
returns-then-not-have_room c =
    let a = c.args in
    let r = read (goal.at.returns-then-not-have_room c).In_ok-events in
    let short = room (goal.at.returns-then-not-have_room c).After-have_room r c.if-not-have_room.true in
    let long = c.if-memory-queue.false ∙ sym (words-held a.queue) in
    replay-short (contents_of a.queue) _ a.memory.now a.counts.now (buffers a.answers.now a.given.now a.values.now) r.is long short refl

pub returns : goal.returns
returns c =
    let a = c.args in
    let r = read (goal.at.returns c).In_ok-events in
    let fit = room (goal.at.returns c).After-have_room r c.if-not-have_room.false in
    let long = c.if-memory-queue.false ∙ sym (words-held a.queue) in
    rw (replay-accepted (contents_of a.queue) _ a.memory.now a.counts.now (buffers a.answers.now a.given.now a.values.now) r.is long fit)
    (rw r.is at c.play_all.ensures)
