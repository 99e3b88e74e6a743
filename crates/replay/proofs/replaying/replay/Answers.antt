use borrow.Author.Rules.{rules}
use Rattle.table.specs.Table.{groups_of}
use Rattle.replay.proofs.PrepareLaws.{prepare-refused, prepare-opened}
use Rattle.replay.proofs.ReplayLaws.{buffers, unplayed, replay-opened}
use Rattle.replay.proofs.replaying.replay.Goals as goal

pub returns-in_err-queue : goal.returns-in_err-queue
returns-in_err-queue c =
    let a = c.args in
    let b = buffers a.answers.now a.given.now a.values.now in
    let is = prepare-refused c.open_trace-opened.ensures c.in_err-queue.was in
    rw (replay-opened (groups_of a.table) a.trace.now a.memory.now a.counts.now b is) (unplayed (search rules))

pub returns : goal.returns
returns c =
    let a = c.args in
    let b = buffers a.answers.now a.given.now a.values.now in
    let is = prepare-opened c.open_trace-opened.ensures c.in_ok-queue.was in
    rw (replay-opened (groups_of a.table) a.trace.now a.memory.now a.counts.now b is) c.replay_from.ensures
