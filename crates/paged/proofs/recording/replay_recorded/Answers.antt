-- The replay by its own contract; the record from the buffers that it filled.
use Rattle.table.specs.Table.{groups_of}
use Rattle.replay.proofs.ReplayLaws.{buffers}
use Rattle.paged.proofs.BufferLaws.{kept-accepted}
use Rattle.paged.proofs.recording.replay_recorded.Goals as goal

pub returns : goal.returns
returns c =
    let a = c.args in
    let l = c.replay.new in
    record {
      replays = c.in_ok-events.ensures;
      kept_is =
          kept-accepted (groups_of a.table) a.trace.now a.memory.now a.counts.now (buffers a.answers.now a.given.now a.values.now) a.kept.now
          c.in_ok-events.events l.counts l.memory (buffers l.answers l.given l.values) c.in_ok-events.ensures c.record_replay.ensures;
    }
