-- The replay by its own contract; the record from the buffers that it filled, or the very record where the replay was refused.
use mathlib.Core.Path.{◌∙◌}
use Rattle.exports.specs.Replay.{Lent, lent}
use Rattle.exports.proofs.RecordLaws.{ok-nought, err-apart, lent-kept-accepted, lent-kept-refused}
use Rattle.exports.proofs.lsq_replay_recorded.Goals as goal
use Rattle.exports.proofs.lsq_replay_recorded.Goals.{then-is_ok, else-is_ok}

pub returns-clause-records : goal.returns-clause-records
returns-clause-records c =
    let a = c.args in
    let lent_at : Lent = lent a.memory.now a.counts.now a.answers.now a.given.now a.values.now in
    let left_at : Lent = let l = c.replay_bytes-done.new in lent l.memory l.counts l.answers l.given l.values in
    let done = c.replay_bytes-done in
    elim c.if-is_ok.branch [
      | then-is_ok w ↦
          w.kept-is ∙ lent-kept-accepted a.table.now a.trace.now lent_at a.kept left_at done.ensures
          (ok-nought done.result w.if-is_ok.ensures.value) w.record_replay.ensures
      | else-is_ok w ↦
          w.kept-is ∙ lent-kept-refused a.table.now a.trace.now lent_at a.kept left_at done.ensures
          (err-apart done.result w.if-is_ok.ensures.value)
    ]
