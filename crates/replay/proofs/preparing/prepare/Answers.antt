use mathlib.Core.Path.{sym}
use borrow.Author.Rules.{rules}
use Rattle.replay.proofs.EventLaws.{all_read, not_read}
use Rattle.queue.proofs.ContentsLaws.{words-held}
use Rattle.replay.proofs.PrepareLaws.{prepare-refused, prepare-opened}
use Rattle.replay.proofs.preparing.prepare.Goals as goal

pub returns-in_err-queue : goal.returns-in_err-queue
returns-in_err-queue c = rw (prepare-refused c.open_trace-opened.ensures c.in_err-queue.was) (search rules)

pub returns-in_err-events : goal.returns-in_err-events
returns-in_err-events c =
    rw (
      prepare-opened c.open_trace-opened.ensures c.in_ok-queue.was,
      not_read c.args.trace.now c.open_trace-opened.result.at c.in_err-events.ensures,
    ) (search rules)

pub returns : goal.returns
returns c =
    let r = all_read c.args.trace.now c.open_trace-opened.result.at c.in_ok-events.ensures in
    rw (prepare-opened c.open_trace-opened.ensures c.in_ok-queue.was, r.is, sym r.many, words-held)
