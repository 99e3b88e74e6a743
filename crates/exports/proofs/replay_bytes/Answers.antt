-- Each test on the way is a step of the rule; the counts that a replay leaves are stored, and a refused one leaves those it was lent.
use mathlib.Core.Path.{◌≡◌}
use borrow.Author.Rules.{rules}
use Rattle.std.specs.Prelude.{Err}
use Rattle.number.specs.Reply.{reply}
use Rattle.table.proofs.RoundTrip.{table_got, table_refused}
use Rattle.exports.specs.Replay.{Lent, lent}
use Rattle.exports.proofs.ReplayLaws.{lent-table, lent-short, answered-refused, answered-lent}
use Rattle.exports.proofs.replay_bytes.Goals as goal

pub returns-in_err-groups : goal.returns-in_err-groups
returns-in_err-groups c =
    let a = c.args in
    let l : Lent = lent a.memory.now a.counts.now a.answers.now a.given.now a.values.now in
    let r : c.from_residual.result ≡ Err c.in_err-groups.field-0.0 = search rules in
    rw r (answered-refused l (lent-table a.table.now a.trace.now l (table_refused a.table.now c.in_err-groups.ensures)))

pub returns-then-counts-lt2 : goal.returns-then-counts-lt2
returns-then-counts-lt2 c =
    let a = c.args in
    let l : Lent = lent a.memory.now a.counts.now a.answers.now a.given.now a.values.now in
    answered-refused l (lent-short a.table.now a.trace.now l (table_got a.table.now c.in_ok-groups.ensures).0 c.if-counts-lt2.true)

pub returns : goal.returns
returns c =
    let a = c.args in
    let l : Lent = lent a.memory.now a.counts.now a.answers.now a.given.now a.values.now in
    answered-lent a.table.now a.trace.now l (table_got a.table.now c.in_ok-groups.ensures).0 c.if-counts-lt2.false (reply c.replay-done.result) _ c.replay-done.ensures
