-- The table's refusal, then that of opening; the table that was read is the record of its groups.
use mathlib.Core.Path.{subst}
use borrow.Author.Rules.{rules}
use Rattle.table.specs.declared.Table.{Table}
use Rattle.table.specs.Table.{groups_of}
use Rattle.table.proofs.RoundTrip.{table_got, table_refused}
use Rattle.queue.specs.Open.{open_queue, fresh_frame}
use Rattle.queue.specs.Parts.{OpensFrame, opened_frame}
use Rattle.live.proofs.calls.open_bytes.Goals as goal

pub returns-in_err-groups : goal.returns-in_err-groups
returns-in_err-groups c = rw (table_refused c.args.table.now c.in_err-groups.ensures) (search rules)

pub returns : goal.returns
returns c =
    let a = c.args in
    let t = c.in_ok-groups.groups in
    let got = table_got a.table.now c.in_ok-groups.ensures in
    rw got.0
    (subst (λ (x : Table). OpensFrame (fresh_frame x a.load_depth a.store_depth a.first a.memory_length)
    (open_queue (groups_of t) a.load_depth a.store_depth a.first a.memory_length) (opened_frame c.open_in.result)) got.1
    c.open_in.ensures)
