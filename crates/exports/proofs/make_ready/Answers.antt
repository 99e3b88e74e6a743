-- The table is refused, or read; then the trace is made ready on the groups that were read.
use borrow.Author.Rules.{rules}
use Rattle.table.proofs.RoundTrip.{table_got, table_refused}
use Rattle.exports.proofs.make_ready.Goals as goal

pub returns-in_err-groups : goal.returns-in_err-groups
returns-in_err-groups c = rw (table_refused c.args.table.now c.in_err-groups.ensures) (search rules)

pub returns : goal.returns
returns c = rw (table_got c.args.table.now c.in_ok-groups.ensures).0 c.prepare.ensures
