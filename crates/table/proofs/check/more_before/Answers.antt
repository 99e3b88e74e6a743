use Rattle.table.proofs.CheckLaws.{none_more, more-at}
use Rattle.table.proofs.check.more_before.Goals as goal

pub returns-in-Some : goal.returns-in-Some
returns-in-Some c =
    let (some, same, later, inside, end) = c.in-Some.ensures.lookup in
    rw (c.unpack_pair.ensures, inside.1 0) (more-at c.args.loads.now c.args.n c.args.i c.requires inside.0)

pub returns-in-None : goal.returns-in-None
returns-in-None c =
    let (none, same, later, past, end) = c.in-None.ensures.lookup in
    none_more c.args.loads.now c.args.n c.args.i c.requires past
