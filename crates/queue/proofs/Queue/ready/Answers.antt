use Rattle.std.proofs.Common.{sym}
use Rattle.queue.proofs.ReadyLaws.{fronts}
use Rattle.queue.proofs.Queue.ready.Goals as goal

pub returns-clause-fronts : goal.returns-clause-fronts
returns-clause-fronts c =
    sym (fronts c.args.kind c.args.self.now c.args.out.now c.ready_into.new.out c.in_ok-count.count c.in_ok-count.ensures).1
