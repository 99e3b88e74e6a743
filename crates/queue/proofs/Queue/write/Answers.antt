use Rattle.std.proofs.Common.{rules}
use Rattle.queue.proofs.PartsLaws.{own-whole}
use Rattle.queue.proofs.Queue.write.Goals as goal

pub returns : goal.returns
returns c = rw (own-whole c.args.self.now (search rules) (search rules)) at c.write_in.ensures.writes
