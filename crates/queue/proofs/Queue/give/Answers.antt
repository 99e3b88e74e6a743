use Rattle.std.proofs.Common.{sym, ◌∙◌, rules}
use Rattle.queue.proofs.PartsLaws.{own-whole}
use Rattle.queue.proofs.Queue.give.Goals as goal

pub returns-in-Load : goal.returns-in-Load
returns-in-Load c = rw (sym c.kind_of.ensures ∙ c.in-Load.is, own-whole c.args.self.now (search rules) (search rules)) at c.give_in.ensures

pub returns-in-Store : goal.returns-in-Store
returns-in-Store c = rw (sym c.kind_of.ensures ∙ c.in-Store.is, own-whole c.args.self.now (search rules) (search rules)) at c.give_in-in-Store.ensures
