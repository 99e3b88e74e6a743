use Rattle.std.proofs.Common.{ℕ, rules, tests}
use Rattle.std.proofs.lemmas.Iterator.{YieldsList-from_slice}
use Rattle.std.proofs.lemmas.Iterator.Search.{position_from_yields_List}
use Rattle.queue.specs.Entry.{entry_in}
use Rattle.queue.specs.Internal.{lacks_mark}
use Rattle.queue.proofs.WalkLaws.{first-found}
use Rattle.queue.proofs.entries.oldest_without.Goals as goal

pub returns : goal.returns
returns c =
    let lacks = lacks_mark c.args.mark c.args.port in
    first-found lacks entry_in c.args.entries.now
    (position_from_yields_List (λ (n : ℕ). lacks (entry_in n)) _ _ c.position.result c.position.ensures.ran (YieldsList-from_slice c.args.entries.now cc)
    (λ x b q k. search (rules, tests)))
