use Rattle.std.proofs.Common.{ℕ, Bool, ◌∙◌, rules, tests}
use Rattle.std.proofs.lemmas.Iterator.{YieldsList-from_slice}
use Rattle.std.proofs.lemmas.Iterator.Consumers.{count_from_yields_List}
use Rattle.std.proofs.lemmas.Iterator.Search.{YieldsList-from_take_while}
use Rattle.std.proofs.lemmas.List.Folds.{length-prefix_len}
use Rattle.queue.specs.Entry.{entry_in}
use Rattle.queue.specs.Retire.{finished}
use Rattle.queue.proofs.WalkLaws.{front-read}
use Rattle.queue.proofs.retiring.retiring.Goals as goal

pub returns : goal.returns
returns c =
    let done : ℕ → Bool = λ n. finished (entry_in n) in
    count_from_yields_List c.take_while.result c.count.result c.count.ensures.ran
    (YieldsList-from_take_while _ done (YieldsList-from_slice c.args.entries.now cc) c.take_while.ensures.closure c.take_while.ensures.done
    (λ x b q k. search (rules, tests)))
    ∙ length-prefix_len done c.args.entries.now ∙ front-read finished entry_in c.args.entries.now
