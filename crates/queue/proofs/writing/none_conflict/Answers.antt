use Rattle.std.proofs.Common.{ℕ, ◌∙◌, rules, tests}
use Rattle.std.proofs.lemmas.Iterator.{YieldsList-from_slice}
use Rattle.std.proofs.lemmas.Iterator.Search.{all_from_yields_List}
use Rattle.queue.specs.Entry.{entry_in}
use Rattle.queue.specs.Write.{no_conflict}
use Rattle.queue.specs.Internal.{has}
use Rattle.queue.proofs.WalkLaws.{all-read}
use Rattle.queue.proofs.writing.none_conflict.Goals as goal

pub returns : goal.returns
returns c =
    let apart = no_conflict (has c.args.done) c.args.address in
    all_from_yields_List (λ (n : ℕ). apart (entry_in n)) _ _ c.all.result c.all.ensures.ran (YieldsList-from_slice c.args.entries.now cc)
    (λ x b q k. search (rules, tests))
    ∙ all-read apart entry_in c.args.entries.now
