use Rattle.std.proofs.Common.{ℕ, ◌∙◌, rules, tests}
use Rattle.std.proofs.lemmas.Iterator.{YieldsList-from_slice}
use Rattle.std.proofs.lemmas.Iterator.Search.{all_from_yields_List}
use Rattle.queue.specs.Entry.{entry_in}
use Rattle.queue.specs.Sound.{entry_right}
use Rattle.queue.proofs.WalkLaws.{all-read}
use Rattle.queue.proofs.sound.entries_right.Goals as goal

pub returns : goal.returns
returns c =
    let right = entry_right c.args.memory_length c.args.others in
    all_from_yields_List (λ (n : ℕ). right (entry_in n)) _ _ c.all.result c.all.ensures.ran (YieldsList-from_slice c.args.entries.now cc)
    (λ x b q k. search (rules, tests))
    ∙ all-read right entry_in c.args.entries.now
