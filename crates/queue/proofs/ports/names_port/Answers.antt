use Rattle.std.proofs.Common.{ℕ, ◌∙◌, rules, tests}
use Rattle.std.proofs.lemmas.Iterator.{YieldsList-from_slice}
use Rattle.std.proofs.lemmas.Iterator.Search.{any_from_yields_List}
use Rattle.table.specs.Packed.{pair_in}
use Rattle.queue.specs.Arguments.{is_port}
use Rattle.queue.proofs.WalkLaws.{any-read}
use Rattle.queue.proofs.ports.names_port.Goals as goal

pub returns : goal.returns
returns c =
    let named = is_port c.args.port in
    any_from_yields_List (λ (n : ℕ). named (pair_in n)) _ _ c.any.result c.any.ensures.ran (YieldsList-from_slice c.args.pairs.now cc)
    (λ x b q k. search (rules, tests))
    ∙ any-read named pair_in c.args.pairs.now
