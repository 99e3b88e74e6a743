-- What `all` answers is what the rule asks.
use mathlib.Core.Bool.{Bool, ◌&&◌}
use mathlib.Core.Path.{◌∙◌}
use lib.Dec.{ltb}
use Rattle.std.proofs.Common.{rules, tests}
use Rattle.std.proofs.lemmas.Iterator.{YieldsList-from_slice}
use Rattle.std.proofs.lemmas.Iterator.Search.{all_from_yields_List}
use Rattle.ordering.specs.declared.Precedence.{Precedence}
use Rattle.ordering.proofs.RecordLaws.{list_all-is}
use Rattle.ordering.proofs.all_listed.Goals as goal

pub returns : goal.returns
returns c =
    let test : Precedence → Bool = λ p. ltb p.first c.args.accesses && ltb p.second c.args.accesses in
    all_from_yields_List test _ _ c.all.result c.all.ensures.ran (YieldsList-from_slice c.args.pairs.now cc) (λ x b q k. search (rules, tests))
    ∙ list_all-is test c.args.pairs.now
