-- The access that is not marked is ready, and each before it is not.
use mathlib.Core.Path.{◌≡◌}
use mathlib.Core.Bool.{not}
use lib.ListN.{take}
use Rattle.std.proofs.Common.{rules, tests}
use Rattle.std.specs.List.{position}
use Rattle.std.proofs.lemmas.Iterator.{YieldsList-from_slice}
use Rattle.std.proofs.lemmas.Iterator.Search.{position_from_yields_List}
use Rattle.ordering.proofs.Loops.{next-found}
use Rattle.ordering.proofs.Asked.next_ready.Goals as goal

pub returns : goal.returns
returns c =
    let is : c.position.result ≡ position not (take c.args.self.now.accesses c.unready-marks.result) =
    position_from_yields_List not _ _ c.position.result c.position.ensures.ran (YieldsList-from_slice _ c.iter.ensures.rest) (λ x b q k. search (rules, tests)) in
    rw is (next-found _ c.unready-marks.result c.args.self.now.accesses c.unready-marks.ensures.is (let few = c.args.self.now.few in search rules))
