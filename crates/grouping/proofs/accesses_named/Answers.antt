-- What `all` answers is what is asked of the accesses.
use Rattle.std.proofs.Common.{arith, rules, tests}
use mathlib.Core.Path.{◌≡◌, ◌∙◌}
use mathlib.Core.Bool.{Bool}
use Prim.Native.Nat.{ℕ}
use lib.Dec.{ltb}
use Rattle.number.specs.Basics.{all_of}
use Rattle.std.proofs.lemmas.Iterator.{YieldsList-from_slice}
use Rattle.std.proofs.lemmas.Iterator.Search.{all_from_yields_List}
use Rattle.grouping.proofs.CountLaws.{is_named}
use Rattle.ordering.proofs.RecordLaws.{list_all-is}
use Rattle.grouping.proofs.accesses_named.Goals as goal

abbrev below : ℕ → Bool
below a = ltb a 32

pub returns : goal.returns
returns c =
    let is : c.all-named.result ≡ all_of below c.in_ok-numbers.numbers.now =
    all_from_yields_List below _ _ c.all-named.result c.all-named.ensures.ran (YieldsList-from_slice c.in_ok-numbers.numbers.now cc) (λ x b q k. search (rules, tests))
    ∙ list_all-is below c.in_ok-numbers.numbers.now in
    let (from, few, part, size) = c.in_ok-numbers.ensures.lookup.0 in
    let (some, none) = is_named c.args.order.now c.in_ok-numbers.numbers c.all-named.result (omega arith) (search rules) part is in
    record { some = rw c.then_some.ensures some; none = rw c.then_some.ensures none }
