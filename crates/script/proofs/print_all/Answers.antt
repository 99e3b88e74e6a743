use Rattle.std.proofs.Common.{◌≡◌, sym, ap, ◌∙◌, take, ◌+◌, ◌++◌, ◌∷◌, []}
use Rattle.std.proofs.lemmas.List.{take_more}
use Rattle.script.proofs.PrintLaws.{appends_value, all_spaced-append}
use Rattle.script.proofs.print_all.Goals as goal

pub loop-value-preserved : goal.loop-value-preserved
loop-value-preserved g c =
    let values = c.args.values.now in
    let v = c.value-item.result in
    let one_more : take (c.loop-value.value-index + 1) values ≡ take c.loop-value.value-index values ++ v ∷ []
    = take_more values c.loop-value.value-index v c.loop-value-test.true ∙ ap (λ x. take c.loop-value.value-index values ++ x ∷ []) (sym c.value-item.is) in
    rw (one_more, all_spaced-append g.T.Display.output _ v)
    (appends_value _ _ _ _ _ (g.T.Display.output v) c.loop-value.invariant c.in_ok-write_all.ensures.bytes c.in_ok-write.ensures.bytes)
