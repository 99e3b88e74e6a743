use Prim.Native.Nat.{◌+◌, ◌≤◌}
use mathlib.Core.List.{[]}
use native.Mathlib.Omega.{arith}
use lib.ListN.{length, length-append}
use Rattle.printed.specs.Internal.{item}
use Rattle.number.proofs.SpliceLaws.{put-at}
use Rattle.number.proofs.PutLaws.{puts_as, puts-length, both, both_end, both_long}
use Rattle.printed.proofs.LineLaws.{item-few, event_value, event_none}
use Rattle.printed.proofs.lines.put_event.Goals as goal
use Rattle.printed.proofs.lines.put_event.Goals.{After-put_item-place-2}

-- the number and the answer fit, and a word behind them
fits : (c : After-put_item-place-2)
    → c.args.at + length (item [] c.args.number 32) + length (item [] c.args.answer 32) + 21 ≤ length c.args.out.now
fits c = omega (arith, c.requires, item-few [] c.args.number 32, item-few [] c.args.answer 32)

pub put_item-place-requires-2 : goal.put_item-place-requires-2
put_item-place-requires-2 c =
    let w = c.put_item-place.ensures in
    let few = item-few [] c.args.number 32 in
    omega (arith, c.requires, w.ends, puts-length w (omega (arith, c.requires)))

pub put_item-requires : goal.put_item-requires
put_item-requires c =
    let h = fits (goal.at.put_item-requires c).After-put_item-place-2 in
    let w = c.put_item-place.ensures in
    let v = c.put_item-place-2.ensures in
    omega (arith, h, both_end w v (omega (arith, h)), both_long w v (omega (arith, h)))

pub returns-then-given-eq1 : goal.returns-then-given-eq1
returns-then-given-eq1 c =
    let h = fits (goal.at.returns-then-given-eq1 c).After-put_item-place-2 in
    let s = c.args in
    puts_as (event_value s.number s.answer s.given s.word c.if-given-eq1.true)
    (both (both c.put_item-place.ensures c.put_item-place-2.ensures (omega (arith, h))) c.put_item.ensures
    (omega (arith, h, item-few [] s.word 10, length-append (item [] s.number 32) (item [] s.answer 32))))

pub returns : goal.returns
returns c =
    let h = fits (goal.at.returns c).After-put_item-place-2 in
    let w = c.put_item-place.ensures in
    let v = c.put_item-place-2.ensures in
    let s = c.args in
    let end = put-at (omega (arith, h, both_end w v (omega (arith, h)), both_long w v (omega (arith, h)))) c.put_bytes.ensures in
    puts_as (event_none s.number s.answer s.given s.word c.if-given-eq1.false)
    (both (both w v (omega (arith, h))) end (omega (arith, h, length-append (item [] s.number 32) (item [] s.answer 32))))
