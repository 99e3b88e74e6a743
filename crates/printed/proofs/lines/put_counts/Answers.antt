use native.Mathlib.Omega.{arith}
use lib.ListN.{length-append}
use Rattle.printed.specs.Internal.{item}
use Rattle.number.proofs.PutLaws.{puts_as, puts-length, both, both_end, both_long}
use Rattle.printed.proofs.LineLaws.{item-few, loads_space, forwarded_space, share_space, counts-line}
use Rattle.printed.proofs.lines.put_counts.Goals as goal

pub put_item-place-requires-2 : goal.put_item-place-requires-2
put_item-place-requires-2 c =
    let w = c.put_item-place.ensures in
    let few = item-few loads_space c.args.counts.loads 32 in
    omega (arith, c.requires, few, w.ends, puts-length w (omega (arith, c.requires, few)))

pub put_item-requires : goal.put_item-requires
put_item-requires c =
    let w = c.put_item-place.ensures in
    let v = c.put_item-place-2.ensures in
    let f = item-few loads_space c.args.counts.loads 32 in
    let g = item-few forwarded_space c.args.counts.forwarded 32 in
    let h = c.requires in
    omega (arith, f, g, h, both_end w v (omega (arith, f, g, h)), both_long w v (omega (arith, f, g, h)))

pub returns : goal.returns
returns c =
    let w = c.put_item-place.ensures in
    let v = c.put_item-place-2.ensures in
    let f = item-few loads_space c.args.counts.loads 32 in
    let g = item-few forwarded_space c.args.counts.forwarded 32 in
    let h = c.requires in
    let i = item loads_space c.args.counts.loads 32 in
    let j = item forwarded_space c.args.counts.forwarded 32 in
    let p = c.share.ensures in
    let z = both (both w v (omega (arith, f, g, h))) c.put_item.ensures
    (omega (arith, f, g, h, item-few share_space c.share.result 10, length-append i j)) in
    puts_as (counts-line c.args.counts) (rw p at z)
