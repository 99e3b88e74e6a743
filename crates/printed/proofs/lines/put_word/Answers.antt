use native.Mathlib.Omega.{arith}
use Rattle.number.proofs.PutLaws.{puts_as, puts-length, puts-puts}
use Rattle.printed.proofs.LineLaws.{item-few, word_space, word_some}
use Rattle.printed.proofs.lines.put_word.Goals as goal

pub put_item-requires : goal.put_item-requires
put_item-requires c =
    let w = c.put_item-place.ensures in
    let few = item-few word_space c.args.address 32 in
    omega (arith, c.requires, few, w.ends, puts-length w (omega (arith, c.requires, few)))

pub returns : goal.returns
returns c =
    let w = c.put_item-place.ensures in
    puts_as (word_some c.args.address c.args.word c.if-word-eq0.false)
    (puts-puts w (omega (arith, c.requires, item-few word_space c.args.address 32)) c.put_item.ensures)
