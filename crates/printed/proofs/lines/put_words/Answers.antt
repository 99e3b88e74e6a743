use native.Mathlib.Omega.{arith}
use Rattle.number.proofs.PutLaws.{puts_as, puts-length, puts-puts}
use Rattle.printed.proofs.LineLaws.{words-text-few, words-next}
use Rattle.printed.proofs.lines.put_words.Goals as goal

pub put_word-place-requires : goal.put_word-place-requires
put_word-place-requires c =
    let l = c.loop-address in
    let few = words-text-few c.args.memory.now l.address l.auto.address-end in
    let w = l.invariant in
    omega (arith, few, w.ends, puts-length w (omega (arith, few, c.requires, c.loop-address-test.true)), c.requires, c.loop-address-test.true)

pub loop-address-preserved : goal.loop-address-preserved
loop-address-preserved c =
    let l = c.loop-address in
    let m = c.args.memory.now in
    let few = words-text-few m l.address l.auto.address-end in
    puts_as (words-next m l.address c.loop-address-test.true)
    (puts-puts l.invariant (omega (arith, few, c.requires, c.loop-address-test.true)) c.put_word-place.ensures)
