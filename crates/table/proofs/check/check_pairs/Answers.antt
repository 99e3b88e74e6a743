-- The pairs before the ith are passed; what is left to check is the rest, with the marks and the last offset so far.
use mathlib.Core.Path.{◌≡◌, sym}
use native.Mathlib.Omega.{arith}
use borrow.Author.Rules.{rules}
use lib.ListN.{length-map}
use Rattle.std.specs.Prelude.{Err}
use Rattle.table.specs.Packed.{pair_in}
use Rattle.table.proofs.CheckLaws.{pair-here, checking-stop, checking-more, checking-end}
use Rattle.table.proofs.check.check_pairs.Goals as goal

pub returns-in_err-check_pair : goal.returns-in_err-check_pair
returns-in_err-check_pair c =
    let size = length-map c.args.pairs.now pair_in in
    let this = pair-here c.args.pairs.now c.loop-i.i c.unpack_pair-pair.ensures in
    let fault = rw c.allows.ensures at (sym c.in_err-check_pair.ensures) in
    let r : c.from_residual.result ≡ Err c.in_err-check_pair.field-0.0 = search rules in
    rw r (checking-stop c.loop-i.invariant (omega (arith, size, c.loop-i-test.true)) this fault)

pub loop-i-preserved : goal.loop-i-preserved
loop-i-preserved c =
    let size = length-map c.args.pairs.now pair_in in
    let this = pair-here c.args.pairs.now c.loop-i.i c.unpack_pair-pair.ensures in
    let right = rw c.allows.ensures at (sym c.in_ok-check_pair.ensures) in
    checking-more c.loop-i.invariant (omega (arith, size, c.loop-i-test.true)) this right

pub returns : goal.returns
returns c = checking-end c.loop-i.invariant (omega (arith, length-map c.args.pairs.now pair_in, c.loop-i-test.false))
