-- The number goes out from its last digit: what is still to be put, spliced before the writer's place, makes the buffer that is promised.
use Prim.Native.Nat.{ℕ, ◌+◌, ◌-◌, ◌≤◌, ◌<◌, ◌^◌}
use mathlib.Core.Path.{◌≡◌, sym, ap, ◌∙◌}
use native.Mathlib.Omega.{arith}
use lib.ListN.{length, length-set}
use borrow.Author.Rules.{rules}
use Rattle.shift.proofs.DigitLaws.{righting-start, righting-next, righting-end, splice_over, right_wide}
use Rattle.shift.proofs.page.put_right.Goals as goal

pub loop-place-init : goal.loop-place-init
loop-place-init c =
    let a = c.args in
    let few : a.n < 2 ^ 64 = search rules in
    righting-start a.out.now a.at a.width a.n c.requires.0 c.requires.1 (omega arith) c.requires.2

pub loop-place-preserved : goal.loop-place-preserved
loop-place-preserved c =
    let long : length c.loop-place.out ≡ length c.args.out.now = c.loop-place.invariant.long ∙ length-set c.args.out.now _ _ in
    let room : let a = c.args in a.at + a.width ≤ length c.loop-place.out = omega (arith, long, c.requires.2) in
    rw c.digit_or_blank.ensures (righting-next c.loop-place.invariant c.loop-place-test.true room)

pub returns : goal.returns
returns c =
    let a = c.args in
    let wide = right_wide a.width a.n c.requires.0 c.requires.1 in
    record {
      ends = ap (λ (k : ℕ). a.at + k) (sym wide);
      is =
          righting-end c.loop-place.invariant c.loop-place-test.false
          ∙ splice_over a.out.now a.at _ (a.at + a.width - 1) _ (omega (arith, c.requires.0)) (omega (arith, wide, c.requires.0));
    }
