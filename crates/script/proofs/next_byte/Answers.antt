use Rattle.std.proofs.Common.{arith, length-drop, nat_eq, not, drop}
use Rattle.std.proofs.lemmas.List.Sums.{prefix_len-le-length}
use Rattle.script.proofs.next_byte.Goals as goal

pub overflow_add-result : goal.overflow_add-result
overflow_add-result c =
    let a = c.args in
    let few = prefix_len-le-length (λ b. not (nat_eq b a.byte)) (drop a.from a.text.now) in
    let e = rw c.behind.ensures at c.until.ensures in
    omega (arith, length-drop a.from a.text.now, few, e)

pub returns : goal.returns
returns c =
    let a = c.args in
    let few = prefix_len-le-length (λ b. not (nat_eq b a.byte)) (drop a.from a.text.now) in
    let e = rw c.behind.ensures at c.until.ensures in
    record { is = omega (arith, e); after = omega arith; within = omega (arith, length-drop a.from a.text.now, few, e) }
