-- What is placed, followed by what the rule gives for those that wait, is what it gives for all.
use Prim.Native.Nat.{◌<◌}
use native.Mathlib.Omega.{arith}
use mathlib.Core.Path.{◌≡◌, refl}
use lib.ListN.{length, length-set}
use Rattle.std.proofs.Common.{rules}
use Rattle.ordering.proofs.Loops.{placing_none, placing-on, placing-stop, placing-record}
use Rattle.ordering.proofs.Asked.arrange.Goals as goal

pub loop-place-init : goal.loop-place-init
loop-place-init c = (refl, placing_none)

pub returns-in_err-access : goal.returns-in_err-access
returns-in_err-access c =
    let stuck = rw c.in_err-access.ensures.ok_part at c.next_ready.ensures in
    let more : c.loop-place.place-index < c.args.self.now.accesses = search rules in
    rw (placing-stop c.loop-place.invariant.1 stuck more) (search rules)

pub loop-place-preserved : goal.loop-place-preserved
loop-place-preserved c =
    let (low, is) = rw c.in_ok-access.ensures.ok_part at c.next_ready.ensures in
    let few = c.args.self.now.few in
    let size : length c.loop-place.place-items ≡ c.args.self.now.accesses = search rules in
    (simp length-set c.loop-place.invariant.0, placing-on c.loop-place.invariant.1 _ is low (omega arith) (omega arith) (omega arith))

pub returns : goal.returns
returns c =
    let size : length c.loop-place.place-items ≡ c.args.self.now.accesses = search rules in
    placing-record c.loop-place.invariant.1 (omega arith) size
