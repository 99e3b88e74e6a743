-- The bytes passed are groups of the number, worth `value`; what is left to read is the number of higher groups.
use Prim.Native.Nat.{◌-◌, ◌^◌, ◌<◌}
use mathlib.Core.Path.{◌∙◌}
use native.Mathlib.Omega.{arith}
use lib.ListN.{get_or}
use Rattle.number.proofs.NumberLaws.{NumberSoFar, scales, number_begun, number-ended, group-fits, number-one, number_more, last_fits, number_last}
use Rattle.number.proofs.NumberLaws.{number-too-large, scale-small, number_going, number_gone, number_over}
use Rattle.number.proofs.reading.read_number.Goals.{Else-bytes-place, Else-bytes-place-2}
use Rattle.number.proofs.reading.read_number.Goals as goal

going : (c : Else-bytes-place) → NumberSoFar c.args.bytes.now c.args.at c.loop-scale.value (get_or scales c.loop-scale.scale-index 0) c.loop-scale.place
going c = number_going c.loop-scale.invariant c.loop-scale-test.true

over : (c : Else-bytes-place-2) → NumberSoFar c.args.bytes.now c.args.at c.loop-scale.value (2 ^ 28) c.loop-scale.place
over c = number_over c.loop-scale.invariant c.loop-scale.auto.scale-index-end c.loop-scale-test.false

pub loop-scale-init : goal.loop-scale-init
loop-scale-init c = number_begun

pub returns-then-bytes-place : goal.returns-then-bytes-place
returns-then-bytes-place c = number-ended c.loop-scale.invariant c.if-bytes-place.true

pub overflow_add-value : goal.overflow_add-value
overflow_add-value c =
    let w = going (goal.at.overflow_add-value c).Else-bytes-place in
    omega (arith, group-fits w (scale-small c.loop-scale-test.true) _ c.if-low-lt128.true)

pub ended_by-requires : goal.ended_by-requires
ended_by-requires c = omega (arith, c.loop-scale.invariant.from)

pub returns-then-low-lt128 : goal.returns-then-low-lt128
returns-then-low-lt128 c =
    let w = going (goal.at.returns-then-low-lt128 c).Else-bytes-place in
    c.ended_by.ensures ∙ number-one w (scale-small c.loop-scale-test.true) c.if-bytes-place.false c.if-low-lt128.true

pub overflow_add-value-in-loop-scale : goal.overflow_add-value-in-loop-scale
overflow_add-value-in-loop-scale c =
    let w = going (goal.at.overflow_add-value-in-loop-scale c).Else-bytes-place in
    let low = get_or c.args.bytes.now c.loop-scale.place 0 in
    let byte-below : low < 256 = omega (arith, c.type_inv.bytes c.loop-scale.place) in
    omega (arith, group-fits w (scale-small c.loop-scale-test.true) (low - 128) (omega (arith, byte-below)))

pub loop-scale-preserved : goal.loop-scale-preserved
loop-scale-preserved c =
    let w = going (goal.at.loop-scale-preserved c).Else-bytes-place in
    let h = c.loop-scale-test.true in
    let byte-below : get_or c.args.bytes.now c.loop-scale.place 0 < 256 = omega (arith, c.type_inv.bytes c.loop-scale.place) in
    number_gone (number_more w (scale-small h) c.if-bytes-place.false c.if-low-lt128.false byte-below) h

pub returns-then-bytes-place-2 : goal.returns-then-bytes-place-2
returns-then-bytes-place-2 c = number-ended c.loop-scale.invariant c.if-bytes-place-2.true

pub overflow_add-value-then-low-le15 : goal.overflow_add-value-then-low-le15
overflow_add-value-then-low-le15 c =
    let w = over (goal.at.overflow_add-value-then-low-le15 c).Else-bytes-place-2 in
    omega (arith, last_fits w (omega arith) _ c.if-low-le15.true)

pub ended_by-requires-then-low-le15 : goal.ended_by-requires-then-low-le15
ended_by-requires-then-low-le15 c = omega (arith, c.loop-scale.invariant.from)

pub returns-then-low-le15 : goal.returns-then-low-le15
returns-then-low-le15 c =
    let w = over (goal.at.returns-then-low-le15 c).Else-bytes-place-2 in
    c.ended_by-then-low-le15.ensures ∙ number_last w (omega arith) c.if-bytes-place-2.false c.if-low-le15.true

pub returns : goal.returns
returns c = number-too-large (over (goal.at.returns c).Else-bytes-place-2) (omega arith) c.if-bytes-place-2.false c.if-low-le15.false
