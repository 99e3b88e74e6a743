use Prim.Native.Nat.{◌≤◌, ◌<◌, ◌+◌}
use mathlib.Core.Path.{◌≡◌, refl}
use mathlib.Core.List.{◌∷◌, []}
use native.Mathlib.Omega.{arith}
use lib.ListN.{length, get_or, take}
use lib.Seq.{take_all}
use Rattle.number.specs.Basics.{flat_map}
use Rattle.number.specs.Number.{number_bytes, bytes_of, Puts}
use Rattle.table.specs.Group.{GroupPairs, pairs_of}
use Rattle.table.specs.Table.{groups_of, group_at}
use Rattle.table.specs.TableBytes.{group_numbers}
use Rattle.table.proofs.CheckLaws.{groups-size, group_at_lem}
use Rattle.number.proofs.SpliceLaws.{put-at, NumbersPut, put_none, put_two, put-more, put-length}
use Rattle.table.proofs.WriteLaws.{flat_next, flat_room, table-size, put-table}
use Rattle.table.proofs.write.put_table.Goals as goal
use Rattle.table.proofs.write.put_table.Goals.{After-put_number-place}

-- both leading numbers have been put, and there is room for the groups
space : (c : After-put_number-place) → length (number_bytes 2) + length (number_bytes c.args.table.now.count) + length
    (bytes_of (flat_map group_numbers (groups_of c.args.table.now))) ≤ length c.args.out.now
space c = omega
    (arith, table-size (groups_of c.args.table.now) c.args.table.now.count (groups-size c.args.table.now), c.requires.1)

fields_put : (c : After-put_number-place) → Puts c.args.out.now 0
    (number_bytes 2) c.put_number-after_fields.result c.put_number-after_fields.new.out
fields_put c = put-at (omega (arith, (space c))) c.put_number-after_fields.ensures

count_put : (c : After-put_number-place) → Puts c.put_number-after_fields.new.out c.put_number-after_fields.result
    (number_bytes c.args.table.now.count) c.put_number-place.result c.put_number-place.new.out
count_put c = put-at
    (omega (arith, (space c), (fields_put c).ends, c.put_number-after_fields.auto.out)) c.put_number-place.ensures

head_end : (c : After-put_number-place) → (c.put_number-place.result ≡ length (number_bytes 2) + length (number_bytes c.args.table.now.count)) ×
    (length c.put_number-place.new.out ≡ length c.args.out.now)
head_end c = (
  omega (arith, (fields_put c).ends, (count_put c).ends),
  omega
      (arith, c.put_number-after_fields.auto.out, c.put_number-place.auto.out),
)

head_put : (c : After-put_number-place) → NumbersPut c.args.out.now 0
    (2 ∷ c.args.table.now.count ∷ []) c.put_number-place.new.out c.put_number-place.result
head_put c = put_two put_none 2 c.args.table.now.count (omega (arith, (space c))) (fields_put c).is (fields_put c).ends (count_put c).is
    (count_put c).ends

pub put_group-place-requires : goal.put_group-place-requires
put_group-place-requires c =
    let p = (goal.at.put_group-place-requires c).After-put_number-place in
    let group_of : GroupPairs = let t = c.args.table.now in
    pairs_of t.loads t.stores (group_at t.groups c.loop-i.i) in
    let this : get_or (groups_of c.args.table.now) c.loop-i.i group_of ≡ group_of =
    group_at_lem c.args.table.now c.requires.0 c.loop-i.i c.loop-i-test.true group_of refl in
    let inside : c.loop-i.i < length (groups_of c.args.table.now) = omega (arith, groups-size c.args.table.now, c.loop-i-test.true) in
    let room : c.put_number-place.result +
    (length (bytes_of (flat_map group_numbers (take c.loop-i.i (groups_of c.args.table.now)))) + length
    (bytes_of (group_numbers group_of))) ≤ length c.put_number-place.new.out = let f = rw this at
    (flat_room group_numbers (groups_of c.args.table.now) c.loop-i.i group_of inside) in
    omega (arith, f, (space p), (head_end p).0, (head_end p).1) in
    let w = c.loop-i.invariant in
    omega (arith, room, w.ends, put-length w (omega (arith, room)))

pub loop-i-preserved : goal.loop-i-preserved
loop-i-preserved c =
    let p = (goal.at.loop-i-preserved c).After-put_number-place in
    let group_of : GroupPairs = let t = c.args.table.now in
    pairs_of t.loads t.stores (group_at t.groups c.loop-i.i) in
    let this : get_or (groups_of c.args.table.now) c.loop-i.i group_of ≡ group_of =
    group_at_lem c.args.table.now c.requires.0 c.loop-i.i c.loop-i-test.true group_of refl in
    let inside : c.loop-i.i < length (groups_of c.args.table.now) = omega (arith, groups-size c.args.table.now, c.loop-i-test.true) in
    let room : c.put_number-place.result +
    (length (bytes_of (flat_map group_numbers (take c.loop-i.i (groups_of c.args.table.now)))) + length
    (bytes_of (group_numbers group_of))) ≤ length c.put_number-place.new.out = let f = rw this at
    (flat_room group_numbers (groups_of c.args.table.now) c.loop-i.i group_of inside) in
    omega (arith, f, (space p), (head_end p).0, (head_end p).1) in
    let q = flat_next group_numbers (groups_of c.args.table.now) c.loop-i.i group_of inside in
    rw (q, this) (put-more c.loop-i.invariant (group_numbers group_of) (omega (arith, room)) c.put_group-place.ensures.is
    c.put_group-place.ensures.ends)

pub returns : goal.returns
returns c =
    let p = (goal.at.returns c).After-put_number-place in
    let done : NumbersPut c.put_number-place.new.out c.put_number-place.result
    (flat_map group_numbers (groups_of c.args.table.now)) c.loop-i.out c.loop-i.place = rw
    (take_all c.loop-i.i (groups_of c.args.table.now) (omega (arith, groups-size c.args.table.now, c.loop-i-test.false))) at
    c.loop-i.invariant in
    put-table (groups_of c.args.table.now) (groups-size c.args.table.now) (head_put p) done c.requires.1
