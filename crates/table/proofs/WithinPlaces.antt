-- A right table's groups stand within the places of its record: one that does not stands for 17 accesses, and meets 5.
use Prim.Native.Nat.{ℕ, ◌+◌, ◌≤◌}
use native.Mathlib.Omega.{arith}
use mathlib.Core.Path.{◌≡◌, refl, subst}
use mathlib.Core.Bool.{Bool, true, false, ◌||◌}
use mathlib.Core.List.{List}
use lib.Dec.{eqb, leb}
use lib.ListN.{length, get_or, take}
use lib.Seq.{get_or-take}
use Rattle.table.specs.declared.Span.{Span}
use Rattle.table.specs.declared.Group.{Group}
use Rattle.number.specs.Basics.{pick}
use Rattle.table.specs.Packed.{group_in}
use Rattle.table.specs.Group.{GroupPairs, list_of, pairs_of}
use Rattle.table.specs.Table.{span_meant, group_meant, group_at, groups_of, span_within, GroupsWithinPlaces}
use Rattle.table.proofs.CheckLaws.{view-length, groups-size, groups-at}
use Rattle.table.proofs.OrderOffsets.{GroupRight, table_groups_few, table_group_right}

span_within_lem : (s : Span) (places : List ℕ) → length (list_of places (span_meant s)) ≤ 16 → span_within s ≡ true
span_within_lem s places few = go (eqb s.count 0) (leb (s.first + s.count) 32) (rw view-length at few)
  where
    go : (none inside : Bool) → (pick inside s (record { first = 0; count = pick none 0 17 })).count ≤ 16 → (none || inside) ≡ true
    go true inside h = refl
    go false true h = refl
    go false false h = absurd (omega arith)

pub groups_within_places : GroupsWithinPlaces
unfolding group_at
groups_within_places t groups loads stores right i k =
    let few : t.count ≤ 16 = rw (groups-size t) at (table_groups_few (groups_of t) right) in
    let h : Group = group_in (get_or t.groups i 0) in
    let e : get_or (take 16 t.groups) i 0 ≡ get_or t.groups i 0 = get_or-take 16 t.groups i 0 (omega arith) in
    let g : GroupPairs = pairs_of t.loads t.stores (group_meant h) in
    let here : GroupRight g = subst GroupRight (rw e at (groups-at t few i k g)) (table_group_right (groups_of t) right i g (rw (groups-size t) k)) in
    rw (span_within_lem h.loads t.loads here.few_loads, span_within_lem h.stores t.stores here.few_stores)
