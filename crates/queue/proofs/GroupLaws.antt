-- A group and a table by their records: how many accesses and groups they hold, and which.
use Rattle.std.proofs.Common.{◌≡◌, ℕ, ◌+◌, ◌<◌, ◌≤◌, ◌&&◌, leb, List, ◌∷◌, get_or, take, drop, sym, ap, ◌∙◌, le_trans, get_or-take}
use mathlib.Core.Option.{some}
use lib.ListN.{get_elem?}
use Rattle.table.specs.declared.Group.{Group}
use Rattle.table.specs.declared.Table.{Table}
use Rattle.table.specs.Group.{GroupPairs, pairs_of}
use Rattle.table.specs.Table.{meant_in, group_at, groups_of, check_table}
use Rattle.table.proofs.CheckLaws.{view-length, groups-size, group_at_lem}
use Rattle.table.proofs.OrderOffsets.{GroupRight, table_groups_few, table_group_right}
use Rattle.queue.specs.Open.{group_fits}
use Rattle.queue.proofs.ContentsLaws.{mapped_get_elem?, mapped-here}
use Rattle.number.specs.Reply.{passed}

pub fits_record : (load_depth store_depth : ℕ) (loads stores : List ℕ) (g : Group)
    → group_fits load_depth store_depth (pairs_of loads stores g) ≡ leb g.loads.count load_depth && leb g.stores.count store_depth
fits_record load_depth store_depth loads stores g = rw (view-length loads g.loads, view-length stores g.stores)

-- a right table has at most 16 groups
pub groups-few : (t : Table) → check_table (groups_of t) ≡ passed → t.count ≤ 16
groups-few t e = rw (groups-size t) at (table_groups_few (groups_of t) e)

-- its groups, where a walk comes to them
module _ (t : Table) (few : t.count ≤ 16) (i : ℕ) (k : i < t.count) {g : Group} (a : g ≡ group_at t.groups i) where
  abbrev here : GroupPairs
  here = pairs_of t.loads t.stores g

  is-here : meant_in t.loads t.stores (get_or t.groups i 0) ≡ here
  unfolding group_at
  is-here =
      let e : get_or t.groups i 0 ≡ get_or (take 16 t.groups) i 0 = sym (get_or-take 16 t.groups i 0 (le_trans k few)) in
      ap (meant_in t.loads t.stores) e ∙ ap (pairs_of t.loads t.stores) (sym a)

  pub groups-here : drop i (groups_of t) ≡ pairs_of t.loads t.stores g ∷ drop (i + 1) (groups_of t)
  groups-here = mapped-here (meant_in t.loads t.stores) 0 t.count t.groups i k ∙ ap (λ (x : GroupPairs). x ∷ drop (i + 1) (groups_of t)) is-here

  pub group-get_elem? : get_elem? (groups_of t) i ≡ some (pairs_of t.loads t.stores g)
  group-get_elem? = mapped_get_elem? (meant_in t.loads t.stores) 0 t.count t.groups i k ∙ ap (λ (x : GroupPairs). some x) is-here

  pub group-right : check_table (groups_of t) ≡ passed → GroupRight (pairs_of t.loads t.stores g)
  group-right right = rw (group_at_lem t few i k here a) at (table_group_right (groups_of t) right i here (rw (groups-size t) k))
