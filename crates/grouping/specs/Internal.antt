-- What the functions within the crate promise each other.
use Rattle.std.specs.Prelude.{ℕ, ◌+◌, ◌≤◌, ◌<◌, ◌≡◌, true, List, eqb, ltb, length, set, replicate}
use Rattle.number.specs.Basics.{pick, all_of}
use Rattle.ordering.specs.declared.Ordered.{Ordered}
use Rattle.ordering.specs.Records.{order_in}
use Rattle.table.specs.declared.Pair.{Pair}
use Rattle.table.specs.declared.Span.{Span}
use Rattle.table.specs.declared.Table.{Table}
use Rattle.table.specs.Packed.{pair, packed_pair, packed_group}
use Rattle.table.specs.Group.{Access}
use Rattle.table.specs.TableBytes.{filled}
use Rattle.grouping.specs.declared.PairList.{PairList}
use Rattle.grouping.specs.declared.GroupSoFar.{GroupSoFar}
use Rattle.grouping.specs.Grouping.{names_accesses, with_offsets}

abbrev pub with_pair : PairList → Pair → PairList
with_pair list p = record { count = list.count + 1; places = set list.places list.count (packed_pair p) }

-- a load, or a store, more: its offset counts those of the other kind
abbrev pub with_access : GroupSoFar → ℕ → ℕ → GroupSoFar
with_access g kind port =
    pick (eqb kind 0)
    (record { loads = with_pair g.loads (pair g.stores.count port); stores = g.stores })
    (record { loads = g.loads; stores = with_pair g.stores (pair g.loads.count port) })

-- there is a place for one more of each kind
pub record Room (g : GroupSoFar) : Type 0 where
  pub loads : g.loads.count < 32
  pub stores : g.stores.count < 32

-- numbers of accesses, and no more of them than there are places
pub record Below (numbers : List ℕ) : Type 0 where
  pub few : length numbers ≤ 32
  pub below : all_of (λ a. ltb a 32) numbers ≡ true

-- those that the record names
pub record Named (r : Ordered) (numbers : List ℕ) : Type 0 where
  pub names : names_accesses r ≡ true
  pub is : numbers ≡ order_in r

-- the record of pairs, and of the group that accesses in their order make
abbrev pub listed : List Pair → PairList
listed ps = record { count = length ps; places = filled ps }

pub record HoldsGroup (accesses : List Access) (g : GroupSoFar) : Type 0 where
  pub loads : g.loads ≡ listed (with_offsets accesses).loads
  pub stores : g.stores ≡ listed (with_offsets accesses).stores

-- the table of the group: its loads and its stores stand from the first place on
abbrev pub front : PairList → Span
front list = record { first = 0; count = list.count }

abbrev pub one_group : GroupSoFar → Table
one_group g = record {
  count = 1;
  groups = set (replicate 16 0) 0 (packed_group (record { loads = front g.loads; stores = front g.stores }));
  loads = g.loads.places;
  stores = g.stores.places;
}
