-- A group's accesses and their program order. Document 01, "Bytes and tables".
use Rattle.std.specs.Prelude.{ℕ, suc, ◌+◌, ◌≤◌, Bool, true, false, List, [], ◌∷◌, ◌++◌, map, leb, drop}
use Rattle.table.specs.declared.Pair.{Pair}
use Rattle.table.specs.declared.Span.{Span}
use Rattle.table.specs.declared.Group.{Group}
use Rattle.table.specs.Packed.{pair, pair_in}
use Rattle.number.specs.Basics.{held, keep_where, front_while, after_while}

-- A group as it is meant: its loads and its stores.
pub record GroupPairs : Type 0 where
  pub loads : List Pair
  pub stores : List Pair

-- S-2, "groups with no load and no store"
abbrev pub empty_group : GroupPairs
empty_group = record { loads = []; stores = [] }

abbrev pub blank_pair : Pair
blank_pair = pair 0 0

-- the accesses of a span: `count` of them, from the place `first` on
abbrev pub list_of : List ℕ → Span → List Pair
list_of places s = map pair_in (held 0 s.count (drop s.first places))

-- the span runs within the 32 places
abbrev pub Inside : Span → Type 0
Inside s = s.first + s.count ≤ 32

-- a group whose accesses stand among these loads and stores
abbrev pub pairs_of : List ℕ → List ℕ → Group → GroupPairs
pairs_of loads stores g = record { loads = list_of loads g.loads; stores = list_of stores g.stores }

-- An access: a load or a store, with its pair.
pub data Access : Type 0 where
  load : Pair → Access
  store : Pair → Access

-- its pair, whichever it is
abbrev pub pair_of : Access → Pair
pair_of (load p) = p
pair_of (store p) = p

-- is it a load; is it a store
abbrev pub is_load : Access → Bool
is_load (load p) = true
is_load (store p) = false

abbrev pub is_store : Access → Bool
is_store (load p) = false
is_store (store p) = true

-- the pairs of the accesses of a kind, in order
abbrev pub pairs_where : (Access → Bool) → List Access → List Pair
pairs_where test accesses = map pair_of (keep_where test accesses)

-- "Load i is before store j when its offset is at most j."
abbrev pub before_store : ℕ → Pair → Bool
before_store j l = leb l.offset j

-- The accesses from store j on, where `loads` are the loads that no earlier store has passed.
abbrev pub order_from : ℕ → List Pair → List Pair → List Access
order_from j loads [] = map load loads
order_from j loads (s ∷ ss) = map load (front_while (before_store j) loads) ++ store s ∷ order_from (suc j) (after_while (before_store j) loads) ss

-- The program order of a group's accesses: "the load offsets fix the order".
abbrev pub order : GroupPairs → List Access
order g = order_from 0 g.loads g.stores

-- the pair with this offset in place of its own
abbrev pub at_offset : ℕ → Pair → Pair
at_offset n p = pair n p.port

-- "A load's offset counts the group's stores before it; a store's counts the loads before it": these accesses, each at the offset
-- that is counted along them, where so many loads and stores come before the first.
abbrev pub offsets_counted : ℕ → ℕ → List Access → List Access
offsets_counted loads stores [] = []
offsets_counted loads stores (load p ∷ rest) = load (at_offset stores p) ∷ offsets_counted (suc loads) stores rest
offsets_counted loads stores (store p ∷ rest) = store (at_offset loads p) ∷ offsets_counted loads (suc stores) rest

-- the pairs of the accesses of a kind, at the offsets that are counted along all of them
abbrev pub counted_pairs : (Access → Bool) → ℕ → ℕ → List Access → List Pair
counted_pairs test loads stores accesses = pairs_where test (offsets_counted loads stores accesses)

-- the access with offset 0
abbrev pub uncounted : Access → Access
uncounted (load p) = load (at_offset 0 p)
uncounted (store p) = store (at_offset 0 p)
