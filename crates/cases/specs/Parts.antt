-- What a line's numbers set of a table.
use Rattle.std.specs.Prelude.{ℕ, ◌%◌, ◌^◌, List, set, slice_get}
use Rattle.std.specs.Option.{unwrap_or}
use Rattle.table.specs.declared.Table.{Table}
use Rattle.table.specs.declared.Pair.{Pair}
use Rattle.table.specs.declared.Span.{Span}
use Rattle.table.specs.declared.Group.{Group}
use Rattle.table.specs.Packed.{packed_pair, packed_group}
use Rattle.cases.specs.declared.Part.{Part}
use Rattle.cases.specs.declared.Part.TheVariants.{Count, Group as GroupPart, LoadPair, StorePair}

-- the number at a place, as one of so many bits
abbrev pub number_at : ℕ → List ℕ → ℕ → ℕ
number_at bits numbers place = unwrap_or (slice_get numbers place) 0 % 2 ^ bits

-- a pair, and a group, at the place that the first number is
abbrev pub pair_of : List ℕ → Pair
pair_of numbers = record { offset = number_at 8 numbers 1; port = number_at 8 numbers 2 }

abbrev pub with_pair : List ℕ → List ℕ → List ℕ
with_pair numbers places = set places (number_at 32 numbers 0) (packed_pair (pair_of numbers))

abbrev pub span_of : List ℕ → ℕ → ℕ → Span
span_of numbers first count = record { first = number_at 8 numbers first; count = number_at 8 numbers count }

abbrev pub group_of : List ℕ → Group
group_of numbers = record { loads = span_of numbers 1 2; stores = span_of numbers 3 4 }

abbrev pub with_group : List ℕ → List ℕ → List ℕ
with_group numbers groups = set groups (number_at 32 numbers 0) (packed_group (group_of numbers))

abbrev pub with_part : Part → List ℕ → Table → Table
with_part Count numbers t = record t { count = number_at 8 numbers 0 }
with_part GroupPart numbers t = record t { groups = with_group numbers t.groups }
with_part LoadPair numbers t = record t { loads = with_pair numbers t.loads }
with_part StorePair numbers t = record t { stores = with_pair numbers t.stores }
