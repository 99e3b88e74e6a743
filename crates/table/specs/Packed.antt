-- The numbers that a table's record holds its accesses and its groups in.
use Rattle.std.specs.Prelude.{ℕ, ◌+◌, ◌*◌, ◌/◌, ◌%◌, ◌^◌, ◌<◌, ◌≡◌}
use Rattle.table.specs.declared.Pair.{Pair}
use Rattle.table.specs.declared.Span.{Span}
use Rattle.table.specs.declared.Group.{Group}

-- Every pair is built by this.
abbrev pub pair : ℕ → ℕ → Pair
pair offset port = record { offset = offset; port = port }

-- what a number holds: the offset in its lowest eight bits, the port in the next eight
unfoldable pub pair_in : ℕ → Pair
pair_in n = pair (n % 256) (n / 256 % 256)

-- the number that holds a pair
unfoldable pub packed_pair : Pair → ℕ
packed_pair p = p.offset + 256 * p.port

-- where accesses stand: the first one's place in the lowest eight bits, how many in the next eight
abbrev pub span_in : ℕ → Span
span_in n = record { first = n % 256; count = n / 256 % 256 }

abbrev pub packed_span : Span → ℕ
packed_span s = s.first + 256 * s.count

-- a group: where its loads stand in the lowest sixteen bits, where its stores stand in the next sixteen
unfoldable pub group_in : ℕ → Group
group_in n = record { loads = span_in n; stores = span_in (n / 65536) }

-- the number that holds a group
unfoldable pub packed_group : Group → ℕ
packed_group g = packed_span g.loads + 65536 * packed_span g.stores

-- what a number has room for
pub record SmallPair (p : Pair) : Type 0 where
  pub offset : p.offset < 256
  pub port : p.port < 256

pub record SmallSpan (s : Span) : Type 0 where
  pub first : s.first < 256
  pub count : s.count < 256

-- Packing loses nothing: a pair of bytes is the one that its number holds, and a number of 16 bits is the one of its pair;
-- so it is with groups and numbers of 32 bits (proofs/PackedLaws.antt).
abbrev pub PairsReadBack : Type 0
PairsReadBack = (p : Pair) → SmallPair p → pair_in (packed_pair p) ≡ p

abbrev pub PackedPairsReadBack : Type 0
PackedPairsReadBack = (n : ℕ) → n < 2 ^ 16 → packed_pair (pair_in n) ≡ n

abbrev pub GroupsReadBack : Type 0
GroupsReadBack = (g : Group) → SmallSpan g.loads → SmallSpan g.stores → group_in (packed_group g) ≡ g

abbrev pub PackedGroupsReadBack : Type 0
PackedGroupsReadBack = (n : ℕ) → n < 2 ^ 32 → packed_group (group_in n) ≡ n
