-- What the crate's own functions promise each other: nothing here is promised to a caller from outside.
use Rattle.std.specs.Prelude.{ℕ, ◌+◌, ◌≤◌, ◌<◌, ◌≡◌, Bool, List, [], ◌∷◌, ◌++◌, Result, Ok, Err, map, length, set, take, drop}
use Rattle.table.specs.declared.Pair.{Pair}
use Rattle.table.specs.declared.Span.{Span}
use Rattle.table.specs.declared.Group.{Group}
use Rattle.table.specs.declared.Table.{Table}
use Rattle.table.specs.declared.check.Ports.{Ports}
use Rattle.table.specs.declared.check.Rule.{Rule}
use Rattle.table.specs.declared.read.Pairs.{Pairs}
use Rattle.table.specs.declared.read.NewGroup.{NewGroup}
use Rattle.table.specs.declared.read.Gathered.{Gathered}
use Rattle.number.specs.declared.refusal.Refusal.{Refusal}
use Rattle.number.specs.Refusal.{refusal_number}
use Rattle.number.specs.Reply.{Reply, refuse, accept, passed}
use Rattle.number.specs.Number.{Got, got, then_read, read_number, Reading, reading}
use Rattle.table.specs.TableBytes.{filled, pack}
use Rattle.table.specs.Packed.{pair_in, packed_group}
use Rattle.table.specs.Group.{GroupPairs, list_of, Inside}
use Rattle.table.specs.Table.{load_rule, store_rule, check_pairs, seeing, Seen, seen_after, check_group}

-- ---- checking and reading a group's pairs

-- the rule for the offsets of a group's pairs of one kind: a store's goes by the loads, a load's by the store count
abbrev pub rule_of : Rule → ℕ → ℕ → ℕ → Bool
rule_of (Rule.Loads stores) = load_rule stores
rule_of (Rule.Stores loads) = store_rule (map pair_in loads.now)

-- offsets that never fall, from `low` on
abbrev pub Rising : ℕ → List Pair → Type 0
Rising low [] = Unit {0}
Rising low (p ∷ ps) = (low ≤ p.offset) × Rising p.offset ps

-- what the rule needs: a store's looks into the loads, which have been found to rise
abbrev pub RuleRight : Rule → Type 0
RuleRight (Rule.Loads stores) = stores ≤ 16
RuleRight (Rule.Stores loads) = (length loads.now ≤ 16) × Rising 0 (map pair_in loads.now)

-- what a check gives: its refusal or, where it is passed, what holds then
abbrev pub Checks : Reply (Unit {0}) → Type 0 → Result (Unit {0}) Refusal → Type 0
Checks r Then (Ok t) = (r ≡ passed) × Then
Checks r Then (Err e) = r ≡ refuse (refusal_number e)

-- checking pairs gives their first fault or, where there is none, the marks after them
abbrev pub PairsChecked : (ℕ → ℕ → ℕ → Bool) → List Bool → List Pair → List Bool → Result (Unit {0}) Refusal → Type 0
PairsChecked rule seen ps after r = Checks (check_pairs rule 0 0 seen ps) (after ≡ seeing ps seen) r

-- the ports that a record of marks says were seen
abbrev pub seen_of : Ports → Seen
seen_of p = record { loads = p.loads; stores = p.stores }

-- the same of a group
abbrev pub GroupChecked : Seen → GroupPairs → Seen → Result (Unit {0}) Refusal → Type 0
GroupChecked seen g after r = Checks (check_group seen g) (after ≡ seen_after g seen) r

-- ---- reading a table

-- two numbers, one after the other
pub record Two : Type 0 where
  pub first : ℕ
  pub second : ℕ

abbrev pub two_numbers : ℕ → ℕ → Two
two_numbers x y = record { first = x; second = y }

unfoldable pub read_two : List ℕ → Reply (Got Two)
read_two s = then_read (read_number s) λ x s₁. then_read (read_number s₁) λ y s₂. accept (got (two_numbers x y) s₂)

-- what a call that reads two numbers replies
abbrev pub two_reply : Result (ℕ × ℕ × ℕ) Refusal → Reply (Reading Two)
two_reply (Ok (x, y, next)) = accept (reading (two_numbers x y) next)
two_reply (Err e) = refuse (refusal_number e)

-- what was read, and where the bytes after it begin
pub record Finds {A : Type 0} (g : Reply (Got A)) (s : List ℕ) (next : ℕ) (Found : A → Type 0) : Type 0 where
  pub what : A
  pub is : g ≡ accept (got what (drop next s))
  pub inside : next ≤ length s
  pub found : Found what

-- what a call that reads in s tells, where the bytes give `g`: the refusal, or what was found
abbrev pub Tells : {A B : Type 0} → Reply (Got A) → List ℕ → (B → A → Type 0) → Result (B × ℕ) Refusal → Type 0
Tells g s Found (Ok (b, next)) = Finds g s next (Found b)
Tells g s Found (Err e) = g ≡ refuse (refusal_number e)

-- pairs that were read stand from the first place on
abbrev pub front : ℕ → Span
front n = record { first = 0; count = n }

abbrev pub pairs_in : Pairs → List Pair
pairs_in ps = list_of ps.places (front ps.count)

-- the record of pairs that were read
abbrev pub pack_pairs : List Pair → Pairs
pack_pairs ps = record { count = length ps; places = filled ps }

abbrev pub pack_group : GroupPairs → NewGroup
pack_group g = record { loads = pack_pairs g.loads; stores = pack_pairs g.stores }

-- the record of the pairs that were read, and the marks after them
pub record PairsFound (seen after : List Bool) (r : Pairs) (ps : List Pair) : Type 0 where
  pub pairs : r ≡ pack_pairs ps
  pub holds : pairs_in r ≡ ps
  pub marks : after ≡ seeing ps seen

abbrev pub PairsResult : List ℕ → List Bool → Reply (Got (List Pair)) → List Bool → Result (Pairs × ℕ) Refusal → Type 0
PairsResult s seen g after r = Tells g s (PairsFound seen after) r

pub record GroupFound (seen after : Seen) (r : NewGroup) (g : GroupPairs) : Type 0 where
  pub group : r ≡ pack_group g
  pub marks : after ≡ seen_after g seen

abbrev pub GroupResult : List ℕ → Seen → Reply (Got GroupPairs) → Seen → Result (NewGroup × ℕ) Refusal → Type 0
GroupResult s seen g after r = Tells g s (GroupFound seen after) r

abbrev pub GroupsResult : List ℕ → Reply (Got (List GroupPairs)) → Result (Table × ℕ) Refusal → Type 0
GroupsResult s g r = Tells g s (λ (t : Table) gs. t ≡ pack gs) r

-- there is room for a group behind those of a table
pub record Growing (t : Gathered) (g : NewGroup) : Type 0 where
  pub groups : t.table.count < 16
  pub loads_room : t.loads + g.loads.count ≤ 32
  pub stores_room : t.stores + g.stores.count ≤ 32

abbrev pub put_in : List ℕ → ℕ → Pairs → List ℕ
put_in places from ps = take from places ++ take ps.count ps.places ++ drop (from + ps.count) places

-- where a group stands that is put behind `loads` loads and `stores` stores
abbrev pub behind : ℕ → ℕ → NewGroup → Group
behind loads stores g = record { loads = record { first = loads; count = g.loads.count }; stores = record { first = stores; count = g.stores.count } }

-- the same groups and the group behind them
abbrev pub grown : Gathered → NewGroup → Gathered
grown t g = record {
  table = record {
    count = t.table.count + 1;
    groups = set t.table.groups t.table.count (packed_group (behind t.loads t.stores g));
    loads = put_in t.table.loads t.loads g.loads;
    stores = put_in t.table.stores t.stores g.stores;
  };
  loads = t.loads + g.loads.count;
  stores = t.stores + g.stores.count;
}

-- ---- a group of a table

abbrev pub GroupInside : Group → Type 0
GroupInside g = Inside g.loads × Inside g.stores
