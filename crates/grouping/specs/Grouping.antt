-- The group whose accesses stand in a given order: what S-6 of document 02 is for. "The compiler people hold accesses and precedence
-- pairs and want a group's order from them."
use Rattle.std.specs.Prelude.{ℕ, ◌≡◌, ◌⊎◌, ◌↔◌, Bool, ◌&&◌, List, [], ◌∷◌, map, eqb, leb, ltb, get_or}
use Rattle.number.specs.Basics.{pick, all_of}
use Rattle.number.specs.Reply.{refuse, accept, passed}
use Rattle.number.specs.Refusal.{bad_group_count, bad_counts, bad_port, port_seen}
use Rattle.number.specs.Number.{AreBytes}
use Rattle.ordering.specs.declared.Ordered.{Ordered}
use Rattle.ordering.specs.declared.Precedence.{Precedence}
use Rattle.ordering.specs.Answer.{answer}
use Rattle.ordering.specs.Records.{ordered, order_in}
use Rattle.table.specs.Group.{GroupPairs, Access, load, store, is_load, is_store, order, offsets_counted, counted_pairs, uncounted}
use Rattle.table.specs.Table.{groups_of, check_table}
use Rattle.table.specs.Packed.{pair}
use Rattle.table.specs.TableBytes.{pack}
use Rattle.table.specs.RightTables.{CountsWithin, PortsWithin, Distinct, port_of}
use Rattle.grouping.specs.declared.Accesses.{Accesses}

-- the access of a number: kind 0 is a load, and any other a store; of its port. Its offset is not counted yet, and is 0.
abbrev pub access_at : Accesses → ℕ → Access
access_at accesses a = pick (eqb (get_or accesses.kinds a 0) 0) load store (pair 0 (get_or accesses.ports a 0))

-- the accesses in an order
abbrev pub in_order : Accesses → List ℕ → List Access
in_order accesses numbers = map (access_at accesses) numbers

-- the group of accesses in this order, their offsets counted along it
abbrev pub with_offsets : List Access → GroupPairs
with_offsets accesses = record { loads = counted_pairs is_load 0 0 accesses; stores = counted_pairs is_store 0 0 accesses }

-- The record is no refusal, and its first `count` places are numbers below 32. That each stands there once is not asked: an access that
-- stands there twice has its port there twice.
abbrev pub names_accesses : Ordered → Bool
names_accesses r = eqb r.answer 0 && (leb r.count 32 && all_of (λ a. ltb a 32) (order_in r))

-- the groups of the table: the one whose accesses stand in this order, or none where the record names no accesses
abbrev pub groups_in_order : Ordered → Accesses → List GroupPairs
groups_in_order r accesses = pick (names_accesses r) (with_offsets (in_order accesses (order_in r)) ∷ []) []

-- What a group's offsets say, read by document 01's rule ("load i is before store j when its offset is at most j"), is the order that
-- they were counted in: the accesses stand there as they were given, but for their offsets, ..
abbrev pub OrderKept : Type 0
OrderKept = (accesses : List Access) → map uncounted (order (with_offsets accesses)) ≡ map uncounted accesses

-- .. and the offsets that they carry are the counted ones. That they are counted rightly is not said here: of loads it is the statement
-- above, of stores that no offset is refused, below. The proofs are proofs/Orders.antt.
abbrev pub OrderCounted : Type 0
OrderCounted = (accesses : List Access) → order (with_offsets accesses) ≡ offsets_counted 0 0 accesses

-- Where the table of such a group is refused it is for its counts or its ports, and so never for an offset, ..
abbrev pub RefusedForCountsOrPorts : Type 0
RefusedForCountsOrPorts =
    (accesses : List Access) (k : ℕ) → check_table (with_offsets accesses ∷ []) ≡ refuse k → (k ≡ bad_counts) ⊎ ((k ≡ bad_port) ⊎ (k ≡ port_seen))

-- .. and it is right just where there are at most 16 of each kind and each port is 0 to 31 and stands once among its kind.
pub record CountsAndPorts (g : GroupPairs) : Type 0 where
  pub counts : CountsWithin g
  pub load_ports : PortsWithin g.loads
  pub store_ports : PortsWithin g.stores
  pub loads_once : Distinct (map port_of g.loads)
  pub stores_once : Distinct (map port_of g.stores)

abbrev pub RightByPorts : Type 0
RightByPorts = (accesses : List Access) → (check_table (with_offsets accesses ∷ []) ≡ passed) ↔ CountsAndPorts (with_offsets accesses)

-- Whatever pairs are answered with an order, the group has the accesses in that order; a refusal gives no group.
abbrev pub OrdersGrouped : Type 0
OrdersGrouped =
    (n : ℕ) (pairs : List Precedence) (accesses : Accesses) (numbers : List ℕ) → answer n pairs ≡ accept numbers
    → map (λ g. map uncounted (order g)) (groups_in_order (ordered (answer n pairs)) accesses) ≡ map (access_at accesses) numbers ∷ []

abbrev pub RefusalsGroupNothing : Type 0
RefusalsGroupNothing =
    (n k : ℕ) (pairs : List Precedence) (accesses : Accesses) → answer n pairs ≡ refuse k → groups_in_order (ordered (answer n pairs)) accesses ≡ []

-- The table's record holds these groups, right or wrong, so that what checks, writes or opens a table goes by them; of ports that are
-- bytes, as those of a record are. The record of no groups is refused with 4.
abbrev pub TablesHoldGroup : Type 0
TablesHoldGroup = (r : Ordered) (accesses : Accesses) → AreBytes accesses.ports → groups_of (pack (groups_in_order r accesses)) ≡ groups_in_order r accesses

abbrev pub NoGroupsRefused : Type 0
NoGroupsRefused = check_table (groups_of (pack [])) ≡ refuse bad_group_count
