-- S-2, "branches that touch no tally": empty groups, with no load and no store. The proofs are in proofs/EmptyGroups.antt.
use Rattle.std.specs.Prelude.{◌≡◌, ℕ, ◌^◌, ◌<◌, ◌≤◌, true, List, ◌∷◌, ◌++◌, length, replicate}
use Rattle.std.proofs.Math.Option.{none, some}
use Rattle.std.proofs.Math.ListN.{get_elem?}
use Rattle.number.specs.Refusal.{unsound, no_port, bad_load_depth, bad_store_depth, bad_memory_length}
use Rattle.table.specs.Group.{GroupPairs, empty_group}
use Rattle.table.specs.Table.{groups_of}
use Rattle.queue.specs.declared.Queue.{Queue}
use Rattle.queue.specs.Outcome.{Outcome}
use Rattle.queue.specs.declared.arguments.Argument.{Argument}
use Rattle.number.specs.Reply.{refuse, accept, need, number}
use Rattle.queue.specs.Contents.{Contents, contents_of}
use Rattle.queue.specs.Sound.{depth_right, memory_right, sound}
use Rattle.queue.specs.Open.{opened, open_queue}
use Rattle.queue.specs.Activate.{room, activate}
use Rattle.queue.specs.Arguments.{give}
use Rattle.queue.specs.Take.{take_rule}
use Rattle.queue.specs.Outcome.{Accepted, Moves}

-- An empty group always finds room: in a full queue, and in a record from anywhere that is not refused with 40.
abbrev pub EmptyGroupsFindRoom : Type 0
EmptyGroupsFindRoom = (q : Contents) → sound q ≡ true → room q empty_group ≡ true

-- "Activating it takes no place and is always accepted unless 40 or 20 applies": where the table has such a group by this number,
-- 20 does not apply. The queue that follows holds what it held, and its next serials, which are of 32 bits, are what they were.
abbrev pub EmptyGroupsTakeNoPlace : Type 0
EmptyGroupsTakeNoPlace =
    (q : Contents) (group : ℕ) → q.loads.next < 2 ^ 32 → q.stores.next < 2 ^ 32 → get_elem? q.groups group ≡ some empty_group →
    activate q group ≡ need (sound q) unsound (accept q)

-- The same of a queue's record and of what `Queue::activate` answers and leaves.
abbrev pub EmptyGroupsAccepted : Type 0
EmptyGroupsAccepted =
    (q : Queue) (group : ℕ) (r : Outcome) → q.frame.loads.next < 2 ^ 32 → q.frame.stores.next < 2 ^ 32 →
    get_elem? (groups_of q.frame.table) group ≡ some empty_group → sound (contents_of q) ≡ true →
    Moves q (activate (contents_of q) group) r → Accepted none (contents_of q) r

-- Opening answers with an empty group, wherever it stands among 1 to 15 others, as without it: 14 does not apply to it.
abbrev pub EmptyGroupsOpen : Type 0
EmptyGroupsOpen =
    (before after : List GroupPairs) (load_depth store_depth first words : ℕ) → 1 ≤ length (before ++ after) → length (before ++ after) ≤ 15 →
    number (open_queue (before ++ empty_group ∷ after) load_depth store_depth first words) ≡
    number (open_queue (before ++ after) load_depth store_depth first words)

-- A table of empty groups only opens with whatever depths and memory length are right: 4 to 8 and 14 do not apply.
abbrev pub EmptyTablesOpen : Type 0
EmptyTablesOpen =
    (n load_depth store_depth first words : ℕ) → 1 ≤ n → n ≤ 16 →
    open_queue (replicate n empty_group) load_depth store_depth first words ≡
    need (depth_right load_depth) bad_load_depth
    (need (depth_right store_depth) bad_store_depth
    (need (memory_right words) bad_memory_length
    (accept (opened (replicate n empty_group) load_depth store_depth first words))))

-- It has no port, so every port call on a queue of it gets 22, unless 40 applies.
pub record NoPorts (q : Contents) : Type 0 where
  pub gives : (argument : Argument) (port x : ℕ) → give argument q port x ≡ need (sound q) unsound (refuse no_port)
  pub takes : (port : ℕ) → take_rule q port ≡ need (sound q) unsound (refuse no_port)

abbrev pub EmptyTablesHaveNoPorts : Type 0
EmptyTablesHaveNoPorts = (q : Contents) (n : ℕ) → q.groups ≡ replicate n empty_group → NoPorts q
