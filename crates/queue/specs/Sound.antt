-- "Every call on a queue: first 40, where a depth or memory length is outside its limits, a side holds more entries than
-- its depth, an entry remembers more of the other kind than are held, a filled-in address is not below the memory length,
-- or the table meets one of 4 to 8."
use Rattle.std.specs.Prelude.{ℕ, Bool, true, ◌&&◌, List, length, ◌==◌, nat_le, nat_lt}
use Rattle.std.proofs.Math.Option.{Option, none, some}
use Rattle.number.specs.Basics.{all_of, within}
use Rattle.number.specs.Refusal.{unsound, wrong_memory}
use Rattle.number.specs.Reply.{Reply, need, accepted}
use Rattle.table.specs.Table.{check_table}
use Rattle.queue.specs.Entry.{Entry}
use Rattle.queue.specs.Contents.{Side, Contents}

-- "depths are 1 to 64 entries each, memory is 1 to 4,096 words"
abbrev pub depth_right : ℕ → Bool
depth_right n = within 1 64 n

abbrev pub memory_right : ℕ → Bool
memory_right n = within 1 4096 n

-- an address that is filled in is below the memory length
abbrev pub address_right : ℕ → Option ℕ → Bool
address_right words none = true
address_right words (some a) = nat_lt a words

-- an entry, where `others` of the other kind are held
abbrev pub entry_right : ℕ → ℕ → Entry → Bool
entry_right words others e = nat_le e.before others && address_right words e.address

-- a side, beside the other one
abbrev pub side_right : ℕ → Side → Side → Bool
side_right words s other =
    depth_right s.depth && nat_le (length s.entries) s.depth && all_of (entry_right words (length other.entries)) s.entries

unfoldable pub sound : Contents → Bool
sound q =
    memory_right q.memory_length
    && side_right q.memory_length q.loads q.stores
    && side_right q.memory_length q.stores q.loads
    && accepted (check_table q.groups)

-- "30 lent memory has another length than at opening": serve and write check it after 40, and then go by their rule
abbrev pub with_memory : {A : Type 0} → Contents → List ℕ → Reply A → Reply A
with_memory q memory rule = need (sound q) unsound (need (length memory == q.memory_length) wrong_memory rule)
