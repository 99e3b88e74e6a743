-- "Opening: 4 to 8 as above, 11 load depth, 12 store depth, 13 memory length, 14 some group has more loads or stores than
-- its depth." "Both series begin at the first serial."
use Rattle.std.specs.Prelude.{ℕ, Bool, ◌&&◌, List, [], length, replicate, nat_le}
use Rattle.table.specs.declared.Table.{Table}
use Rattle.number.specs.Basics.{all_of}
use Rattle.table.specs.Group.{GroupPairs}
use Rattle.table.specs.Table.{check_table}
use Rattle.table.specs.TableBytes.{pack}
use Rattle.queue.specs.declared.Side.{Side as SideStruct}
use Rattle.queue.specs.declared.Frame.{Frame}
use Rattle.queue.specs.declared.Queue.{Queue}
use Rattle.number.specs.Refusal.{bad_load_depth, bad_store_depth, bad_memory_length, group_too_large}
use Rattle.number.specs.Reply.{Reply, accept, need, and_then}
use Rattle.queue.specs.Contents.{Side, Contents}
use Rattle.queue.specs.Sound.{depth_right, memory_right}

abbrev pub group_fits : ℕ → ℕ → GroupPairs → Bool
group_fits load_depth store_depth g = nat_le (length g.loads) load_depth && nat_le (length g.stores) store_depth

-- a side with no entry yet
abbrev pub no_entries : ℕ → ℕ → Side
no_entries depth first = record { depth = depth; next = first; entries = [] }

-- the queue that an accepted opening gives
abbrev pub opened : List GroupPairs → ℕ → ℕ → ℕ → ℕ → Contents
opened groups load_depth store_depth first words =
    record { groups = groups; memory_length = words; loads = no_entries load_depth first; stores = no_entries store_depth first }

-- open groups (load depth) (store depth) (first serial) (memory length)
unfoldable pub open_queue : List GroupPairs → ℕ → ℕ → ℕ → ℕ → Reply Contents
open_queue groups load_depth store_depth first words =
    and_then (check_table groups) λ right.
    need (depth_right load_depth) bad_load_depth
    (need (depth_right store_depth) bad_store_depth
    (need (memory_right words) bad_memory_length
    (need (all_of (group_fits load_depth store_depth) groups) group_too_large
    (accept (opened groups load_depth store_depth first words)))))

-- ---- the records of queues that hold no entry
-- a side with no entry, whose series begins at this serial
abbrev pub fresh_side : ℕ → ℕ → SideStruct
fresh_side depth first = record { depth = depth; count = 0; next = first }

-- the frame of a queue of a table, both depths, the first serial and the memory length
abbrev pub fresh_frame : Table → ℕ → ℕ → ℕ → ℕ → Frame
fresh_frame table load_depth store_depth first words =
    record { table = table; memory_length = words; loads = fresh_side load_depth first; stores = fresh_side store_depth first }

-- the queue of such a frame
abbrev pub fresh_queue : Frame → Queue
fresh_queue frame = record { frame = frame; load_entries = replicate 64 0; store_entries = replicate 64 0 }

-- the frame and the queue of the table of no groups, which stand for those that a refused opening does not have
abbrev pub no_frame : Frame
no_frame = fresh_frame (pack []) 0 0 0 0

abbrev pub no_queue : Queue
no_queue = fresh_queue no_frame
