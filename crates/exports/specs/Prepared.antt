-- A table and a trace as bytes: their faults, and what is told of a trace that can be played.
use Rattle.std.specs.Prelude.{ℕ, List, length}
use Rattle.number.specs.Reply.{Reply, refuse, accept, and_then}
use Rattle.table.specs.TableBytes.{read_table}
use Rattle.replay.specs.Replay.{Start, prepare}

-- a table and a trace made ready: the table's refusal; then that of the leading numbers, of opening, or of an event
abbrev pub prepared : List ℕ → List ℕ → Reply Start
prepared table trace = and_then (read_table table) λ gs. prepare gs trace

-- how many events the trace has; 0 where it is refused
abbrev pub event_count : Reply Start → ℕ
event_count (refuse n) = 0
event_count (accept s) = length s.events

-- the memory length that the trace asks for; 0 where it is refused
abbrev pub memory_length : Reply Start → ℕ
memory_length (refuse n) = 0
memory_length (accept s) = s.queue.memory_length
