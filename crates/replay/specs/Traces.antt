-- Replaying goes by the trace that its bytes are. The proofs are proofs/Traces.antt.
use Rattle.std.specs.Prelude.{ℕ, ◌≡◌, List, eqb, length}
use Rattle.number.specs.Refusal.{too_short, wrong_memory}
use Rattle.number.specs.Reply.{Reply, accept, need, and_then}
use Rattle.number.specs.Number.{Fit, AreBytes}
use Rattle.table.specs.Group.{GroupPairs}
use Rattle.trace.specs.Trace.{Trace, read_trace, trace_numbers, trace_bytes}
use Rattle.counts.specs.declared.Counts.{Counts}
use Rattle.queue.specs.Contents.{Contents}
use Rattle.queue.specs.Open.{open_queue}
use Rattle.replay.specs.Replay.{Start, prepare, Replay, replayed, Buffers, fits, replay}

-- opening with a trace's leading numbers
abbrev pub open_for : List GroupPairs → Trace → Reply Contents
open_for gs t = open_queue gs t.header.load_depth t.header.store_depth t.header.first t.header.memory_length

abbrev pub start_with : Contents → Trace → Start
start_with q t = record { queue = q; events = t.events }

-- A trace as it is meant is refused by opening alone, and else it is played with just its events.
abbrev pub start_on : List GroupPairs → Trace → Reply Start
start_on gs t = and_then (open_for gs t) λ q. accept (start_with q t)

abbrev pub replay_on : List GroupPairs → Trace → List ℕ → Counts → Buffers → Reply Replay
replay_on gs t memory c b =
    and_then (open_for gs t) λ q.
    need (eqb (length memory) t.header.memory_length) wrong_memory
    (need (fits (length t.events) b) too_short
    (accept (replayed (start_with q t) memory c)))

-- Bytes that are read as a trace are made ready as that trace, and no other bytes are.
abbrev pub TracesPrepared : Type 0
TracesPrepared = (gs : List GroupPairs) (bytes : List ℕ) (t : Trace) → read_trace bytes ≡ accept t → prepare gs bytes ≡ start_on gs t

abbrev pub OnlyTracesPrepared : Type 0
OnlyTracesPrepared =
    (gs : List GroupPairs) (bytes : List ℕ) (s : Start) → prepare gs bytes ≡ accept s →
    (t : Trace) × (read_trace bytes ≡ accept t) × (start_on gs t ≡ accept s)

-- They are replayed as that trace: the log is that of its events.
abbrev pub TracesReplayed : Type 0
TracesReplayed =
    (gs : List GroupPairs) (bytes : List ℕ) (t : Trace) (memory : List ℕ) (c : Counts) (b : Buffers) → read_trace bytes ≡ accept t →
    replay gs bytes memory c b ≡ replay_on gs t memory c b

-- the trace that a run is of: the numbers that its queue was opened with, and its events
abbrev pub trace_of_run : Start → Trace
trace_of_run s = record {
  header = record {
    load_depth = s.queue.loads.depth;
    store_depth = s.queue.stores.depth;
    first = s.queue.loads.next;
    memory_length = s.queue.memory_length;
  };
  events = s.events;
}

-- S-4: "one run under two names" is gone: a run is made ready from the bytes that are written for it, and from no others, on its own
-- groups.
abbrev pub RunsAreWritten : Type 0
RunsAreWritten =
    (gs : List GroupPairs) (bytes : List ℕ) (s : Start) → AreBytes bytes → prepare gs bytes ≡ accept s →
    (s.queue.groups ≡ gs) × (bytes ≡ trace_bytes (trace_of_run s))

-- A trace that was written, every number one of 32 bits, is made ready and replayed as its events.
abbrev pub WrittenPrepared : Type 0
WrittenPrepared = (gs : List GroupPairs) (t : Trace) → Fit (trace_numbers t) → prepare gs (trace_bytes t) ≡ start_on gs t

abbrev pub WrittenReplayed : Type 0
WrittenReplayed =
    (gs : List GroupPairs) (t : Trace) (memory : List ℕ) (c : Counts) (b : Buffers) → Fit (trace_numbers t) →
    replay gs (trace_bytes t) memory c b ≡ replay_on gs t memory c b
