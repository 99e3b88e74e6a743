-- "The printed run": what the files table.bin and trace.bin are. Every program that plays two files goes by this.
use Rattle.std.specs.Prelude.{ℕ, Bool, true, false, List, [], ◌∷◌, ltb, length, replicate}
use Rattle.number.specs.Basics.{pick}
use Rattle.number.specs.Refusal.{file_too_long}
use Rattle.number.specs.Reply.{Reply, refuse, accept}
use Rattle.number.specs.Texts.{bytes, decimal}
use Rattle.table.specs.Group.{GroupPairs}
use Rattle.table.specs.TableBytes.{read_table}
use Rattle.counts.specs.declared.Counts.{Counts}
use Rattle.replay.specs.Replay.{Start, prepare, Replay, replayed}
use Rattle.printed.specs.Words.{line}

-- "each at most 16,384 bytes (else 36, checked first for that file)"
abbrev pub most_bytes : ℕ
most_bytes = 16384

-- no memory that a queue is opened for is longer
abbrev pub most_words : ℕ
most_words = 4096

-- a fault of the table, a fault of the trace, or a run
pub data Files : Type 0 where
  table_fault : ℕ → Files
  trace_fault : ℕ → Files
  run : Start → Files

-- "a fault in the trace's four leading numbers, then in opening, then in any event, found before one is played, prints
-- `trace N`"
abbrev pub start_files : Reply Start → Files
start_files (refuse n) = trace_fault n
start_files (accept s) = run s

unfoldable pub trace_files : List GroupPairs → List ℕ → Files
trace_files gs trace = pick (ltb most_bytes (length trace)) (trace_fault file_too_long) (start_files (prepare gs trace))

-- "A table fault prints one line `table N`": nothing of the trace is told where the table has one
abbrev pub groups_files : List ℕ → Reply (List GroupPairs) → Files
groups_files trace (accept gs) = trace_files gs trace
groups_files trace (refuse n) = table_fault n

-- what both files' bytes are
unfoldable pub files : List ℕ → List ℕ → Files
files table trace = pick (ltb most_bytes (length table)) (table_fault file_too_long) (groups_files trace (read_table table))

abbrev pub no_counts : Counts
no_counts = record { loads = 0; forwarded = 0 }

-- the run that they are: the events are played on a memory all zero, from counts of 0
abbrev pub run_memory : Start → List ℕ
run_memory s = replicate s.queue.memory_length 0

abbrev pub run_of : Start → Replay
run_of s = replayed s (run_memory s) no_counts

-- a fault's line
abbrev pub table_fault_text : ℕ → List ℕ
table_fault_text n = line (bytes "table") (decimal n ∷ [])

abbrev pub trace_fault_text : ℕ → List ℕ
trace_fault_text n = line (bytes "trace") (decimal n ∷ [])

-- the same, of the table where the test holds, else of the trace
abbrev pub fault_text : Bool → ℕ → List ℕ
fault_text true n = table_fault_text n
fault_text false n = trace_fault_text n
