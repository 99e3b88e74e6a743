-- S-4: files that are played are what the writer gives for their run. The proof is proofs/FilesWritten.antt.
use Rattle.std.specs.Prelude.{ℕ, ◌≡◌, List}
use Rattle.number.specs.Number.{AreBytes}
use Rattle.table.specs.TableBytes.{table_bytes}
use Rattle.trace.specs.Trace.{trace_bytes}
use Rattle.replay.specs.Replay.{Start}
use Rattle.replay.specs.Traces.{trace_of_run}
use Rattle.printed.specs.Files.{run, files}

-- "Two stations archive traces by their bytes and found one run under two names": a run's table and trace are the only files that are
-- this run.
abbrev pub FilesAreWritten : Type 0
FilesAreWritten =
    (table trace : List ℕ) (s : Start) → AreBytes table → AreBytes trace → files table trace ≡ run s →
    (table ≡ table_bytes s.queue.groups) × (trace ≡ trace_bytes (trace_of_run s))
