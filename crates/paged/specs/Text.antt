-- What the program `page` prints of a table file and a trace file: the page after the run that they are, or the line of the fault that
-- `play` prints. Which fault they have, or that they are a run, is said once, by `files` of the crate `printed`.
use Rattle.std.specs.Prelude.{ℕ, ◌<◌, ◌≡◌, List, ◌++◌, leb, length, drop}
use Rattle.number.specs.Basics.{pick}
use Rattle.number.specs.Refusal.{page_too_short}
use Rattle.number.specs.Reply.{accept}
use Rattle.number.specs.Number.{Wrote, unwritten, AreBytes}
use Rattle.table.specs.Group.{GroupPairs}
use Rattle.sequential.specs.Answers.{Answered, machine, answers}
use Rattle.sequential.specs.Plain.{Filling}
use Rattle.replay.specs.Playing.{playing}
use Rattle.table.specs.TableBytes.{read_table}
use Rattle.replay.specs.Replay.{Start}
use Rattle.printed.specs.Files.{Files, table_fault, trace_fault, run, files, no_counts, run_memory, run_of, table_fault_text, trace_fault_text}
use Rattle.shift.specs.declared.ShiftRecord.{ShiftRecord}
use Rattle.shift.specs.Record.{no_takes}
use Rattle.shift.specs.Page.{page, page_bytes}
use Rattle.shift.specs.Lists.{Shows}
use Rattle.paged.specs.Recorded.{record_from, calls_of}

-- the record after a run, from an empty one
abbrev pub record_of : Start → ShiftRecord
record_of s = record_from no_takes s.events (run_of s).log

abbrev pub files_page : Files → List ℕ
files_page (table_fault n) = table_fault_text n
files_page (trace_fault n) = trace_fault_text n
files_page (run s) = page (record_of s)

-- the text of both files' bytes
abbrev pub page_text : List ℕ → List ℕ → List ℕ
page_text table trace = files_page (files table trace)

-- 41 where the buffer is shorter than a page, and then nothing is written, also where the text is a fault's line; else the text stands
-- at the buffer's front, and the bytes beyond keep their contents
unfoldable pub page_printed : List ℕ → List ℕ → List ℕ → Wrote
page_printed table trace buffer =
    pick (leb page_bytes (length buffer))
    (record {
      answer = accept (length (page_text table trace));
      buffer = page_text table trace ++ drop (length (page_text table trace)) buffer;
    })
    (unwritten page_too_short buffer)

-- ---- the page that the program prints is the plain run's; the proof is proofs/RunsShow.antt

-- what the list of calls that a run is gets answered: memory all zero, counts from 0
abbrev pub run_answers : Start → List Answered
run_answers s = answers (machine s.queue (run_memory s)) (calls_of (playing s.queue (run_memory s) no_counts) s.events)

-- Of files that are a run, read as bytes: the page shows for each port the number of its accepted takes and the last of its taken values,
-- and these are the plain run's of that table and these calls, however missing arguments are filled in.
abbrev pub RunsShow : Type 0
RunsShow =
    (table trace : List ℕ) → AreBytes trace → (s : Start) → files table trace ≡ run s →
    (page_text table trace ≡ page (record_of s)) × (groups : List GroupPairs) × (read_table table ≡ accept groups) ×
    ((fill : Filling) → ((k : ℕ) → fill.address k < s.queue.memory_length) → Shows groups (run_memory s) (run_answers s) fill (record_of s))
