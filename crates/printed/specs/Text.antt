-- "The printed run": the text of a table file and a trace file.
use Rattle.std.specs.Prelude.{ℕ, suc, List, [], ◌∷◌, ◌++◌, eqb}
use Rattle.std.proofs.Math.Option.{Option, none, some}
use Rattle.number.specs.Basics.{pick}
use Rattle.number.specs.Texts.{bytes, decimal}
use Rattle.counts.specs.declared.Counts.{Counts}
use Rattle.counts.specs.Counts.{share}
use Rattle.replay.specs.Playing.{Logged}
use Rattle.replay.specs.Replay.{Replay}
use Rattle.printed.specs.Words.{line}
use Rattle.printed.specs.Files.{Files, table_fault, trace_fault, run, files, run_of, table_fault_text, trace_fault_text}

-- the value of an accepted serve or take, else `-`
abbrev pub shown : Option ℕ → List ℕ
shown none = bytes "-"
shown (some v) = decimal v

-- "one line per event: its number from 1, the answer, and the value"
abbrev pub event_line : ℕ → Logged → List ℕ
event_line n l = line (decimal n) (decimal l.number ∷ shown l.value ∷ [])

abbrev pub event_lines : ℕ → List Logged → List ℕ
event_lines n [] = []
event_lines n (l ∷ ls) = event_line n l ++ event_lines (suc n) ls

-- "then `word`, address and content for each word not 0, by address"
abbrev pub word_line : ℕ → ℕ → List ℕ
word_line a w = pick (eqb w 0) [] (line (bytes "word") (decimal a ∷ decimal w ∷ []))

abbrev pub word_lines : ℕ → List ℕ → List ℕ
word_lines a [] = []
word_lines a (w ∷ ws) = word_line a w ++ word_lines (suc a) ws

-- "then one line of `loads`, `forwarded` and `share`, each followed by its number"
abbrev pub counts_line : Counts → List ℕ
counts_line c = line (bytes "loads") (decimal c.loads ∷ bytes "forwarded" ∷ decimal c.forwarded ∷ bytes "share" ∷ decimal (share c) ∷ [])

abbrev pub run_text : List Logged → List ℕ → Counts → List ℕ
run_text log memory c = event_lines 1 log ++ word_lines 0 memory ++ counts_line c

abbrev pub play_text : Replay → List ℕ
play_text r = run_text r.log r.left.machine.memory r.left.counts

-- one line for a fault, else the lines of the run
abbrev pub files_text : Files → List ℕ
files_text (table_fault n) = table_fault_text n
files_text (trace_fault n) = trace_fault_text n
files_text (run s) = play_text (run_of s)

-- the text of both files' bytes
abbrev pub text : List ℕ → List ℕ → List ℕ
text table trace = files_text (files table trace)
