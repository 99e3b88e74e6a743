-- What playing the files hands back, and what it leaves in the memory and the buffers that it is lent.
use Rattle.std.specs.Prelude.{ℕ, ◌≡◌, Bool, true, false, ◌&&◌, Result, Ok, Err, List, [], leb, length, replicate}
use Rattle.number.specs.Basics.{pick}
use Rattle.number.specs.Refusal.{too_short, refusal_number}
use Rattle.counts.specs.declared.Counts.{Counts}
use Rattle.replay.specs.Replay.{Buffers, fits}
use Rattle.replay.specs.Outcome.{at_front, log_in}
use Rattle.printed.specs.declared.files.FilesRun.{FilesRun}
use Rattle.printed.specs.declared.files.FilesFault.{FilesFault}
use Rattle.printed.specs.declared.files.FilesFault.TheVariants.{Table, Trace, NoRoom}
use Rattle.printed.specs.declared.files.PlayRoom.{PlayRoom}
use Rattle.printed.specs.Files.{most_bytes, most_words, Files, table_fault, trace_fault, run, run_of, fault_text}

-- room for every memory, and in each buffer for every event of a file
abbrev pub has_room : List ℕ → Buffers → Bool
has_room memory b = leb most_words (length memory) && fits most_bytes b

-- a memory of this length, all zero
abbrev pub zeroed : List ℕ → List ℕ
zeroed memory = replicate (length memory) 0

-- What playing two files answers: the number of a fault of the table, or of the trace; how many events a run has, its memory length, and the
-- counts that it leaves; or the refusal of what was lent.
pub data FilesReply : Type 0 where
  of_table : ℕ → FilesReply
  of_trace : ℕ → FilesReply
  ran : ℕ → ℕ → Counts → FilesReply
  of_lent : ℕ → FilesReply

-- the number or the values of each case of what playing files answers
abbrev pub files_reply : Result FilesRun FilesFault → FilesReply
files_reply (Ok r) = ran r.events r.memory_length r.counts
files_reply (Err (Table e)) = of_table (refusal_number e)
files_reply (Err (Trace e)) = of_trace (refusal_number e)
files_reply (Err (NoRoom e)) = of_lent (refusal_number e)

-- the line of a fault of a file; a want of room is none, and has no line
abbrev pub fault_line : FilesFault → List ℕ
fault_line (Table e) = fault_text true (refusal_number e)
fault_line (Trace e) = fault_text false (refusal_number e)
fault_line (NoRoom e) = []

-- the buffers of a room for playing
abbrev pub lent_by : PlayRoom → Buffers
lent_by r = record { answers = r.answers; given = r.given; values = r.values }

-- what is answered, and the memory and the buffers as they are left
pub record LeftPlayed : Type 0 where
  pub reply : FilesReply
  pub memory : List ℕ
  pub buffers : Buffers

-- A fault changes nothing that was lent. A run leaves its memory at the front of the one that was lent, which is 0 in every word behind
-- it, and each event's answer, 1 or 0 as it gave a value or none, and the value or 0 at the front of the buffers.
abbrev pub played_on : List ℕ → Buffers → Files → LeftPlayed
played_on memory b (table_fault n) = record { reply = of_table n; memory = memory; buffers = b }
played_on memory b (trace_fault n) = record { reply = of_trace n; memory = memory; buffers = b }
played_on memory b (run s) = record {
  reply = ran (length s.events) s.queue.memory_length (run_of s).left.counts;
  memory = at_front (run_of s).left.machine.memory (zeroed memory);
  buffers = log_in (run_of s).log b;
}

-- 10 where there is not room for every file, and then nothing is changed; else the files are played
unfoldable pub played_in : List ℕ → Buffers → Files → LeftPlayed
played_in memory b f = pick (has_room memory b) (played_on memory b f) (record { reply = of_lent too_short; memory = memory; buffers = b })

-- a call that plays files: what it hands back, and what it leaves
pub record HasPlayed (w : LeftPlayed) (r : Result FilesRun FilesFault) (memory₂ : List ℕ) (b₂ : Buffers) : Type 0 where
  pub outcome : files_reply r ≡ w.reply
  pub memory_is : memory₂ ≡ w.memory
  pub buffers_are : b₂ ≡ w.buffers
