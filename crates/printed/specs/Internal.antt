-- What the crate's own functions promise each other: nothing here is promised to a caller from outside.
use Rattle.std.specs.Prelude.{ℕ, ◌≤◌, ◌≡◌, true, Result, Ok, Err, List, [], ◌∷◌, ◌++◌, eqb, length}
use Rattle.std.proofs.Math.Option.{none, some}
use Rattle.number.specs.Basics.{pick}
use Rattle.number.specs.Texts.{decimal}
use Rattle.queue.specs.Contents.{Contents}
use Rattle.replay.specs.Playing.{Logged}
use Rattle.replay.specs.Replay.{Buffers, fits}
use Rattle.number.specs.declared.refusal.Refusal.{Refusal}
use Rattle.printed.specs.declared.files.FilesRun.{FilesRun}
use Rattle.printed.specs.declared.files.FilesFault.{FilesFault}
use Rattle.printed.specs.declared.files.FilesFault.TheVariants.{Trace}
use Rattle.printed.specs.declared.files.PlayRoom.{PlayRoom}
use Rattle.printed.specs.Files.{most_bytes, most_words}
use Rattle.printed.specs.Played.{zeroed}
use Rattle.printed.specs.Outcome.{most_text}

-- words, a number, and the byte after it
abbrev pub item : List ℕ → ℕ → ℕ → List ℕ
item words n end = words ++ decimal n ++ end ∷ []

-- an event's answer and value, from the three numbers that a replay puts down for it
abbrev pub logged_as : ℕ → ℕ → ℕ → Logged
logged_as answer given word = record { number = answer; value = pick (eqb given 1) (some word) none }

abbrev pub rows : List ℕ → List ℕ → List ℕ → List Logged
rows [] given values = []
rows (a ∷ answers) [] values = []
rows (a ∷ answers) (g ∷ given) [] = []
rows (a ∷ answers) (g ∷ given) (w ∷ values) = logged_as a g w ∷ rows answers given values

-- a run whose events and words stand at the front of the room where it was played, and room for their text
pub record RunFits (run : FilesRun) (left : PlayRoom) (out : List ℕ) : Type 0 where
  pub events_hold : run.events ≤ length left.answers
  pub given_hold : run.events ≤ length left.given
  pub values_hold : run.events ≤ length left.values
  pub words_hold : run.memory_length ≤ length left.memory
  pub room : most_text ≤ length out

-- what playing a trace answers, where only the trace can be at fault
abbrev pub of_the_trace : Result FilesRun Refusal → Result FilesRun FilesFault
of_the_trace (Ok r) = Ok r
of_the_trace (Err e) = Err (Trace e)

-- a memory and buffers that have room for every file
pub record Room (memory : List ℕ) (b : Buffers) : Type 0 where
  pub words : most_words ≤ length memory
  pub places : fits most_bytes b ≡ true

-- the same, and the memory is all zero
pub record Cleared (memory : List ℕ) (b : Buffers) : Type 0 where
  pub room : Room memory b
  pub zeros : memory ≡ zeroed memory

-- the same, a trace that is no longer than a file, and a queue whose memory has no more words than any
pub record Playable (q : Contents) (trace memory : List ℕ) (b : Buffers) : Type 0 where
  pub cleared : Cleared memory b
  pub short : length trace ≤ most_bytes
  pub memory_few : q.memory_length ≤ most_words
