-- What the crate's own functions promise each other: nothing here is promised to a caller from outside.
use Rattle.std.specs.Prelude.{ℕ, ◌≡◌, true, List, [], length, set}
use Rattle.std.proofs.Math.Option.{Option}
use Rattle.number.specs.Reply.{Reply, refuse, accept}
use Rattle.trace.specs.declared.Event.{Event}
use Rattle.counts.specs.declared.Counts.{Counts}
use Rattle.queue.specs.declared.Queue.{Queue}
use Rattle.queue.specs.Contents.{contents_of}
use Rattle.queue.specs.Outcome.{Counted}
use Rattle.replay.specs.Events.{events_from}
use Rattle.replay.specs.Playing.{Playing, playing, step_of, played, log, played_all, given_in, word_in}
use Rattle.replay.specs.Replay.{Replay, Buffers, fits}

-- every event from a place on can be read, and there is room for what each is answered
pub record Playable (s : List ℕ) (place : ℕ) (b : Buffers) : Type 0 where
  pub events : List Event
  pub is : events_from s place ≡ accept events
  pub room : fits (length events) b ≡ true

abbrev pub events_in : Reply (List Event) → List Event
events_in (accept es) = es
events_in (refuse n) = []

-- playing these events
abbrev pub through : Playing → List Event → Replay
through p es = record { log = log p es; left = played_all p es }

-- ---- one event

-- one event played on a queue, with the memory and the counts as they were and as they are left
pub record Plays (q : Queue) (c : Counts) (memory : List ℕ) (e : Event) (r : Counted) (left : List ℕ) : Type 0 where
  pub answer : (step_of (playing (contents_of q) memory c) e).number ≡ r.answer
  pub value : (step_of (playing (contents_of q) memory c) e).value ≡ r.value
  pub next : played (playing (contents_of q) memory c) e ≡ playing (contents_of r.queue) left r.counts

-- an answer and a value stand at a place of the buffers
pub record PutAnswer (answer : ℕ) (value : Option ℕ) (i : ℕ) (b b₂ : Buffers) : Type 0 where
  pub answers : b₂.answers ≡ set b.answers i answer
  pub given : b₂.given ≡ set b.given i (given_in value)
  pub values : b₂.values ≡ set b.values i (word_in value)
