-- Calls on a queue's parts: its frame is lent, and both sides' entries as runs of numbers of any length. A run that has not just 64
-- numbers is no side's places: 40, before anything else.
use Rattle.std.specs.Prelude.{◌≡◌, ℕ, Bool, ◌&&◌, Result, List, length, ◌==◌}
use Rattle.std.proofs.Math.Option.{none}
use Rattle.queue.specs.declared.Kind.{Kind}
use Rattle.queue.specs.declared.Frame.{Frame}
use Rattle.queue.specs.declared.Queue.{Queue}
use Rattle.queue.specs.Contents.{of_kind, Contents, contents_of}
use Rattle.queue.specs.Outcome.{Outcome}
use Rattle.queue.specs.Open.{no_frame}
use Rattle.number.specs.declared.refusal.Refusal.{Refusal}
use Rattle.number.specs.Refusal.{unsound}
use Rattle.number.specs.Reply.{Reply, refuse, accept, need, reply}

-- the queue of a frame and two runs of entries
abbrev pub queue_of : Frame → List ℕ → List ℕ → Queue
queue_of frame loads stores = record { frame = frame; load_entries = loads; store_entries = stores }

-- the same, by the entries of one kind and those of the other
abbrev pub queue_of_kind : Kind → Frame → List ℕ → List ℕ → Queue
queue_of_kind kind frame own others = queue_of frame (of_kind kind own others) (of_kind kind others own)

-- each run has just as many numbers as a side has places
unfoldable pub whole : List ℕ → List ℕ → Bool
whole loads stores = length loads == 64 && length stores == 64

-- a rule of a queue, where its entries are lent
abbrev pub on_parts : {A : Type 0} → List ℕ → List ℕ → Reply A → Reply A
on_parts loads stores rule = need (whole loads stores) unsound rule

-- On two runs of 64 numbers it is the rule itself (proofs/PartsLaws.antt). So a list of calls on parts is a run of the records
-- that these parts make, and demand 3 is said of it (`RunsOnParts.antt` of the crate `sequential`).
abbrev pub OnWholeRuns : Type 1
OnWholeRuns = (A : Type 0) (loads stores : List ℕ) (rule : Reply A) → length loads ≡ 64 → length stores ≡ 64 → on_parts loads stores rule ≡ rule

-- an answer with no value, and the queue
abbrev pub answered : ℕ → Queue → Outcome
answered n q = record { answer = n; value = none; queue = q }

-- Activate, write and take may move both sides of the frame; its table, all places of it, and its memory length stay.
pub record OpenedAlike (before after : Frame) : Type 0 where
  pub table : after.table ≡ before.table
  pub memory_length : after.memory_length ≡ before.memory_length

-- Opening a frame: an accepted opening hands back just this one. It holds no entry, so with whatever runs are lent it is the
-- queue that the rule gives. A refused opening has no frame to hand back, and that of no table stands for it, which means nothing.
pub record OpenedFrame : Type 0 where
  pub answer : ℕ
  pub frame : Frame

abbrev pub opened_by : Reply Frame → OpenedFrame
opened_by (accept frame) = record { answer = 0; frame = frame }
opened_by (refuse n) = record { answer = n; frame = no_frame }

abbrev pub opened_frame : Result Frame Refusal → OpenedFrame
opened_frame r = opened_by (reply r)

abbrev pub OpensFrame : Frame → Reply Contents → OpenedFrame → Type 0
OpensFrame fresh (refuse n) r = r ≡ record { answer = n; frame = no_frame }
OpensFrame fresh (accept q) r = (r ≡ record { answer = 0; frame = fresh }) × ((loads stores : List ℕ) → contents_of (queue_of fresh loads stores) ≡ q)
