-- Replaying a trace into lent memory, counts and buffers.
use Rattle.std.specs.Prelude.{ℕ, List, [], ◌∷◌, leb, length, get_or}
use Rattle.number.specs.Refusal.{too_short}
use Rattle.counts.specs.declared.Counts.{Counts}
use Rattle.number.specs.Reply.{Reply, refuse, accept, need, and_then}
use Rattle.table.specs.TableBytes.{read_table}
use Rattle.replay.specs.Replay.{Replay, Buffers, replay}
use Rattle.replay.specs.Outcome.{at_front, log_in}

-- all that is lent: the memory, the counts as a run of numbers, and the buffers for answers and values
pub record Lent : Type 0 where
  pub memory : List ℕ
  pub counts : List ℕ
  pub buffers : Buffers

abbrev pub lent : List ℕ → List ℕ → List ℕ → List ℕ → List ℕ → Lent
lent memory counts answers given values = record { memory = memory; counts = counts; buffers = record { answers = answers; given = given; values = values } }

-- the counts that a lent run holds at its front: loads, then forwarded
abbrev pub counts_of : List ℕ → Counts
counts_of run = record { loads = get_or run 0 0; forwarded = get_or run 1 0 }

-- a lent run with these counts at its front; it keeps the rest
abbrev pub counts_in : Counts → List ℕ → List ℕ
counts_in c run = at_front (c.loads ∷ c.forwarded ∷ []) run

-- In the order of checking: the table's refusal; 10 the run of counts is shorter than 2; what `replay` refuses, which is the
-- trace's refusal, 30 or 10.
unfoldable pub replay_lent : List ℕ → List ℕ → Lent → Reply Replay
replay_lent table trace l =
    and_then (read_table table) λ gs.
    need (leb 2 (length l.counts)) too_short
    (replay gs trace l.memory (counts_of l.counts) l.buffers)

-- an answer, and what was lent as it is left
pub record LentAfter : Type 0 where
  pub answer : ℕ
  pub left : Lent

-- A refusal leaves all that was lent as it was. Else the answer is 0, and what was lent holds the memory and the counts that
-- the events leave, and for each event, at the front of the buffers, its answer, 1 or 0 as it gave a value or none, and the
-- value or 0.
abbrev pub lent_after : Lent → Reply Replay → LentAfter
lent_after l (refuse n) = record { answer = n; left = l }
lent_after l (accept p) = record {
  answer = 0;
  left = record {
    memory = p.left.machine.memory;
    counts = counts_in p.left.counts l.counts;
    buffers = log_in p.log l.buffers;
  };
}
