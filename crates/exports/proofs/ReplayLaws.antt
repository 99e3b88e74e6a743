-- Laws of replaying into lent memory, counts and buffers.
use Prim.Native.Nat.{ℕ, ◌≤◌, ◌<◌}
use mathlib.Core.Path.{◌≡◌, refl}
use mathlib.Core.List.{List, [], ◌∷◌}
use native.Mathlib.Omega.{arith}
use lib.ListN.{length, set}
use borrow.Author.Tests.{lt-leb, le-leb}
use Rattle.number.specs.Refusal.{too_short}
use Rattle.number.specs.Reply.{Reply, refuse, accept, number}
use Rattle.table.specs.Group.{GroupPairs}
use Rattle.table.specs.TableBytes.{read_table}
use Rattle.counts.specs.declared.Counts.{Counts}
use Rattle.replay.specs.Replay.{Replay, Buffers, replay}
use Rattle.replay.specs.Outcome.{Replayed, replayed_by, Replays}
use Rattle.exports.specs.Replay.{Lent, counts_of, counts_in, replay_lent, LentAfter, lent_after}

-- what `replay` gives on what was lent
abbrev replay_of : List GroupPairs → List ℕ → Lent → Reply Replay
replay_of gs trace l = replay gs trace l.memory (counts_of l.counts) l.buffers

-- ---- the order of checking
module _ (table trace : List ℕ) (l : Lent) where
  pub lent-table : {n : ℕ} → read_table table ≡ refuse n → replay_lent table trace l ≡ refuse n
  unfolding replay_lent
  lent-table e = rw e

  module _ {gs : List GroupPairs} (is : read_table table ≡ accept gs) where
    pub lent-short : length l.counts < 2 → replay_lent table trace l ≡ refuse too_short
    unfolding replay_lent
    lent-short h = rw (is, lt-leb _ _ h)

    lent-replays : 2 ≤ length l.counts → replay_lent table trace l ≡ replay_of gs trace l
    unfolding replay_lent
    lent-replays h = rw (is, le-leb _ _ h)

-- ---- what is answered and left
abbrev tell : ℕ → Lent → LentAfter
tell n l = record { answer = n; left = l }

pub answered-refused : (l : Lent) {rule : Reply Replay} {n : ℕ} → rule ≡ refuse n → tell n l ≡ lent_after l rule
answered-refused l e = rw e

-- both counts stored at the front of a run that has room for them
abbrev stored_in : Counts → List ℕ → List ℕ
stored_in c run = set (set run 0 c.loads) 1 c.forwarded

stored-front : (c : Counts) (run : List ℕ) → 2 ≤ length run → stored_in c run ≡ counts_in c run
stored-front c [] h = absurd (omega arith)
stored-front c (x ∷ []) h = absurd (omega arith)
stored-front c (x ∷ y ∷ rest) h = refl

-- the counts that it holds already
stored_same : (run : List ℕ) → 2 ≤ length run → stored_in (counts_of run) run ≡ run
stored_same [] h = absurd (omega arith)
stored_same (x ∷ []) h = absurd (omega arith)
stored_same (x ∷ y ∷ rest) h = refl

-- the answer of a replay, and what it leaves
abbrev replay_leaving : Lent → Replayed → List ℕ → Buffers → LentAfter
replay_leaving l r memory b = tell r.answer (record { memory = memory; counts = stored_in r.counts l.counts; buffers = b })

answered-replay : (l : Lent) (rule : Reply Replay) (r : Replayed) {memory : List ℕ} {b : Buffers} → 2 ≤ length l.counts
    → Replays l.memory (counts_of l.counts) l.buffers rule r memory b → replay_leaving l r memory b ≡ lent_after l rule
answered-replay l (refuse n) r h w = rw (w.outcome, w.memory_is, w.buffers_are, stored_same l.counts h)
answered-replay l (accept p) r h w = rw (w.outcome, w.memory_is, w.buffers_are, stored-front p.left.counts l.counts h)

-- the counts that a replay leaves are stored whether it is refused or not
pub answered-lent : (table trace : List ℕ) (l : Lent) {gs : List GroupPairs} → read_table table ≡ accept gs → 2 ≤ length l.counts
    → (done : Reply ℕ) (c : Counts) {memory : List ℕ} {b : Buffers}
    → Replays l.memory (counts_of l.counts) l.buffers (replay_of gs trace l) (replayed_by done c) memory b
    → tell (number done) (record { memory = memory; counts = stored_in c l.counts; buffers = b }) ≡ lent_after l (replay_lent table trace l)
answered-lent table trace l {gs} is h (accept n) c w = rw (lent-replays table trace l is h) (answered-replay l (replay_of gs trace l) _ h w)
answered-lent table trace l {gs} is h (refuse n) c w = rw (lent-replays table trace l is h) (answered-replay l (replay_of gs trace l) _ h w)
