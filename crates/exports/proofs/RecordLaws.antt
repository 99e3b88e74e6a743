-- Laws of the record that a replay into lent memory, counts and buffers leaves.
use Prim.Native.Nat.{ℕ}
use native.Mathlib.Omega.{arith}
use mathlib.Core.Path.{◌≡◌, refl, sym, ap, ◌∙◌}
use mathlib.Core.Bool.{true}
use mathlib.Core.List.{List}
use lib.Dec.{leb}
use lib.ListN.{length}
use Rattle.number.specs.Refusal.{too_short}
use Rattle.number.specs.Reply.{Reply, refuse, accept, number, reply}
use Rattle.number.specs.declared.refusal.Refusal.{Refusal}
use Rattle.number.proofs.AnswerLaws.{refusals_positive}
use Rattle.std.specs.Prelude.{Result, Ok, Err, is_ok, false}
use Rattle.queue.proofs.Lists.{false-true}
use Rattle.table.specs.TableBytes.{read_table}
use Rattle.replay.specs.Replay.{Replay}
use Rattle.replay.proofs.ReplayLaws.{replay_proper}
use Rattle.table.proofs.Among.{table_among}
use Rattle.number.proofs.ReplyLaws.{need-accepts, and_then_accepts, refuses_among, need-among, and_then_among, not_zero, refused_some}
use Rattle.shift.specs.declared.ShiftRecord.{ShiftRecord}
use Rattle.paged.specs.Recorded.{record_buffered, trace_events, kept_after}
use Rattle.paged.proofs.BufferLaws.{buffered_log, replay-events}
use Rattle.exports.specs.Replay.{Lent, counts_of, replay_lent, LentAfter, lent_after}

-- an answer's number is 0 just where it is no refusal
pub ok-nought : {A : Type 0} (r : Result A Refusal) → true ≡ is_ok r → number (reply r) ≡ 0
ok-nought (Ok a) e = refl
ok-nought (Err n) e = false-true (sym e)

pub err-apart : {A : Type 0} (r : Result A Refusal) → false ≡ is_ok r → number (reply r) ≡ 0 → ⊥
err-apart (Ok a) e nought = false-true e
err-apart (Err n) e nought = absurd (omega (arith, refusals_positive n, nought))

module _ (table trace : List ℕ) (l : Lent) where
  -- no refusal is 0
  lent-proper : refuses_among not_zero (replay_lent table trace l) ≡ true
  unfolding replay_lent
  lent-proper =
      and_then_among not_zero (read_table table) _ (table_among not_zero refl table) λ gs.
      need-among not_zero (leb 2 (length l.counts)) too_short _ refl (replay_proper gs trace l.memory (counts_of l.counts) l.buffers)

  -- as many answers as the trace has events
  lent-events : (p : Replay) → replay_lent table trace l ≡ accept p → length p.log ≡ length (trace_events trace)
  unfolding replay_lent
  lent-events p e₀ =
      let (gs, d, e₁) = and_then_accepts (read_table table) _ e₀ in
      let (room, e₂) = need-accepts (leb 2 (length l.counts)) too_short _ e₁ in
      replay-events gs trace l.memory (counts_of l.counts) l.buffers p e₂

  -- what is kept, where the replay is refused and where it is accepted
  module _ (kept : ShiftRecord) (left : Lent) {answer : ℕ} (w : record { answer = answer; left = left } ≡ lent_after l (replay_lent table trace l)) where
    pub lent-kept-refused : (answer ≡ 0 → ⊥) → kept ≡ kept_after kept trace (replay_lent table trace l)
    lent-kept-refused apart = go (replay_lent table trace l) w
      where
        go : (rule : Reply Replay) → record { answer = answer; left = left } ≡ lent_after l rule → kept ≡ kept_after kept trace rule
        go (refuse n) v = refl
        go (accept p) v = absurd (apart (ap (λ (x : LentAfter). x.answer) v))

    pub lent-kept-accepted : answer ≡ 0 → {next : ShiftRecord}
        → next ≡ record_buffered kept (trace_events trace) left.buffers.given left.buffers.values
        → next ≡ kept_after kept trace (replay_lent table trace l)
    lent-kept-accepted nought {next} e = go (replay_lent table trace l) refl w
      where
        go : (rule : Reply Replay) → replay_lent table trace l ≡ rule → record { answer = answer; left = left } ≡ lent_after l rule
            → next ≡ kept_after kept trace rule
        go (refuse n) d v = absurd (refused_some _ lent-proper d (sym (ap (λ (x : LentAfter). x.answer) v) ∙ nought))
        go (accept p) d v =
            e ∙ ap (λ (x : LentAfter). record_buffered kept (trace_events trace) x.left.buffers.given x.left.buffers.values) v
            ∙ buffered_log kept (trace_events trace) p.log _ _ (lent-events p d)
