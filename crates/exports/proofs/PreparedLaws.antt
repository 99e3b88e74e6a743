-- What a caller is told of a table and a trace.
use Prim.Native.Nat.{ℕ}
use mathlib.Core.Path.{◌≡◌, refl, ap, sym}
use mathlib.Core.List.{List}
use Rattle.number.specs.Reply.{Reply, refuse, accept, number}
use Rattle.number.proofs.ReplyLaws.{refused-accepted}
use Rattle.table.specs.Group.{GroupPairs}
use Rattle.table.specs.TableBytes.{table_reply, table_answer}
use Rattle.replay.specs.declared.Prepared.{Prepared}
use Rattle.replay.specs.Replay.{Start}
use Rattle.replay.specs.Outcome.{prepared_as}
use Rattle.exports.specs.Prepared.{event_count, memory_length}

pub number_read : (rule : Reply (List GroupPairs)) → number (table_reply rule) ≡ (table_answer rule).answer
number_read (refuse n) = refl
number_read (accept gs) = refl

pub number_prepared : (rule : Reply Start) → number (prepared_as rule) ≡ number rule
number_prepared (refuse n) = refl
number_prepared (accept s) = refl

-- a trace that can be played
pub told : (rule : Reply Start) {r : Prepared} → accept r ≡ prepared_as rule → (r.events ≡ event_count rule) × (r.memory_length ≡ memory_length rule)
told (refuse n) e = refused-accepted (sym e)
told (accept s) {r} e =
    let same : r ≡ record { memory_length = memory_length (accept s); events = event_count (accept s) } = cc in
    (ap (λ (x : Prepared). x.events) same, ap (λ (x : Prepared). x.memory_length) same)

-- one that is refused
pub untold : (rule : Reply Start) {n : ℕ} → refuse n ≡ prepared_as rule → (0 ≡ event_count rule) × (0 ≡ memory_length rule)
untold (refuse n) e = (refl, refl)
untold (accept s) e = refused-accepted e
