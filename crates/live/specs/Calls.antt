-- What live calls hand to C and Rust. Each rule is the queue's own, on the parts that are lent (`on_parts`).
use Rattle.std.specs.Prelude.{ℕ, ◌≡◌, List, []}
use Rattle.std.proofs.Math.Option.{Option, none, some}
use Rattle.table.specs.declared.Table.{Table}
use Rattle.table.specs.Group.{GroupPairs}
use Rattle.table.specs.TableBytes.{pack}
use Rattle.queue.specs.declared.Queue.{Queue}
use Rattle.queue.specs.declared.Frame.{Frame}
use Rattle.number.specs.Reply.{Reply, refuse, accept, and_then}
use Rattle.queue.specs.Contents.{Contents, contents_of}
use Rattle.queue.specs.Open.{open_queue, fresh_frame}
use Rattle.queue.specs.Ready.{Readied}
use Rattle.queue.specs.Serve.{Served}
use Rattle.queue.specs.Write.{Written}
use Rattle.queue.specs.Take.{Taken}
use Rattle.queue.specs.Parts.{queue_of, OpensFrame}
use Rattle.replay.specs.Playing.{given_in, word_in}
use Rattle.live.specs.declared.calls.LiveOpened.{LiveOpened}
use Rattle.live.specs.declared.calls.LiveStep.{LiveStep}
use Rattle.live.specs.declared.calls.LiveService.{LiveService}
use Rattle.live.specs.declared.calls.LiveReady.{LiveReady}
use Rattle.table.specs.TableBytes.{read_table}

-- Opening on a table's bytes: the table's refusal, then that of opening.
abbrev pub open_bytes : List ℕ → ℕ → ℕ → ℕ → ℕ → Reply Contents
open_bytes table load_depth store_depth first words = and_then (read_table table) λ gs. open_queue gs load_depth store_depth first words

-- the record of the table that the bytes hold; of bytes that are refused, the table of no groups
abbrev pub packed_in : Reply (List GroupPairs) → Table
packed_in (refuse n) = pack []
packed_in (accept gs) = pack gs

abbrev pub LiveOpens : List ℕ → ℕ → ℕ → ℕ → ℕ → LiveOpened → Type 0
LiveOpens table load_depth store_depth first words r =
    OpensFrame (fresh_frame (packed_in (read_table table)) load_depth store_depth first words)
    (open_bytes table load_depth store_depth first words)
    (record { answer = r.answer; frame = r.frame })

-- What a live call tells: its answer, 1 or 0 as it gave a value or none, the value or 0, and the queue that its parts are left as.
pub record LiveTold : Type 0 where
  pub answer : ℕ
  pub given : ℕ
  pub value : ℕ
  pub queue : Queue

abbrev pub told_step : Frame → LiveStep → List ℕ → List ℕ → LiveTold
told_step frame r loads stores = record {
  answer = r.answer;
  given = r.given;
  value = r.value;
  queue = queue_of (record { table = frame.table; memory_length = frame.memory_length; loads = r.loads; stores = r.stores }) loads stores;
}

abbrev pub told_service : LiveService → Queue → LiveTold
told_service r q = record { answer = r.answer; given = r.given; value = r.value; queue = q }

-- what an accepted call gives: a value or none, and what the queue then holds
pub record Gives : Type 0 where
  pub value : Option ℕ
  pub queue : Contents

abbrev pub move_gives : Contents → Reply Gives
move_gives q = accept (record { value = none; queue = q })

abbrev pub take_gives : Taken → Reply Gives
take_gives t = accept (record { value = some t.value; queue = t.queue })

abbrev pub serve_gives : Served → Reply Gives
serve_gives s = accept (record { value = some s.value; queue = s.queue })

abbrev pub write_gives : Written → Reply Gives
write_gives w = accept (record { value = none; queue = w.queue })

pub record LiveAccepted (g : Gives) (t : LiveTold) : Type 0 where
  pub answer : t.answer ≡ 0
  pub given : t.given ≡ given_in g.value
  pub value : t.value ≡ word_in g.value
  pub holds : contents_of t.queue ≡ g.queue

-- a refusal tells its number and no value, and leaves the very queue
abbrev pub LiveTells : Queue → Reply Gives → LiveTold → Type 0
LiveTells q (refuse n) t = t ≡ record { answer = n; given = 0; value = 0; queue = q }
LiveTells q (accept g) t = LiveAccepted g t

-- the memory that a write leaves
abbrev pub memory_after : List ℕ → Reply Written → List ℕ
memory_after lent (refuse n) = lent
memory_after lent (accept w) = w.memory

abbrev pub live_readied : LiveReady → Queue → Readied
live_readied r q = record { answer = r.answer; count = r.count; queue = q }
