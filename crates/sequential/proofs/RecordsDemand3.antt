-- A run of the records is the definitions' run of what they hold, so demand 3 carries over.
use Prim.Native.Nat.{ℕ, ◌^◌, ◌<◌}
use mathlib.Core.Path.{◌≡◌, refl, sym, ap, ap₂, ◌∙◌}
use mathlib.Core.Bool.{true}
use mathlib.Core.List.{List, ◌∷◌}
use mathlib.Core.Option.{Option, none}
use lib.Dec.{eqb}
use lib.ListN.{length}
use borrow.Author.Tests.{eqb-false, not-true}
use Rattle.table.specs.declared.Table.{Table}
use Rattle.number.specs.Basics.{all_of}
use Rattle.table.specs.Group.{GroupPairs}
use Rattle.table.specs.Table.{groups_of, check_table}
use Rattle.counts.specs.declared.Counts.{Counts}
use Rattle.queue.specs.declared.Queue.{Queue}
use Rattle.queue.specs.Outcome.{Outcome}
use Rattle.queue.specs.Outcome.{Opened}
use Rattle.queue.specs.Ready.{front_of, Readied}
use Rattle.queue.specs.declared.Frame.{Frame}
use Rattle.queue.specs.Parts.{OpenedFrame}
use Rattle.number.specs.Reply.{Reply, refuse, accept, number}
use Rattle.queue.specs.Contents.{Contents, contents_of}
use Rattle.queue.specs.Sound.{depth_right, memory_right}
use Rattle.queue.specs.Open.{group_fits, open_queue, fresh_frame}
use Rattle.queue.specs.Activate.{activate}
use Rattle.queue.specs.Arguments.{give}
use Rattle.queue.specs.Serve.{Served, serve}
use Rattle.queue.specs.Write.{Written, write}
use Rattle.queue.specs.Take.{Taken, take_rule}
use Rattle.queue.specs.Ready.{ready, Readies}
use Rattle.queue.specs.Outcome.{no_value, Accepted, HandedCounts, Moves, Takes, Serves, Writes, Opens, with_counts}
use Rattle.queue.specs.Parts.{queue_of, OpensFrame}
use Rattle.number.proofs.ReplyLaws.{need-among, and_then_among, not_zero}
use Rattle.queue.proofs.Refusals.{proper}
use Rattle.sequential.specs.Calls.{Call, Activate, Give, Serve, Write, Take, Ready}
use Rattle.sequential.specs.Answers.{Machine, Response, move_response, serve_response, write_response, take_response, step, Answered, answers}
use Rattle.sequential.specs.Answers.{machine_after, machine}
use Rattle.sequential.specs.Records.{answered_with, Hands, Runs, run_none, run_one, machine_of, OpenedRecord, ServeCountedHands, ServeHands}
use Rattle.sequential.specs.Records.{ReadyIntoHands, ReadyHands, ReadyFronts, RecordsDemand3, FramesDemand3, AlikeRecords, RecordsSound}
use Rattle.sequential.specs.Demand3.{Opening}
use Rattle.sequential.proofs.ReachedSound.{reached-sound}
use Rattle.sequential.proofs.Demand3.{demand3, alike}
use Rattle.table.proofs.Among.{check_table_among}

-- ---- one call: what it hands over is what the definitions' step gives
pub record Same (s : Response) (r : Outcome) (left : List ℕ) : Type 0 where
  pub number : s.number ≡ r.answer
  pub value : s.value ≡ r.value
  pub queue : s.machine.queue ≡ contents_of r.queue
  pub memory : s.machine.memory ≡ left

accepted_same : {v : Option ℕ} {c : Contents} {r : Outcome} (left : List ℕ) → Accepted v c r
    → Same (record { number = 0; value = v; machine = record { queue = c; memory = left } }) r left
accepted_same left w = record { number = sym w.answer; value = sym w.gives; queue = sym w.holds; memory = refl }

module _ (q : Queue) (m : List ℕ) where
  refused-same : {n : ℕ} {r : Outcome} → r ≡ no_value n q → Same (record { number = n; value = none; machine = machine_of q m }) r m
  refused-same e = record {
    number = sym (ap (λ (x : Outcome). x.answer) e);
    value = sym (ap (λ (x : Outcome). x.value) e);
    queue = sym (ap (λ (x : Outcome). contents_of x.queue) e);
    memory = refl;
  }

  moves-same : (rule : Reply Contents) (r : Outcome) → Moves q rule r → Same (move_response (machine_of q m) rule) r m
  moves-same (refuse n) r e = refused-same e
  moves-same (accept c) r w = accepted_same m w

  takes_same : (rule : Reply Taken) (r : Outcome) → Takes q rule r → Same (take_response (machine_of q m) rule) r m
  takes_same (refuse n) r e = refused-same e
  takes_same (accept t) r w = accepted_same m w

  serves-same : (rule : Reply Served) (lent left : Counts) (r : Outcome) → Serves q lent rule (with_counts r left)
      → Same (serve_response (machine_of q m) rule) r m
  serves-same (refuse n) lent left r e = refused-same (ap (λ (x : HandedCounts). x.outcome) e)
  serves-same (accept s) lent left r w = record { number = sym w.answer; value = sym w.gives; queue = sym w.holds; memory = refl }

  writes-same : (rule : Reply Written) (r : Outcome) (left : List ℕ) → Writes q m rule r left → Same (write_response (machine_of q m) rule) r left
  writes-same (refuse n) r left w = rw w.memory_is (refused-same w.outcome)
  writes-same (accept x) r left w = rw w.memory_is (accepted_same x.memory w.outcome)

  -- a call that is not lent the memory
  kept : {s : Response} {r : Outcome} (left : List ℕ) → Same s r m → left ≡ m → Same s r left
  kept left s e = rw e s

  pub hands-same : (c : Call) (r : Outcome) (left : List ℕ) → Hands q m c r left → Same (step (machine_of q m) c) r left
  hands-same (Activate g) r left (w, e) = kept left (moves-same (activate (contents_of q) g) r w) e
  hands-same (Give kind p x) r left (w, e) = kept left (moves-same (give kind (contents_of q) p x) r w) e
  hands-same (Serve lent s) r left ((counts, w), e) = kept left (serves-same (serve (contents_of q) m s) lent counts r w) e
  hands-same (Write s) r left w = writes-same (write (contents_of q) m s) r left w
  hands-same (Take p) r left (w, e) = kept left (takes_same (take_rule (contents_of q) p) r w) e
  hands-same (Ready kind run) r left (w, e) = kept left (refused-same w) e

-- ---- the contracts of both ways to serve, and of both ways to ask what is ready
pub serve_counted_hands : ServeCountedHands
serve_counted_hands q m lent serial r w = ((r.counts, w), refl)

pub serve-hands : ServeHands
serve-hands q m lent left serial r w = ((left, w), refl)

pub ready_into_hands : ReadyIntoHands
ready_into_hands q m run left kind r w = (go (ready kind (contents_of q) run) w, refl)
  where
    go : (rule : Reply (List ℕ)) → Readies q run rule r left → no_value r.answer r.queue ≡ no_value (number rule) q
    go (refuse n) w = ap (λ (x : Readied). no_value x.answer x.queue) w.outcome
    go (accept found) w = ap (λ (x : Readied). no_value x.answer x.queue) w.outcome

pub ready-hands : ReadyHands
ready-hands q m run serials kind answer queue w = (ap₂ no_value w.answer_is w.queue_is, refl)

pub ready_fronts : ReadyFronts
ready_fronts q run kind r e = record { answer_is = ap number e; serials_are = ap front_of e; queue_is = refl }

-- ---- a run's answers and what it leaves
pub record Agrees (m : Machine) (calls : List Call) (log : List Answered) (left : Machine) : Type 0 where
  pub says : answers m calls ≡ log
  pub ends : machine_after m calls ≡ left

abbrev entered : Call → ℕ → Option ℕ → Answered
entered c n v = record { call = c; number = n; value = v }

one_more : {m : Machine} {c : Call} {cs : List Call} {log : List Answered} {left : Machine} {r : Outcome} {l : List ℕ}
    → Same (step m c) r l → Agrees (machine_of r.queue l) cs log left → Agrees m (c ∷ cs) (answered_with c r ∷ log) left
one_more {m} {c} {cs} {r = r} {l = l} s a =
    let e : (step m c).machine ≡ machine_of r.queue l = ap₂ machine s.queue s.memory in
    record {
      says =
          ap₂ (λ (x : Answered) (xs : List Answered). x ∷ xs)
          (ap₂ (entered c) s.number s.value)
          (ap (λ (k : Machine). answers k cs) e ∙ a.says);
      ends = ap (λ (k : Machine). machine_after k cs) e ∙ a.ends;
    }

pub runs-agree : {q : Queue} {m : List ℕ} {calls : List Call} {log : List Answered} {q₂ : Queue} {m₂ : List ℕ}
    → Runs q m calls log q₂ m₂ → Agrees (machine_of q m) calls log (machine_of q₂ m₂)
runs-agree run_none = record { says = refl; ends = refl }
runs-agree (run_one {q} {m = m} {m₁} {c = c} r h k) = one_more (hands-same q m c r m₁ h) (runs-agree k)

-- ---- an opening
-- a refused one has a number
pub open_proper : (groups : List GroupPairs) (load_depth store_depth first words : ℕ)
    → proper (open_queue groups load_depth store_depth first words) ≡ true
unfolding open_queue
open_proper groups load_depth store_depth first words =
    and_then_among not_zero (check_table groups) _ (check_table_among not_zero refl groups) λ right.
    need-among not_zero (depth_right load_depth) _ _ refl
    (need-among not_zero (depth_right store_depth) _ _ refl
    (need-among not_zero (memory_right words) _ _ refl (need-among not_zero (all_of (group_fits load_depth store_depth) groups) _ _ refl refl)))

-- such an opening is one in the sense of demand 3
unfoldable pub opening : {table : Table} {memory : List ℕ} {o : Opened} → OpenedRecord table memory o
    → Opening (groups_of table) memory (machine_of o.queue memory)
opening {table} {memory} {o} w = record {
  load_depth = w.load_depth;
  store_depth = w.store_depth;
  first = w.first;
  serial = w.serial;
  accepted = go (open_queue (groups_of table) w.load_depth w.store_depth w.first (length memory)) (open_proper _ _ _ _ _) w.opens;
  lent = refl;
}
  where
    go : (rule : Reply Contents) → proper rule ≡ true → Opens w.refused rule o → rule ≡ accept (contents_of o.queue)
    go (refuse n) p e = absurd (eqb-false n 0 (not-true (eqb n 0) p) (sym (ap (λ (x : Opened). x.answer) e) ∙ w.accepted))
    go (accept c) p e = ap accept (sym e.1)

pub records_demand3 : RecordsDemand3
records_demand3 table memory o w calls log q left run fill below =
    let a = runs-agree run in
    rw (← a.says, ← a.ends) (demand3 (groups_of table) memory (machine_of o.queue memory) (opening w) calls fill below)

-- an opened frame, with any two runs, is an opened record
pub opened-parts : (fresh : Frame) (rule : Reply Contents) (o : OpenedFrame) (l s : List ℕ) → OpensFrame fresh rule o
    → Opens (queue_of o.frame l s) rule (record { answer = o.answer; queue = queue_of o.frame l s })
opened-parts fresh (refuse n) o l s e = ap (λ (x : OpenedFrame). record { answer = x.answer; queue = queue_of o.frame l s }) e
opened-parts fresh (accept q) o l s e =
    (ap (λ (x : OpenedFrame). x.answer) e.0, ap (λ (x : OpenedFrame). contents_of (queue_of x.frame l s)) e.0 ∙ e.1 l s)

unfoldable pub opened_frame : (table : Table) (load_depth store_depth first : ℕ) (memory : List ℕ) (o : OpenedFrame) → first < 2 ^ 32
    → OpensFrame (fresh_frame table load_depth store_depth first (length memory)) (open_queue (groups_of table) load_depth store_depth first (length memory)) o
    → o.answer ≡ 0 → (l s : List ℕ) → OpenedRecord table memory (record { answer = o.answer; queue = queue_of o.frame l s })
opened_frame table load_depth store_depth first memory o serial opens accepted l s = record {
  load_depth = load_depth;
  store_depth = store_depth;
  first = first;
  serial = serial;
  refused = queue_of o.frame l s;
  opens =
      opened-parts (fresh_frame table load_depth store_depth first (length memory))
      (open_queue (groups_of table) load_depth store_depth first (length memory))
      o l s opens;
  accepted = accepted;
}

pub frames_demand3 : FramesDemand3
frames_demand3 table load_depth store_depth first memory o serial opens accepted l s =
    records_demand3 table memory (record { answer = o.answer; queue = queue_of o.frame l s })
    (opened_frame table load_depth store_depth first memory o serial opens accepted l s)

pub alike_records : AlikeRecords
alike_records table₁ table₂ same memory o₁ o₂ w₁ w₂ calls₁ calls₂ log₁ log₂ q₁ q₂ left₁ left₂ run₁ run₂ =
    let a = runs-agree run₁ in
    let b = runs-agree run₂ in
    let w : Opening (groups_of table₁) memory (machine_of o₂.queue memory) = rw same (opening w₂) in
    rw (← a.says, ← b.says)
    (alike (groups_of table₁) memory (machine_of o₁.queue memory) (machine_of o₂.queue memory) (opening w₁) w calls₁ calls₂)

pub records_sound : RecordsSound
records_sound table memory o w calls log q left run =
    let a = runs-agree run in
    let e : contents_of q ≡ (machine_after (machine_of o.queue memory) calls).queue = ap (λ (m : Machine). m.queue) (sym a.ends) in
    rw e (reached-sound (groups_of table) memory (machine_of o.queue memory) (opening w) calls)
