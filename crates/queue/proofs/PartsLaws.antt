-- A queue's parts: what the check of them says, and what a rule on them comes to.
use Rattle.std.proofs.Common.{◌≡◌, ℕ, ◌≤◌, Bool, true, false, ◌&&◌, eqb, Err, List, length, replicate, sym, refl, ap, ◌∙◌, arith, eq-eqb, ne_eqb, eqb-true}
use Rattle.queue.specs.declared.Queue.{Queue}
use Rattle.queue.specs.declared.Kind.TheVariants.{Load as load, Store as store}
use Rattle.queue.specs.declared.Frame.{Frame}
use Rattle.number.specs.declared.refusal.Refusal.{Refusal}
use Rattle.number.specs.Refusal.{unsound, refusal_number}
use Rattle.number.specs.Reply.{Reply, refuse, accept, need}
use Rattle.queue.specs.Contents.{Contents, contents_of}
use Rattle.queue.specs.Sound.{sound}
use Rattle.queue.specs.Open.{fresh_queue, no_queue}
use Rattle.queue.specs.Outcome.{Opens}
use Rattle.queue.specs.Internal.{Checked, PartsChecked}
use Rattle.queue.specs.Parts.{queue_of, whole, on_parts, OnWholeRuns, OpenedFrame, OpensFrame}
use Rattle.number.proofs.Both.{and_left, and_right}
use Rattle.queue.proofs.SoundLaws.{count_most}

-- ---- the lengths of two runs
module _ (l s : List ℕ) where
  -- then a rule on the runs is the queue's own rule: `on_parts` goes away
  pub both-whole : length l ≡ 64 → length s ≡ 64 → whole l s ≡ true
  unfolding whole
  both-whole a b = rw (eq-eqb _ _ a, eq-eqb _ _ b)

  pub loads-not-whole : (length l ≡ 64 → ⊥) → whole l s ≡ false
  unfolding whole
  loads-not-whole n = rw (ne_eqb _ _ n)

  pub stores-not-whole : length l ≡ 64 → (length s ≡ 64 → ⊥) → whole l s ≡ false
  unfolding whole
  stores-not-whole a n = rw (eq-eqb _ _ a, ne_eqb _ _ n)

-- a queue's own runs
pub own-whole : (q : Queue) → length q.load_entries ≡ 64 → length q.store_entries ≡ 64 → whole q.load_entries q.store_entries ≡ true
own-whole q = both-whole q.load_entries q.store_entries

pub on_whole_runs : OnWholeRuns
on_whole_runs A l s rule a b = rw (both-whole l s a b)

-- ---- the check of a queue's parts
-- it passed: a rule on the parts is the queue's own, and each run has room for what its side holds
module _ {frame : Frame} {loads stores : List ℕ} (right : Checked frame loads stores) where
  pub full : whole loads stores ≡ true
  full = both-whole loads stores right.loads_whole right.stores_whole

  pub loads-room : frame.loads.count ≤ length loads
  loads-room = omega (arith, count_most (queue_of frame loads stores) right.right load, right.loads_whole)

  pub stores-room : frame.stores.count ≤ length stores
  stores-room = omega (arith, count_most (queue_of frame loads stores) right.right store, right.stores_whole)

module _ (l s : List ℕ) where
  whole-loads : whole l s ≡ true → length l ≡ 64
  unfolding whole
  whole-loads h = eqb-true _ 64 (and_left (eqb (length l) 64) (eqb (length s) 64) h)

  whole-stores : whole l s ≡ true → length s ≡ 64
  unfolding whole
  whole-stores h = eqb-true _ 64 (and_right (eqb (length l) 64) (eqb (length s) 64) h)

pub checked : (q : Queue) → true ≡ (whole q.load_entries q.store_entries && sound (contents_of q)) → Checked q.frame q.load_entries q.store_entries
checked q e =
    let is = and_left (whole q.load_entries q.store_entries) (sound (contents_of q)) (sym e) in
    record {
      right = and_right (whole q.load_entries q.store_entries) (sound (contents_of q)) (sym e);
      loads_whole = whole-loads q.load_entries q.store_entries is;
      stores_whole = whole-stores q.load_entries q.store_entries is;
    }

-- it did not: the runs are no queue's, or the queue is unsound, and that is 40 either way
pub unfit : {A : Type 0} (q : Queue) (rule : Reply A) (e : Refusal) → PartsChecked q (Err e) → (sound (contents_of q) ≡ false → rule ≡ refuse unsound)
    → on_parts q.load_entries q.store_entries rule ≡ refuse (refusal_number e)
unfit q rule e (is, not) h = rw is (go (whole q.load_entries q.store_entries) not)
  where
    go : (w : Bool) → (w && sound (contents_of q)) ≡ false → need w unsound rule ≡ refuse unsound
    go true z = h z
    go false z = refl

-- ---- an opened frame is an opened queue, with two runs of zeros
pub opens : (fresh : Frame) (rule : Reply Contents) (r : OpenedFrame) → OpensFrame fresh rule r
    → Opens no_queue rule (record { answer = r.answer; queue = fresh_queue r.frame })
opens fresh (refuse n) r e = ap (λ (o : OpenedFrame). record { answer = o.answer; queue = fresh_queue o.frame }) e
opens fresh (accept q) r e = (
  ap (λ (o : OpenedFrame). o.answer) e.0,
  ap (λ (o : OpenedFrame). contents_of (fresh_queue o.frame)) e.0
      ∙ e.1 (replicate 64 0) (replicate 64 0),
)
