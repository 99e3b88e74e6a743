-- On two runs of 64 numbers a call on the parts goes by the rule of the record that they make, so a list of such calls is a run.
use Prim.Native.Nat.{ℕ, ◌^◌, ◌<◌}
use mathlib.Core.Path.{◌≡◌, refl, sym, ap, ◌∙◌}
use mathlib.Core.Bool.{true}
use mathlib.Core.List.{List}
use lib.ListN.{length}
use Rattle.table.specs.declared.Table.{Table}
use Rattle.table.specs.Table.{groups_of}
use Rattle.queue.specs.declared.Queue.{Queue}
use Rattle.queue.specs.Outcome.{Outcome}
use Rattle.queue.specs.Ready.{Readied}
use Rattle.queue.specs.Parts.{OpenedFrame}
use Rattle.number.specs.Reply.{Reply, refuse, accept, number}
use Rattle.queue.specs.Contents.{Contents, contents_of}
use Rattle.queue.specs.Open.{open_queue, fresh_frame}
use Rattle.queue.specs.Ready.{ready, Readies}
use Rattle.queue.specs.Outcome.{no_value}
use Rattle.queue.specs.Parts.{queue_of, whole, OpensFrame}
use Rattle.queue.proofs.PartsLaws.{both-whole}
use Rattle.sequential.specs.Calls.{Call, Activate, Give, Serve, Write, Take, Ready}
use Rattle.sequential.specs.Answers.{Answered}
use Rattle.sequential.specs.Records.{Hands, Runs, run_none, run_one}
use Rattle.sequential.specs.RunsExist.{StoredEntries, Stored, StoredOutcome, Throughout, SomeRun}
use Rattle.sequential.specs.RunsOnParts.{on_entries, HandsOnParts, RunsOnParts, parts_none, parts_one, ThroughoutParts, ServeInHands}
use Rattle.sequential.specs.RunsOnParts.{ReadyInHands, PartsAreRecords, PartsDemand3, RunsOnPartsExist}
use Rattle.sequential.proofs.Run.{limits-opened}
use Rattle.sequential.proofs.RecordsDemand3.{open_proper, opened_frame, frames_demand3}
use Rattle.sequential.proofs.RunsExist.{fresh-stored, runs_exist}
use Rattle.number.proofs.ReplyLaws.{refused_some}

-- ---- the contracts
pub serve_in_hands : ServeInHands
serve_in_hands q m lent left serial r w = ((left, w), refl)

pub ready_in_hands : ReadyInHands
ready_in_hands q m run left kind r w = (go (on_entries q (ready kind (contents_of q) run)) w, refl)
  where
    go : (rule : Reply (List ℕ)) → Readies q run rule r left → no_value r.answer q ≡ no_value (number rule) q
    go (refuse n) w = ap (λ (x : Readied). no_value x.answer q) w.outcome
    go (accept found) w = ap (λ (x : Readied). no_value x.answer q) w.outcome

-- ---- one call
hands_on_record : (q : Queue) (m : List ℕ) (c : Call) (r : Outcome) (left : List ℕ) → whole q.load_entries q.store_entries ≡ true
    → HandsOnParts q m c r left → Hands q m c r left
hands_on_record q m (Activate g) r left e w = rw e at w
hands_on_record q m (Give kind port x) r left e w = rw e at w
hands_on_record q m (Serve lent s) r left e w = rw e at w
hands_on_record q m (Write s) r left e w = rw e at w
hands_on_record q m (Take p) r left e w = rw e at w
hands_on_record q m (Ready kind run) r left e w = rw e at w

-- ---- a list of calls
runs_on_record : {q q₂ : Queue} {m m₂ : List ℕ} {calls : List Call} {log : List Answered}
    → length q.load_entries ≡ 64 → length q.store_entries ≡ 64 → RunsOnParts q m calls log q₂ m₂ → Runs q m calls log q₂ m₂
runs_on_record l s parts_none = run_none
runs_on_record l s (parts_one {q} {m = m} {m₁} {c = c} r h same k) =
    run_one r
    (hands_on_record q m c r m₁ (both-whole q.load_entries q.store_entries l s) h)
    (runs_on_record (same.loads ∙ l) (same.stores ∙ s) k)

pub parts_are_records : PartsAreRecords
parts_are_records q q₂ m m₂ calls log l s run = runs_on_record l s run

pub parts-demand3 : PartsDemand3
parts-demand3 table load_depth store_depth first memory o serial opens accepted loads stores l s calls log q left run =
    frames_demand3 table load_depth store_depth first memory o serial opens accepted loads stores calls log q left
    (parts_are_records (queue_of o.frame loads stores) q memory left calls log l s run)

-- ---- there is such a list: a run of records, all of whose runs of entries have 64 numbers
hands_on_parts : (q : Queue) (m : List ℕ) (c : Call) (r : Outcome) (left : List ℕ) → whole q.load_entries q.store_entries ≡ true
    → Hands q m c r left → HandsOnParts q m c r left
hands_on_parts q m (Activate g) r left e w = rw e w
hands_on_parts q m (Give kind port x) r left e w = rw e w
hands_on_parts q m (Serve lent s) r left e w = rw e w
hands_on_parts q m (Write s) r left e w = rw e w
hands_on_parts q m (Take p) r left e w = rw e w
hands_on_parts q m (Ready kind run) r left e w = rw e w

unfoldable runs_on_parts : {q q₂ : Queue} {m m₂ : List ℕ} {calls : List Call} {log : List Answered} (table : Table)
    → length q.load_entries ≡ 64 → length q.store_entries ≡ 64
    → (run : Runs q m calls log q₂ m₂) → Throughout (StoredOutcome table) run → RunsOnParts q m calls log q₂ m₂
runs_on_parts table l s run_none t = parts_none
runs_on_parts table l s (run_one {q} {m = m} {m₁} {c = c} r h k) (held, t) =
    let l₁ : length r.queue.load_entries ≡ 64 = held.queue.load_entries.places in
    let s₁ : length r.queue.store_entries ≡ 64 = held.queue.store_entries.places in
    parts_one r
    (hands_on_parts q m c r m₁ (both-whole q.load_entries q.store_entries l s) h)
    (record { loads = l₁ ∙ sym l; stores = s₁ ∙ sym s })
    (runs_on_parts table l₁ s₁ k t)

parts-stored : {q q₂ : Queue} {m m₂ : List ℕ} {calls : List Call} {log : List Answered} (table : Table)
    (l : length q.load_entries ≡ 64) (s : length q.store_entries ≡ 64)
    (run : Runs q m calls log q₂ m₂) (t : Throughout (StoredOutcome table) run) → ThroughoutParts (StoredOutcome table) (runs_on_parts table l s run t)
unfolding runs_on_parts
parts-stored table l s run_none t = tt
parts-stored table l s (run_one r h k) (held, t) = (held, parts-stored table held.queue.load_entries.places held.queue.store_entries.places k t)

-- an opened frame, with any two runs of 64 numbers, is one that a program holds
frame-stored : (table : Table) (load_depth store_depth first : ℕ) (memory : List ℕ) (o : OpenedFrame) → first < 2 ^ 32
    → OpensFrame (fresh_frame table load_depth store_depth first (length memory)) (open_queue (groups_of table) load_depth store_depth first (length memory)) o
    → o.answer ≡ 0 → (l s : List ℕ) → StoredEntries l → StoredEntries s → Stored (queue_of o.frame l s)
frame-stored table load_depth store_depth first memory o small opens accepted l s ls ss =
    go (open_queue (groups_of table) load_depth store_depth first (length memory)) refl opens
  where
    go : (rule : Reply Contents) → open_queue (groups_of table) load_depth store_depth first (length memory) ≡ rule
        → OpensFrame (fresh_frame table load_depth store_depth first (length memory)) rule o → Stored (queue_of o.frame l s)
    go (refuse n) e w =
        let n-is : n ≡ 0 = sym (ap (λ (x : OpenedFrame). x.answer) w) ∙ accepted in
        absurd (refused_some _ (open_proper (groups_of table) load_depth store_depth first (length memory)) e n-is)
    go (accept c) e w =
        let (limits, queue_is) = limits-opened (groups_of table) load_depth store_depth first (length memory) c e in
        rw (ap (λ (x : OpenedFrame). x.frame) w.0) (fresh-stored table load_depth store_depth first (length memory) small limits l s ls ss)

pub runs_on_parts_exist : RunsOnPartsExist
runs_on_parts_exist table load_depth store_depth first memory o small opens accepted l s ls ss words calls fit =
    let w = opened_frame table load_depth store_depth first memory o small opens accepted l s in
    let some : SomeRun (queue_of o.frame l s) memory calls =
    runs_exist table memory (record { answer = o.answer; queue = queue_of o.frame l s }) w words calls fit in
    let stored : Stored (queue_of o.frame l s) = frame-stored table load_depth store_depth first memory o small opens accepted l s ls ss in
    record {
      log = some.log;
      last = some.last;
      left = some.left;
      run = runs_on_parts o.frame.table ls.places ss.places some.run (some.stored stored);
      stored = parts-stored o.frame.table ls.places ss.places some.run (some.stored stored);
    }
