-- A run of records exists: what a rule refuses is handed back as it is, and what it accepts is packed into a record anew.
use Prim.Native.Nat.{ℕ, ◌^◌, ◌≤◌, ◌<◌}
use mathlib.Core.Path.{◌≡◌, refl, sym, ap, ap₂, ◌∙◌, subst}
use mathlib.Core.Logic.{◌⊎◌, inl, inr}
use mathlib.Core.Bool.{true}
use mathlib.Core.List.{List, [], ◌∷◌, ◌++◌}
use lib.ListN.{length, replicate}
use native.Mathlib.Omega.{arith}
use Rattle.table.specs.declared.Table.{Table}
use Rattle.number.specs.Basics.{all_of}
use Rattle.table.specs.Group.{GroupPairs}
use Rattle.table.specs.Table.{groups_of, check_table}
use Rattle.counts.specs.declared.Counts.{Counts}
use Rattle.counts.specs.Counts.{counted}
use Rattle.queue.specs.declared.Kind.TheVariants.{Load, Store}
use Rattle.queue.specs.declared.Queue.{Queue}
use mathlib.Core.Option.{none, some}
use Rattle.queue.specs.Outcome.{Outcome}
use Rattle.queue.specs.Outcome.{Opened}
use Rattle.number.specs.Reply.{Reply, refuse, accept, number}
use Rattle.queue.specs.Contents.{Contents, contents_of}
use Rattle.queue.specs.Sound.{sound}
use Rattle.queue.specs.Open.{opened, open_queue, no_queue, fresh_frame, fresh_queue}
use Rattle.queue.specs.Activate.{activate}
use Rattle.queue.specs.Arguments.{give}
use Rattle.queue.specs.Serve.{Served, serve}
use Rattle.queue.specs.Write.{Written, write}
use Rattle.queue.specs.Take.{Taken, take_rule}
use Rattle.queue.specs.Ready.{ready}
use Rattle.queue.specs.Outcome.{Moves, Takes, Serves, Writes, Opens, with_counts}
use Rattle.queue.specs.Parts.{queue_of, answered}
use Rattle.number.proofs.Both.{and_left, and_right}
use Rattle.queue.proofs.SoundLaws.{within_most}
use Rattle.sequential.specs.Calls.{Call, Activate, Give, Serve, Write, Take, Ready}
use Rattle.sequential.specs.Answers.{Machine, Response, Answered, move_response, serve_response, write_response, take_response, step, machine}
use Rattle.sequential.specs.Records.{answered_with, Hands, run_none, run_one, machine_of}
use Rattle.sequential.specs.Demand3.{Opening}
use Rattle.sequential.specs.RunsExist.{bits_fit, argument_fits, StoredEntries, Stored, StoredOutcome, Throughout, SomeRun, RunsExist}
use Rattle.sequential.specs.RunsExist.{OpeningsExist}
use Rattle.sequential.proofs.Invariant.{Limits, Invariant}
use Rattle.sequential.proofs.Run.{limits-opened, opening-state, step_keeps}
use Rattle.sequential.proofs.ReachedSound.{holds-sound}
use Rattle.sequential.proofs.RecordsDemand3.{Same, hands-same, open_proper, opening}
use Rattle.sequential.proofs.Stored.{record_of, record-holds, record-stored}
use Rattle.sequential.proofs.Fits.{Fits, Fitting, step_fits}
use Rattle.number.proofs.ReplyLaws.{accepted-passed, refused_some}

-- ---- one call
-- something that it may hand over: the queue that follows is the very one, or the record of what the definitions' step leaves
record Next (q : Queue) (s : Response) (Given : Outcome → List ℕ → Type 0) : Type 0 where
  outcome : Outcome
  left : List ℕ
  given : Given outcome left
  kept : (outcome.queue ≡ q) ⊎ (outcome.queue ≡ record_of q.frame.table s.machine.queue)

module _ (q : Queue) (m : List ℕ) where
  -- the record of what the step leaves holds it
  abbrev Packed : Response → Type 0
  Packed s = contents_of (record_of q.frame.table s.machine.queue) ≡ s.machine.queue

  moves_next : (rule : Reply Contents) → Packed (move_response (machine_of q m) rule)
      → Next q (move_response (machine_of q m) rule) (λ r left. Moves q rule r × (left ≡ m))
  moves_next (refuse n) p = record { outcome = answered n q; left = m; given = (refl, refl); kept = inl refl }
  moves_next (accept c) p = record {
    outcome = record { answer = 0; value = none; queue = record_of q.frame.table c };
    left = m;
    given = (record { answer = refl; gives = refl; holds = p }, refl);
    kept = inr refl;
  }

  takes-next : (rule : Reply Taken) → Packed (take_response (machine_of q m) rule)
      → Next q (take_response (machine_of q m) rule) (λ r left. Takes q rule r × (left ≡ m))
  takes-next (refuse n) p = record { outcome = answered n q; left = m; given = (refl, refl); kept = inl refl }
  takes-next (accept t) p = record {
    outcome = record { answer = 0; value = some t.value; queue = record_of q.frame.table t.queue };
    left = m;
    given = (record { answer = refl; gives = refl; holds = p }, refl);
    kept = inr refl;
  }

  serves-next : (lent : Counts) (rule : Reply Served) → Packed (serve_response (machine_of q m) rule)
      → Next q (serve_response (machine_of q m) rule) (λ r left. ((counts : Counts) × Serves q lent rule (with_counts r counts)) × (left ≡ m))
  serves-next lent (refuse n) p = record { outcome = answered n q; left = m; given = ((lent, refl), refl); kept = inl refl }
  serves-next lent (accept s) p = record {
    outcome = record { answer = 0; value = some s.value; queue = record_of q.frame.table s.queue };
    left = m;
    given = ((counted s.forwarded lent, record { answer = refl; gives = refl; holds = p; counts = refl }), refl);
    kept = inr refl;
  }

  writes-next : (rule : Reply Written) → Packed (write_response (machine_of q m) rule) → Next q (write_response (machine_of q m) rule) (Writes q m rule)
  writes-next (refuse n) p = record { outcome = answered n q; left = m; given = record { outcome = refl; memory_is = refl }; kept = inl refl }
  writes-next (accept w) p = record {
    outcome = record { answer = 0; value = none; queue = record_of q.frame.table w.queue };
    left = w.memory;
    given = record { outcome = record { answer = refl; gives = refl; holds = p }; memory_is = refl };
    kept = inr refl;
  }

  next_of : (c : Call) → Packed (step (machine_of q m) c) → Next q (step (machine_of q m) c) (Hands q m c)
  next_of (Activate g) p = moves_next (activate (contents_of q) g) p
  next_of (Give kind port x) p = moves_next (give kind (contents_of q) port x) p
  next_of (Serve lent s) p = serves-next lent (serve (contents_of q) m s) p
  next_of (Write s) p = writes-next (write (contents_of q) m s) p
  next_of (Take port) p = takes-next (take_rule (contents_of q) port) p
  next_of (Ready kind run) p = record { outcome = answered (number (ready kind (contents_of q) run)) q; left = m; given = (refl, refl); kept = inl refl }

groups-held : (q : Queue) → groups_of q.frame.table ≡ (contents_of q).groups
unfolding contents_of
groups-held q = refl

-- ---- a call that a list has come to
module _ (groups : List GroupPairs) (memory : List ℕ) (before : List Answered) (q : Queue) (m : List ℕ)
    (st : Invariant groups memory before (machine_of q m)) (f : Fits (machine_of q m)) (c : Call) (h : argument_fits c ≡ true) where
  abbrev after : Response
  after = step (machine_of q m) c

  abbrev so_far : List Answered
  so_far = before ++ record { call = c; number = after.number; value = after.value } ∷ []

  state : Invariant groups memory so_far after.machine
  state = step_keeps groups memory before (machine_of q m) st c

  fitting : Fitting after
  fitting = step_fits (machine_of q m) f (accepted-passed (check_table (contents_of q).groups) st.holds.limits.table_right) c h

  right : sound after.machine.queue ≡ true
  right = holds-sound after.machine.queue after.machine.memory memory state.log state.holds

  chosen : Next q after (Hands q m c)
  chosen =
      next_of q m c
      (record-holds q.frame.table after.machine.queue right fitting.left.entries
      (groups-held q ∙ st.table ∙ sym state.table))

  same : Same after chosen.outcome chosen.left
  same = hands-same q m c chosen.outcome chosen.left chosen.given

  is-machine : after.machine ≡ machine_of chosen.outcome.queue chosen.left
  is-machine = ap₂ machine same.queue same.memory

  -- the very queue is stored, and so is the record of what the step leaves
  queue-stored : Stored q → Stored chosen.outcome.queue
  queue-stored s = go chosen.kept
    where
      go : (chosen.outcome.queue ≡ q) ⊎ (chosen.outcome.queue ≡ record_of q.frame.table after.machine.queue)
          → Stored chosen.outcome.queue
      go (inl e) = rw e s
      go (inr e) =
          rw e
          (record-stored q.frame.table after.machine.queue right fitting.left.entries
          fitting.left.next)

  table_kept : chosen.outcome.queue.frame.table ≡ q.frame.table
  table_kept = go chosen.kept
    where
      go : (chosen.outcome.queue ≡ q) ⊎ (chosen.outcome.queue ≡ record_of q.frame.table after.machine.queue)
          → chosen.outcome.queue.frame.table ≡ q.frame.table
      go (inl e) = ap (λ (x : Queue). x.frame.table) e
      go (inr e) = ap (λ (x : Queue). x.frame.table) e

  handed : Stored q → StoredOutcome q.frame.table chosen.outcome chosen.left
  handed s = record {
    answer = rw same.number at fitting.number;
    value = rw same.value at fitting.value;
    queue = queue-stored s;
    table_is = table_kept;
    words = rw same.memory at fitting.left.memory;
  }

  -- a run of the calls that follow makes one of them all
  one_more : (calls : List Call) → SomeRun chosen.outcome.queue chosen.left calls → SomeRun q m (c ∷ calls)
  one_more calls rest = record {
    log = answered_with c chosen.outcome ∷ rest.log;
    last = rest.last;
    left = rest.left;
    run = run_one chosen.outcome chosen.given rest.run;
    stored = λ s. (handed s, subst (λ (t : Table). Throughout (StoredOutcome t) rest.run) table_kept (rest.stored (queue-stored s)));
  }

-- ---- a list of calls
some_run : (groups : List GroupPairs) (memory : List ℕ) (before : List Answered) (q : Queue) (m : List ℕ)
    → Invariant groups memory before (machine_of q m) → Fits (machine_of q m) → (calls : List Call) → all_of argument_fits calls ≡ true → SomeRun q m calls
some_run groups memory before q m st f [] h = record { log = []; last = q; left = m; run = run_none; stored = λ s. tt }
some_run groups memory before q m st f (c ∷ calls) h =
    let k : argument_fits c ≡ true = and_left (argument_fits c) (all_of argument_fits calls) h in
    let n : Next q (step (machine_of q m) c) (Hands q m c) = chosen groups memory before q m st f c k in
    let e : (step (machine_of q m) c).machine ≡ machine_of n.outcome.queue n.left = is-machine groups memory before q m st f c k in
    one_more groups memory before q m st f c k calls
    (some_run groups memory (so_far groups memory before q m st f c k) n.outcome.queue n.left
    (subst (Invariant groups memory (so_far groups memory before q m st f c k)) e (state groups memory before q m st f c k))
    (subst Fits e (fitting groups memory before q m st f c k).left)
    calls (and_right (argument_fits c) (all_of argument_fits calls) h))

-- the opening: no entry yet
opening-fits : {groups : List GroupPairs} {memory : List ℕ} {m : Machine} → Opening groups memory m → all_of (bits_fit 32) memory ≡ true → Fits m
opening-fits {groups} {memory} {m} o words =
    let (limits, queue_is) = limits-opened groups o.load_depth o.store_depth o.first (length memory) m.queue o.accepted in
    subst Fits (ap₂ machine queue_is (sym o.lent))
    (record { entries = elim [ Load ↦ refl | Store ↦ refl ]; next = elim [ Load ↦ o.serial | Store ↦ o.serial ]; memory = words })

pub runs_exist : RunsExist
runs_exist table memory o w words calls small =
    some_run (groups_of table) memory [] o.queue memory (opening-state (opening w)) (opening-fits (opening w) words) calls small

-- ---- an opening to begin with
fresh_holds : (table : Table) (load_depth store_depth first words : ℕ)
    → contents_of (fresh_queue (fresh_frame table load_depth store_depth first words)) ≡ opened (groups_of table) load_depth store_depth first words
unfolding contents_of
fresh_holds table load_depth store_depth first words = refl

pub fresh-stored : {groups : List GroupPairs} (table : Table) (load_depth store_depth first words : ℕ) → first < 2 ^ 32
    → Limits groups words load_depth store_depth → (l s : List ℕ) → StoredEntries l → StoredEntries s
    → Stored (queue_of (fresh_frame table load_depth store_depth first words) l s)
fresh-stored table load_depth store_depth first words small limits l s ls ss =
    let most : words ≤ 4096 = within_most 1 4096 words limits.words_right in
    let loads : load_depth ≤ 64 = within_most 1 64 load_depth limits.load_depth_right in
    let stores : store_depth ≤ 64 = within_most 1 64 store_depth limits.store_depth_right in
    record {
      words = omega arith;
      loads = record { depth = omega arith; count = omega arith; next = small };
      stores = record { depth = omega arith; count = omega arith; next = small };
      load_entries = ls;
      store_entries = ss;
    }

pub openings_exist : OpeningsExist
openings_exist table memory load_depth store_depth first small accepted =
    go (open_queue (groups_of table) load_depth store_depth first (length memory)) refl accepted
  where
    go : (rule : Reply Contents) → open_queue (groups_of table) load_depth store_depth first (length memory) ≡ rule → number rule ≡ 0
        → (o : Opened) × Opens no_queue (open_queue (groups_of table) load_depth store_depth first (length memory)) o × (o.answer ≡ 0)
        × Stored o.queue × (o.queue.frame.table ≡ table)
    go (refuse n) e z = absurd (refused_some _ (open_proper (groups_of table) load_depth store_depth first (length memory)) e z)
    go (accept c) e z =
        let (limits, queue_is) = limits-opened (groups_of table) load_depth store_depth first (length memory) c e in
        let fresh : Queue = fresh_queue (fresh_frame table load_depth store_depth first (length memory)) in
        let holds : contents_of fresh ≡ c = fresh_holds table load_depth store_depth first (length memory) ∙ queue_is in
        let zeros : StoredEntries (replicate 64 0) = record { places = refl; numbers = refl } in
        let opens : Opens no_queue (accept c) (record { answer = 0; queue = fresh }) = (refl, holds) in (
          record { answer = 0; queue = fresh },
          rw e opens,
          refl,
          fresh-stored table load_depth store_depth first (length memory) small limits (replicate 64 0) (replicate 64 0) zeros zeros,
          refl,
        )
