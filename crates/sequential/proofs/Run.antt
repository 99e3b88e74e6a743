-- The invariant holds of the opening, and every call keeps it.
use Prim.Native.Nat.{ℕ}
use native.Mathlib.Omega.{arith}
use mathlib.Core.Path.{◌≡◌, refl, sym, subst, ap}
use mathlib.Core.List.{List, [], ◌∷◌, ◌++◌, append_assoc, append-nil}
use mathlib.Core.Option.{none}
use lib.ListN.{length}
use Rattle.number.specs.Basics.{all_of}
use Rattle.table.specs.Group.{GroupPairs}
use Rattle.table.specs.Table.{check_table}
use Rattle.number.specs.Reply.{accept, accepted}
use Rattle.queue.specs.declared.Kind.TheVariants.{Load, Store}
use Rattle.queue.specs.Contents.{Contents}
use Rattle.queue.specs.Sound.{depth_right, memory_right}
use Rattle.queue.specs.Open.{group_fits, opened, open_queue}
use Rattle.number.proofs.ReplyLaws.{need-accepts, and_then_accepts}
use Rattle.sequential.specs.Calls.{Call}
use Rattle.sequential.specs.Answers.{Machine, Response, Answered, step, answers, machine_after}
use Rattle.sequential.specs.Demand3.{Opening}
use Rattle.sequential.proofs.CellLog.{cells-opened}
use Rattle.sequential.proofs.Invariant.{Limits, Invariant, seen-refused, seen-ready}
use Rattle.sequential.proofs.Accepted.{Stepped, refused, activated, gave, served, wrote, took, readied, stepped}
use Rattle.sequential.proofs.Steps.Activate.{activate-keeps}
use Rattle.sequential.proofs.Steps.Give.{give-keeps}
use Rattle.sequential.proofs.Steps.Serve.{serve-keeps}
use Rattle.sequential.proofs.Steps.Write.{write_keeps}
use Rattle.sequential.proofs.Steps.Take.{take-keeps}

-- ---- the opening

pub limits-opened : (groups : List GroupPairs) (load_depth store_depth first words : ℕ) (q : Contents)
    → open_queue groups load_depth store_depth first words ≡ accept q
    → Limits groups words load_depth store_depth × (opened groups load_depth store_depth first words ≡ q)
unfolding open_queue
limits-opened groups load_depth store_depth first words q h₀ =
    let (t, t₁, h₁) = and_then_accepts (check_table groups) _ h₀ in
    let (t₂, h₂) = need-accepts (depth_right load_depth) _ _ h₁ in
    let (t₃, h₃) = need-accepts (depth_right store_depth) _ _ h₂ in
    let (t₄, h₄) = need-accepts (memory_right words) _ _ h₃ in
    let (t₅, h₅) = need-accepts (all_of (group_fits load_depth store_depth) groups) _ _ h₄ in
    (record { load_depth_right = t₂; store_depth_right = t₃; words_right = t₄; table_right = ap accepted t₁ }, cc)

opened-state : (groups : List GroupPairs) (memory : List ℕ) (load_depth store_depth first : ℕ) → Limits groups (length memory) load_depth store_depth
    → Invariant groups memory [] (record { queue = opened groups load_depth store_depth first (length memory); memory = memory })
opened-state groups memory load_depth store_depth first limits = record {
  log = [];
  table = refl;
  holds = record {
    limits = limits;
    room = elim [ Load ↦ omega arith | Store ↦ omega arith ];
    long = refl;
    opened = refl;
    windows = record {
      gone = 0;
      gone' = 0;
      ours = record { old = []; live = []; parts = refl; many = refl; ended = refl; shows = refl };
      theirs = record { old = []; live = []; parts = refl; many = refl; ended = refl; shows = refl };
    };
    right = elim [ Load ↦ refl | Store ↦ refl ];
    cells = cells-opened memory;
  };
  seen = record { shape = refl; rows = λ kind port. refl; takes = λ port. refl; serves = refl; writes = refl };
}

pub opening-limits : {groups : List GroupPairs} {memory : List ℕ} {m : Machine} → (o : Opening groups memory m)
    → Limits groups (length memory) o.load_depth o.store_depth
opening-limits {groups} {memory} {m} o = (limits-opened groups o.load_depth o.store_depth o.first (length memory) m.queue o.accepted).0

pub opening-state : {groups : List GroupPairs} {memory : List ℕ} {m : Machine} → Opening groups memory m → Invariant groups memory [] m
opening-state {groups} {memory} {m} o =
    let (limits, queue_is) = limits-opened groups o.load_depth o.store_depth o.first (length memory) m.queue o.accepted in
    let memory_is : memory ≡ m.memory = sym o.lent in
    subst (Invariant groups memory []) (λ i. record { queue = queue_is i; memory = memory_is i })
    (opened-state groups memory o.load_depth o.store_depth o.first limits)

-- ---- a call

module _ (groups : List GroupPairs) (memory : List ℕ) (answered : List Answered) (m : Machine) (st : Invariant groups memory answered m) where
  -- the state after a call that was answered so
  abbrev After : Call → Response → Type 0
  After c s = Invariant groups memory (answered ++ record { call = c; number = s.number; value = s.value } ∷ []) s.machine

  keeps : {c : Call} {s : Response} → Stepped m c s → After c s
  keeps (refused {c} n nonzero low) =
      record { log = st.log; table = st.table; holds = st.holds; seen = seen-refused groups answered c n none nonzero st.log st.seen }
  keeps (activated {group} g is fits) = activate-keeps groups memory answered m st group g is fits
  keeps (gave {argument} {port} {x} ranged waited) = give-keeps groups memory answered m st argument port x ranged waited
  keeps (served {counts} {serial} l at s) = serve-keeps groups memory answered m st counts serial l at s
  keeps (wrote {serial} s at w) = write_keeps groups memory answered m st serial s at w
  keeps (took {port} l v at has) = take-keeps groups memory answered m st port l v at has
  keeps (readied {kind} {run} n low) =
      record { log = st.log; table = st.table; holds = st.holds; seen = seen-ready groups answered kind run n st.log st.seen }

  pub step_keeps : (c : Call)
      → Invariant groups memory (answered ++ record { call = c; number = (step m c).number; value = (step m c).value } ∷ []) (step m c).machine
  step_keeps c = keeps (stepped m c)

-- ---- a list of calls

pub run-keeps : (groups : List GroupPairs) (memory : List ℕ) (answered : List Answered) (m : Machine) → Invariant groups memory answered m
    → (calls : List Call) → Invariant groups memory (answered ++ answers m calls) (machine_after m calls)
run-keeps groups memory answered m st [] = rw (append-nil answered) st
run-keeps groups memory answered m st (c ∷ calls) =
    rw (append_assoc answered (a ∷ []) (answers (step m c).machine calls)) at
    (run-keeps groups memory (answered ++ a ∷ []) (step m c).machine (step_keeps groups memory answered m st c) calls)
  where
    a : Answered
    a = record { call = c; number = (step m c).number; value = (step m c).value }

-- the state that a list of calls leads to from an opening
pub reached : {groups : List GroupPairs} {memory : List ℕ} {m : Machine} → Opening groups memory m → (calls : List Call)
    → Invariant groups memory (answers m calls) (machine_after m calls)
reached {groups} {memory} {m} o calls = run-keeps groups memory [] m (opening-state o) calls
