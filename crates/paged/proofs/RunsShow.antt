-- The page that the program prints is the plain run's: of files that are a run, the queue is one that an accepted opening gave, with the
-- trace's leading numbers, so what holds of whole lists of calls holds of its events.
use Prim.Native.Nat.{ℕ, ◌<◌, ◌^◌}
use mathlib.Core.Path.{◌≡◌, refl, sym, ap, subst, ◌∙◌}
use mathlib.Core.Bool.{Bool, true, false}
use mathlib.Core.List.{List, ◌∷◌}
use native.Mathlib.Omega.{arith}
use lib.Dec.{eqb, ltb}
use lib.ListN.{length, length-replicate}
use borrow.Author.Tests.{eqb-true}
use Rattle.number.specs.Basics.{pick}
use Rattle.number.specs.Refusal.{too_short, wrong_memory, file_too_long}
use Rattle.number.specs.Reply.{Reply, refuse, accept}
use Rattle.number.specs.Number.{AreBytes, Fit, fit_one}
use Rattle.table.specs.Group.{GroupPairs}
use Rattle.table.specs.TableBytes.{read_table}
use Rattle.trace.specs.Event.{read_header}
use Rattle.trace.proofs.RoundTrip.{headers_are_written}
use Rattle.counts.specs.declared.Counts.{Counts}
use Rattle.queue.specs.Contents.{Contents}
use Rattle.queue.specs.Open.{open_queue}
use Rattle.number.proofs.ReplyLaws.{need-accepts, and_then_accepts, then_read_accepts}
use Rattle.sequential.specs.Answers.{machine, answers}
use Rattle.sequential.specs.Plain.{Filling}
use Rattle.sequential.specs.Demand3.{Opening}
use Rattle.sequential.proofs.Run.{limits-opened}
use Rattle.replay.specs.Playing.{playing, log}
use Rattle.replay.specs.Replay.{Start, open_trace, events_behind, prepare, Replay, replayed, Buffers, fits, replay_start, replay}
use Rattle.printed.specs.Files.{most_bytes, table_fault, trace_fault, run, start_files, trace_files, groups_files, files, no_counts, run_memory}
use Rattle.shift.specs.Record.{no_takes}
use Rattle.shift.specs.Lists.{Shows}
use Rattle.shift.proofs.Lists.{pages_show}
use Rattle.paged.specs.Recorded.{record_from, trace_events, kept_after, calls_of, ReplaysShow}
use Rattle.paged.specs.Text.{record_of, files_page, run_answers, RunsShow}
use Rattle.paged.proofs.BufferLaws.{start-events}
use Rattle.paged.proofs.Recorded.{records_of_calls}

-- of a trace's leading numbers the first serial is the third
third-fits : {a b c : ℕ} {ns : List ℕ} → Fit (a ∷ b ∷ c ∷ ns) → c < 2 ^ 32
third-fits (fit_one x (fit_one y (fit_one z f))) = z

-- ---- the opening that a run begins with

-- a queue and a memory, as the beginning of a list of calls
abbrev Begins : List GroupPairs → Start → List ℕ → Type 0
Begins groups s memory = Opening groups memory (machine s.queue memory)

-- It was opened with the leading numbers of the trace's bytes, the memory's length among them.
module _ (groups : List GroupPairs) (trace : List ℕ) (are-bytes : AreBytes trace) (s : Start) (memory : List ℕ)
    (fit : length memory ≡ s.queue.memory_length) where
  prepared : prepare groups trace ≡ accept s → Begins groups s memory
  unfolding prepare
  prepared e₀ =
      let (q, e₁, e₂) = and_then_accepts (open_trace groups (read_header trace)) _ e₀ in
      let (es, d, e₃) = and_then_accepts (events_behind (read_header trace)) (λ l. accept (record { queue = q; events = l })) e₂ in
      let x : record { queue = q; events = es } ≡ s = cc in
      let same : q ≡ s.queue = ap (λ (y : Start). y.queue) x in
      let (h, rest, a, e) = then_read_accepts (read_header trace) _ e₁ in
      let (limits, is) = limits-opened groups h.load_depth h.store_depth h.first h.memory_length s.queue (e ∙ ap accept same) in
      let long : length memory ≡ h.memory_length = fit ∙ ap (λ (q : Contents). q.memory_length) (sym is) in
      record {
        load_depth = h.load_depth;
        store_depth = h.store_depth;
        first = h.first;
        serial = third-fits ((headers_are_written trace rest h are-bytes).0 a).0;
        accepted = ap (open_queue groups h.load_depth h.store_depth h.first) long ∙ e ∙ ap accept same;
        lent = refl;
      }

  begun : trace_files groups trace ≡ run s → Begins groups s memory
  unfolding trace_files
  begun e = go (ltb most_bytes (length trace)) (prepare groups trace) refl e
    where
      go : (t : Bool) (rule : Reply Start) → prepare groups trace ≡ rule → pick t (trace_fault file_too_long) (start_files rule) ≡ run s
          → Begins groups s memory
      go true rule d f = let z : ◌≡◌ {A = ℕ} 0 1 = cc in absurd (omega arith)
      go false (refuse n) d f = let z : ◌≡◌ {A = ℕ} 0 1 = cc in absurd (omega arith)
      go false (accept x) d f = let same : x ≡ s = cc in prepared (d ∙ ap accept same)

-- ---- the page

-- the record of the events is that of their calls, and of these the page is known
opening-shows : (groups : List GroupPairs) (s : Start) (memory : List ℕ) (c : Counts) → Begins groups s memory
    → (fill : Filling) → ((k : ℕ) → fill.address k < length memory)
    → Shows groups memory (answers (machine s.queue memory) (calls_of (playing s.queue memory c) s.events)) fill
    (record_from no_takes s.events (log (playing s.queue memory c) s.events))
opening-shows groups s memory c o fill below =
    let p = playing s.queue memory c in
    subst (Shows groups memory (answers (machine s.queue memory) (calls_of p s.events)) fill) (sym (records_of_calls no_takes p s.events))
    (pages_show groups memory (machine s.queue memory) o (calls_of p s.events) fill below)

-- an accepted replay of a trace that can be played
start-shows : (gs : List GroupPairs) (trace memory : List ℕ) (c : Counts) (b : Buffers) → AreBytes trace → (p : Replay) (s : Start)
    → prepare gs trace ≡ accept s → replay_start memory c b s ≡ accept p → (fill : Filling) → ((k : ℕ) → fill.address k < length memory)
    → Shows gs memory (answers (machine s.queue memory) (calls_of (playing s.queue memory c) s.events)) fill
    (kept_after no_takes trace (accept p))
start-shows gs trace memory c b are-bytes p s d f fill below =
    let (test, g) = need-accepts (eqb (length memory) s.queue.memory_length) wrong_memory _ f in
    let (room, h) = need-accepts (fits (length s.events) b) too_short _ g in
    let same : replayed s memory c ≡ p = cc in
    let fit : length memory ≡ s.queue.memory_length = eqb-true _ _ test in
    let events : trace_events trace ≡ s.events = start-events gs trace d in
    rw (← same, events) (opening-shows gs s memory c (prepared gs trace are-bytes s memory fit d) fill below)

pub replays-show : ReplaysShow
unfolding replay
replays-show gs trace memory c b are-bytes p e =
    let (s, d, f) = and_then_accepts (prepare gs trace) (replay_start memory c b) e in
    (s, d, start-shows gs trace memory c b are-bytes p s d f)

pub runs-show : RunsShow
unfolding files
runs-show table trace are-bytes s e =
    let (groups, is, shown) = go (ltb most_bytes (length table)) (read_table table) e in
    (ap files_page e, groups, is, shown)
  where
    long : length (run_memory s) ≡ s.queue.memory_length
    long = length-replicate s.queue.memory_length 0

    go : (t : Bool) (g : Reply (List GroupPairs)) → pick t (table_fault file_too_long) (groups_files trace g) ≡ run s
        → (groups : List GroupPairs) × (g ≡ accept groups)
        × ((fill : Filling) → ((k : ℕ) → fill.address k < s.queue.memory_length) → Shows groups (run_memory s) (run_answers s) fill (record_of s))
    go true g f = let z : ◌≡◌ {A = ℕ} 0 1 = cc in absurd (omega arith)
    go false (refuse n) f = let z : ◌≡◌ {A = ℕ} 0 1 = cc in absurd (omega arith)
    go false (accept groups) f = (
      groups,
      refl,
      λ fill below.
          opening-shows groups s (run_memory s) no_counts (begun groups trace are-bytes s (run_memory s) long f) fill (λ k. rw long (below k)),
    )
