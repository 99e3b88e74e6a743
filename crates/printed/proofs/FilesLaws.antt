-- Laws of what two files are, and of playing them.
use Prim.Native.Nat.{ℕ, zero, suc, ◌≤◌, ◌<◌}
use mathlib.Core.Path.{◌≡◌, refl, sym, ap, ◌∙◌}
use mathlib.Core.Bool.{true, false, ◌&&◌}
use mathlib.Core.List.{List, ◌∷◌, ◌++◌}
use native.Mathlib.Omega.{arith}
use lib.Dec.{leb}
use lib.ListN.{length, take, drop, replicate, length-replicate, take-append-drop}
use borrow.Author.Tests.{lt-ltb, le-ltb, le-leb, leb-true}
use Rattle.number.specs.Refusal.{file_too_long, refusal_number}
use Rattle.number.specs.Reply.{Reply, refuse, accept}
use Rattle.number.specs.Number.{Got}
use Rattle.number.proofs.Both.{and_left, and_right}
use Rattle.table.specs.Group.{GroupPairs}
use Rattle.table.specs.TableBytes.{read_table}
use Rattle.trace.specs.declared.Event.{Event}
use Rattle.trace.specs.declared.Header.{Header}
use Rattle.counts.specs.declared.Counts.{Counts}
use Rattle.queue.specs.Contents.{Contents}
use Rattle.sequential.proofs.Run.{limits-opened}
use Rattle.std.specs.Prelude.{Result, Ok, Err}
use Rattle.number.specs.declared.refusal.Refusal.{Refusal}
use Rattle.number.proofs.AnswerLaws.{refusals_positive}
use Rattle.replay.specs.Events.{events_from}
use Rattle.replay.specs.Replay.{Start, start_of, open_trace, prepare, Buffers, fits, replay_from}
use Rattle.replay.specs.Outcome.{Replayed, replayed_as, at_front, log_in, ReplayedWell, Replays}
use Rattle.number.proofs.ReplyLaws.{then_read_accepts, not_zero, refused_some}
use Rattle.trace.proofs.Among.{events-among}
use Rattle.replay.proofs.EventLaws.{events_few_from}
use Rattle.replay.proofs.ReplayLaws.{replay-accepted, long-enough}
use Rattle.printed.specs.declared.files.FilesRun.{FilesRun}
use Rattle.printed.specs.declared.files.FilesFault.{FilesFault}
use Rattle.printed.specs.declared.files.FilesFault.TheVariants.{Table, Trace, NoRoom}
use Rattle.number.specs.declared.refusal.Refusal.TheVariants.{TooShort}
use Rattle.printed.specs.Files.{most_bytes, most_words, Files, table_fault, trace_fault, run, start_files, trace_files, files, no_counts, run_of, table_fault_text, trace_fault_text}
use Rattle.printed.specs.Played.{has_room, zeroed, fault_line, played_on, played_in, HasPlayed, of_trace}
use Rattle.printed.specs.Internal.{Room, Cleared, Playable}
use Rattle.printed.proofs.PlayedLaws.{run-many, run_long}

-- ---- which files
module _ (gs : List GroupPairs) (trace : List ℕ) where
  pub trace-long : most_bytes < length trace → trace_files gs trace ≡ trace_fault file_too_long
  unfolding trace_files
  trace-long h = rw (lt-ltb most_bytes (length trace) h)

  pub trace-short : length trace ≤ most_bytes → trace_files gs trace ≡ start_files (prepare gs trace)
  unfolding trace_files
  trace-short h = rw (le-ltb most_bytes (length trace) h)

module _ (table trace : List ℕ) where
  pub table-long : most_bytes < length table → files table trace ≡ table_fault file_too_long
  unfolding files
  table-long h = rw (lt-ltb most_bytes (length table) h)

  pub table-fault : {n : ℕ} → length table ≤ most_bytes → read_table table ≡ refuse n → files table trace ≡ table_fault n
  unfolding files
  table-fault h e = rw (le-ltb most_bytes (length table) h, e)

  pub table-right : {gs : List GroupPairs} → length table ≤ most_bytes → read_table table ≡ accept gs
      → files table trace ≡ trace_files gs trace
  unfolding files
  table-right h e = rw (le-ltb most_bytes (length table) h, e)

-- ---- opening
pub opened-words : (gs : List GroupPairs) (g : Reply (Got Header)) {q : Contents} → open_trace gs g ≡ accept q → q.memory_length ≤ most_words
opened-words gs g {q} e₀ =
    let (h, rest, d, e) = then_read_accepts g _ e₀ in
    let (limits, is) = limits-opened gs h.load_depth h.store_depth h.first h.memory_length q e in
    rw (sym is) (leb-true _ _ (and_right (leb 1 h.memory_length) (leb h.memory_length 4096) limits.words_right))

-- ---- what is lent
pub room_for : (n : ℕ) (b : Buffers) → fits n b ≡ true → (n ≤ length b.answers) × (n ≤ length b.given) × (n ≤ length b.values)
room_for n b h =
    let a = leb n (length b.answers) in
    let g = leb n (length b.given) in
    let w = leb n (length b.values) in
    let front = and_left (a && g) w h in
    (leb-true _ _ (and_left a g front), leb-true _ _ (and_right a g front), leb-true _ _ (and_right (a && g) w h))

pub has_room_lem : (memory : List ℕ) (b : Buffers) → has_room memory b ≡ true → Room memory b
has_room_lem memory b h =
    let w = leb most_words (length memory) in
    record { words = leb-true _ _ (and_left w (fits most_bytes b) h); places = and_right w (fits most_bytes b) h }

-- a memory that was cleared where there is room
pub cleared : (memory : List ℕ) (b : Buffers) {memory₂ : List ℕ} → Room memory b → memory₂ ≡ zeroed memory → Cleared memory₂ b
cleared memory b h e =
    let l = length-replicate {A = ℕ} (length memory) 0 in
    rw e (record { room = record { words = rw l h.words; places = h.places }; zeros = rw l })

-- the front of a memory all zero
take-replicate : (n k : ℕ) → n ≤ k → take {A = ℕ} n (replicate k 0) ≡ replicate n 0
take-replicate zero k h = refl
take-replicate (suc n) zero h = absurd (omega arith)
take-replicate (suc n) (suc k) h = ap (λ (l : List ℕ). 0 ∷ l) (take-replicate n k (omega arith))

take-zeros : (memory : List ℕ) (n : ℕ) → memory ≡ zeroed memory → n ≤ length memory → take n memory ≡ replicate n 0
take-zeros memory n e h = ap (take n) e ∙ take-replicate n (length memory) h

-- ---- what is told
-- of the same files, and of a fault
module _ (memory : List ℕ) (b : Buffers) {f : Files} where
  pub told-as : {g : Files} {r : Result FilesRun FilesFault} {memory₂ : List ℕ} {b₂ : Buffers} → f ≡ g
      → HasPlayed (played_on memory b g) r memory₂ b₂ → HasPlayed (played_on memory b f) r memory₂ b₂
  told-as e w = rw e w

  pub told-table : (e : Refusal) → f ≡ table_fault (refusal_number e) → HasPlayed (played_on memory b f) (Err (Table e)) memory b
  told-table e h = rw h (record { outcome = refl; memory_is = refl; buffers_are = refl })

  pub told-trace : (e : Refusal) → f ≡ trace_fault (refusal_number e) → HasPlayed (played_on memory b f) (Err (Trace e)) memory b
  told-trace e h = rw h (record { outcome = refl; memory_is = refl; buffers_are = refl })

  -- of a run on the memory once it is cleared
  pub told-cleared : {s : Start} {r : Result FilesRun FilesFault} {zeros memory₂ : List ℕ} {b₂ : Buffers} → f ≡ run s → zeros ≡ zeroed memory
      → HasPlayed (played_on zeros b f) r memory₂ b₂ → HasPlayed (played_on memory b f) r memory₂ b₂
  told-cleared e z w = rw e (rw (z, length-replicate) at (rw e at w))

-- where there is not room, nothing is played
module _ (memory : List ℕ) (b : Buffers) where
  pub enough : most_words ≤ length memory → most_bytes ≤ length b.answers → most_bytes ≤ length b.given → most_bytes ≤ length b.values
      → has_room memory b ≡ true
  enough m a g w = rw (le-leb _ _ m, le-leb _ _ a, le-leb _ _ g, le-leb _ _ w)

  pub told-short : (f : Files) → has_room memory b ≡ false → HasPlayed (played_in memory b f) (Err (NoRoom TooShort)) memory b
  unfolding played_in
  told-short f h = rw h (record { outcome = refl; memory_is = refl; buffers_are = refl })

  pub told_in : (f : Files) {r : Result FilesRun FilesFault} {memory₂ : List ℕ} {b₂ : Buffers} → has_room memory b ≡ true
      → HasPlayed (played_on memory b f) r memory₂ b₂ → HasPlayed (played_in memory b f) r memory₂ b₂
  unfolding played_in
  told_in f h w = rw h w

  -- what a caller learns who lent enough
  pub room-told : (f : Files) {r r₂ : Result FilesRun FilesFault} {memory₂ : List ℕ} {b₂ : Buffers} → has_room memory b ≡ true → r ≡ r₂
      → HasPlayed (played_in memory b f) r memory₂ b₂ → HasPlayed (played_on memory b f) r₂ memory₂ b₂
  unfolding played_in
  room-told f h e w = rw e at (rw h at w)

-- ---- which files they were, from what was handed back
-- a run: what was told and left of it
pub record Ran (memory₀ : List ℕ) (b₀ : Buffers) (f : Files) (r : FilesRun) (memory : List ℕ) (b : Buffers) : Type 0 where
  pub start : Start
  pub is : f ≡ run start
  pub many : r.events ≡ length (run_of start).log
  pub long : r.memory_length ≡ length (run_of start).left.machine.memory
  pub counts : r.counts ≡ (run_of start).left.counts
  pub memory_is : memory ≡ at_front (run_of start).left.machine.memory (zeroed memory₀)
  pub buffers_are : b ≡ log_in (run_of start).log b₀

module _ (memory₀ : List ℕ) (b₀ : Buffers) {memory : List ℕ} {b : Buffers} where
  pub table-told : (f : Files) {e : Refusal} → HasPlayed (played_on memory₀ b₀ f) (Err (Table e)) memory b → f ≡ table_fault (refusal_number e)
  table-told (table_fault k) w = let o = w.outcome in cc
  table-told (trace_fault k) w = let o = w.outcome in let z : ◌≡◌ {A = ℕ} 0 1 = cc in absurd (omega arith)
  table-told (run s) w = let o = w.outcome in let z : ◌≡◌ {A = ℕ} 0 1 = cc in absurd (omega arith)

  pub trace-told : (f : Files) {e : Refusal} → HasPlayed (played_on memory₀ b₀ f) (Err (Trace e)) memory b → f ≡ trace_fault (refusal_number e)
  trace-told (table_fault k) w = let o = w.outcome in let z : ◌≡◌ {A = ℕ} 0 1 = cc in absurd (omega arith)
  trace-told (trace_fault k) w = let o = w.outcome in cc
  trace-told (run s) w = let o = w.outcome in let z : ◌≡◌ {A = ℕ} 0 1 = cc in absurd (omega arith)

  pub run-told : (f : Files) {r : FilesRun} → HasPlayed (played_on memory₀ b₀ f) (Ok r) memory b → Ran memory₀ b₀ f r memory b
  run-told (table_fault k) w = let o = w.outcome in let z : ◌≡◌ {A = ℕ} 0 1 = cc in absurd (omega arith)
  run-told (trace_fault k) w = let o = w.outcome in let z : ◌≡◌ {A = ℕ} 0 1 = cc in absurd (omega arith)
  run-told (run s) {r} w =
      let o = w.outcome in
      let many : r.events ≡ length s.events = cc in
      let long : r.memory_length ≡ s.queue.memory_length = cc in
      record {
        start = s;
        is = refl;
        many = many ∙ sym (run-many s);
        long = long ∙ sym (run_long s);
        counts = cc;
        memory_is = w.memory_is;
        buffers_are = w.buffers_are;
      }

  -- with room for every file, a want of room is never told
  pub no-room-told : (f : Files) {e : Refusal} → HasPlayed (played_on memory₀ b₀ f) (Err (NoRoom e)) memory b → ⊥
  no-room-told (table_fault k) w = let o = w.outcome in let z : ◌≡◌ {A = ℕ} 0 1 = cc in omega arith
  no-room-told (trace_fault k) w = let o = w.outcome in let z : ◌≡◌ {A = ℕ} 0 1 = cc in omega arith
  no-room-told (run s) w = let o = w.outcome in let z : ◌≡◌ {A = ℕ} 0 1 = cc in omega arith

  -- a fault's line is what is said of the files, where that is the line of a fault of either
  pub fault-told : (say : Files → List ℕ) → ((n : ℕ) → say (table_fault n) ≡ table_fault_text n) → ((n : ℕ) → say (trace_fault n) ≡ trace_fault_text n)
      → (f : Files) (e : FilesFault) → HasPlayed (played_on memory₀ b₀ f) (Err e) memory b → fault_line e ≡ say f
  fault-told say tables traces f (Table e) w = sym (ap say (table-told f w) ∙ tables (refusal_number e))
  fault-told say tables traces f (Trace e) w = sym (ap say (trace-told f w) ∙ traces (refusal_number e))
  fault-told say tables traces f (NoRoom e) w = absurd (no-room-told f w)

-- ---- playing events
-- what playing events answers, by what the replay of them does
abbrev pub played_as : Result ℕ Refusal → ℕ → Counts → Result FilesRun FilesFault
played_as (Ok events) words c = Ok (record { events = events; memory_length = words; counts = c })
played_as (Err e) words c = Err (Trace e)

-- a replay on the memory's front, with room for every event, is refused for an event alone
module _ (q : Contents) {trace memory : List ℕ} (at : ℕ) {b : Buffers} (words : ℕ) (c : Counts) (front₂ : List ℕ) (b₂ : Buffers)
    (lent : Playable q trace memory b) (are : words ≡ q.memory_length) where
  abbrev Plays : Result ℕ Refusal → Reply (List Event) → Type 0
  Plays r g = Replays (take words memory) no_counts b (replay_from q g (take words memory) no_counts b) (replayed_as r c) front₂ b₂

  abbrev Told : Result ℕ Refusal → Reply (List Event) → Type 0
  Told r g = HasPlayed (played_on memory b (start_files (start_of q g))) (played_as r words c) (front₂ ++ drop words memory) b₂

  zeros : take words memory ≡ replicate q.memory_length 0
  zeros =
      let few : words ≤ length memory = omega (arith, lent.memory_few, lent.cleared.room.words, are) in
      take-zeros memory words lent.cleared.zeros few ∙ ap (λ (n : ℕ). replicate n 0) are

  -- events that can be read are played
  well : (r : Result ℕ Refusal) (es : List Event) → events_from trace at ≡ accept es → Plays r (accept es)
      → ReplayedWell (run_of (record { queue = q; events = es })) b (replayed_as r c) front₂ b₂
  well r es d v =
      let few : length es ≤ most_bytes = omega (arith, events_few_from trace at d, lent.short) in
      let long : length (take words memory) ≡ q.memory_length = ap length zeros ∙ length-replicate q.memory_length 0 in
      let (a, g, w) = room_for most_bytes b lent.cleared.room.places in
      let fit = long-enough (length es) b (omega (arith, few, a)) (omega (arith, few, g)) (omega (arith, few, w)) in
      rw zeros at (rw (replay-accepted q (accept es) (take words memory) no_counts b refl long fit) at v)

  pub plays-fault : (e : Refusal) → Plays (Err e) (events_from trace at) → Told (Err e) (events_from trace at)
  plays-fault e v = go (events_from trace at) refl v
    where
      go : (g : Reply (List Event)) → events_from trace at ≡ g → Plays (Err e) g → Told (Err e) g
      go (refuse n) d v = record {
        outcome = ap (λ (x : Replayed). of_trace x.answer) v.outcome;
        memory_is = rw v.memory_is (take-append-drop words memory);
        buffers_are = v.buffers_are;
      }
      go (accept es) d v =
          let z : refusal_number e ≡ 0 = ap (λ (x : Replayed). x.answer) (well (Err e) es d v).outcome in
          absurd (omega (arith, z, refusals_positive e))

  pub plays-run : (events : ℕ) → Plays (Ok events) (events_from trace at) → Told (Ok events) (events_from trace at)
  plays-run events v = go (events_from trace at) refl v
    where
      go : (g : Reply (List Event)) → events_from trace at ≡ g → Plays (Ok events) g → Told (Ok events) g
      go (refuse n) d v =
          let nought : n ≡ 0 = sym (ap (λ (x : Replayed). x.answer) v.outcome) in
          absurd (refused_some (events_from trace at) (events-among not_zero refl refl refl refl _ (drop at trace)) d nought)
      go (accept es) d v =
          let s : Start = record { queue = q; events = es } in
          let w = well (Ok events) es d v in
          let many : events ≡ length s.events = ap (λ (x : Replayed). x.events) w.outcome ∙ run-many s in
          let counts : c ≡ (run_of s).left.counts = ap (λ (x : Replayed). x.counts) w.outcome in
          let long : length (run_of s).left.machine.memory ≡ words = run_long s ∙ sym are in
          record {
            outcome = rw (many, counts, are) refl;
            memory_is = rw (w.memory_is, sym long) (ap (at_front (run_of s).left.machine.memory) lent.cleared.zeros);
            buffers_are = w.buffers_are;
          }
