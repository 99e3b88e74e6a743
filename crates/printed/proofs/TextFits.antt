-- No text is longer than `most_text`, and none is empty.
use Prim.Native.Nat.{ℕ, ◌≤◌, ◌<◌}
use mathlib.Core.Path.{◌≡◌, refl, ap, ◌∙◌, sym}
use mathlib.Core.Bool.{Bool, true, false}
use mathlib.Core.List.{List, [], ◌∷◌, ◌++◌}
use native.Mathlib.Omega.{arith}
use lib.Dec.{leb, ltb}
use lib.ListN.{length, length-append}
use borrow.Author.Tests.{ltb-false}
use Rattle.number.specs.Basics.{pick}
use Rattle.number.specs.Refusal.{too_short, file_too_long}
use Rattle.number.specs.Reply.{Reply, refuse, accept}
use Rattle.std.specs.Prelude.{Ok}
use Rattle.number.specs.Number.{HasWritten}
use Rattle.printed.proofs.TextLaws.{written-inside}
use Rattle.table.specs.Group.{GroupPairs}
use Rattle.table.specs.TableBytes.{read_table}
use Rattle.trace.specs.Event.{read_header}
use Rattle.counts.specs.declared.Counts.{Counts}
use Rattle.counts.specs.Counts.{share}
use Rattle.queue.specs.Contents.{Contents}
use Rattle.number.proofs.ReplyLaws.{and_then_accepts}
use Rattle.replay.specs.Events.{events_from}
use Rattle.replay.specs.Replay.{Start, start_of, open_trace, prepare}
use Rattle.replay.specs.Outcome.{place_in}
use Rattle.replay.proofs.EventLaws.{events_few_from}
use Rattle.replay.proofs.PrepareLaws.{events_place}
use Rattle.printed.specs.Files.{most_bytes, Files, table_fault, trace_fault, run, start_files, trace_files, groups_files, files, run_of}
use Rattle.printed.specs.Files.{table_fault_text, trace_fault_text}
use Rattle.printed.specs.Text.{event_lines, word_lines, counts_line, play_text, files_text, text}
use Rattle.printed.specs.Outcome.{most_text, TextFits, TextSome, printed}
use Rattle.printed.specs.Internal.{item}
use Rattle.printed.proofs.LineLaws.{item-few, events_text_few, words-few, loads_space, forwarded_space, share_space, counts-line, table-line, trace-line}
use Rattle.printed.proofs.PlayedLaws.{run-many, run_long}
use Rattle.printed.proofs.FilesLaws.{opened-words}

-- ---- what a trace that can be played is like
record SmallText (s : Start) : Type 0 where
  pub events : length s.events ≤ most_bytes
  pub memory_few : s.queue.memory_length ≤ 4096

start_small : (q : Contents) (trace : List ℕ) (at : ℕ) {s : Start} → q.memory_length ≤ 4096 → length trace ≤ most_bytes
    → start_of q (events_from trace at) ≡ accept s → SmallText s
start_small q trace at {s} h k e =
    let (es, d, f) = and_then_accepts (events_from trace at) (λ l. accept (record { queue = q; events = l })) e in
    let y : s ≡ record { queue = q; events = es } = cc in
    rw y (record { events = omega (arith, events_few_from trace at d); memory_few = h })

prepare-small : (gs : List GroupPairs) (trace : List ℕ) {s : Start} → length trace ≤ most_bytes → prepare gs trace ≡ accept s → SmallText s
unfolding prepare
prepare-small gs trace k e =
    let (q, opens, starts) = and_then_accepts (open_trace gs (read_header trace)) _ e in
    let place = events_place gs trace (read_header trace) refl opens in
    start_small q trace (place_in trace (read_header trace)) (opened-words gs (read_header trace) opens) k (ap (start_of q) (sym place) ∙ starts)

start-run : (rule : Reply Start) {s : Start} → start_files rule ≡ run s → rule ≡ accept s
start-run (refuse n) e = let z : ◌≡◌ {A = ℕ} 0 1 = cc in absurd (omega arith)
start-run (accept s) e = cc

trace-small : (gs : List GroupPairs) (trace : List ℕ) {s : Start} → trace_files gs trace ≡ run s → SmallText s
unfolding trace_files
trace-small gs trace {s} e = go (ltb most_bytes (length trace)) refl e
  where
    go : (t : Bool) → ltb most_bytes (length trace) ≡ t → pick t (trace_fault file_too_long) (start_files (prepare gs trace)) ≡ run s → SmallText s
    go true d e = let z : ◌≡◌ {A = ℕ} 0 1 = cc in absurd (omega arith)
    go false d e = prepare-small gs trace (ltb-false most_bytes (length trace) d) (start-run (prepare gs trace) e)

groups-small : (trace : List ℕ) (g : Reply (List GroupPairs)) {s : Start} → groups_files trace g ≡ run s → SmallText s
groups-small trace (accept gs) e = trace-small gs trace e
groups-small trace (refuse n) e = let z : ◌≡◌ {A = ℕ} 0 1 = cc in absurd (omega arith)

files-small : (table trace : List ℕ) {s : Start} → files table trace ≡ run s → SmallText s
unfolding files
files-small table trace {s} e = go (ltb most_bytes (length table)) e
  where
    go : (t : Bool) → pick t (table_fault file_too_long) (groups_files trace (read_table table)) ≡ run s → SmallText s
    go true e = let z : ◌≡◌ {A = ℕ} 0 1 = cc in absurd (omega arith)
    go false e = groups-small trace (read_table table) e

-- ---- the texts
counts-few : (c : Counts) → length (counts_line c) ≤ 85
counts-few c =
    let i = item loads_space c.loads 32 in
    let j = item forwarded_space c.forwarded 32 in
    let k = item share_space (share c) 10 in
    omega (
      arith,
      ap length (counts-line c),
      length-append (i ++ j) k,
      length-append i j,
      item-few loads_space c.loads 32,
      item-few forwarded_space c.forwarded 32,
      item-few share_space (share c) 10,
    )

table_fault_few : (n : ℕ) → length (table_fault_text n) ≤ most_text
table_fault_few n = omega (arith, ap length (table-line n), item-few (116 ∷ 97 ∷ 98 ∷ 108 ∷ 101 ∷ 32 ∷ []) n 10)

trace_fault_few : (n : ℕ) → length (trace_fault_text n) ≤ most_text
trace_fault_few n = omega (arith, ap length (trace-line n), item-few (116 ∷ 114 ∷ 97 ∷ 99 ∷ 101 ∷ 32 ∷ []) n 10)

play_few : (s : Start) → SmallText s → length (play_text (run_of s)) ≤ most_text
play_few s w =
    let r = run_of s in
    let l = r.log in
    let m = r.left.machine.memory in
    omega (
      arith,
      w.events,
      w.memory_few,
      run-many s,
      run_long s,
      events_text_few 1 l,
      words-few 0 m,
      counts-few r.left.counts,
      length-append (event_lines 1 l ++ word_lines 0 m) (counts_line r.left.counts),
      length-append (event_lines 1 l) (word_lines 0 m),
    )

files-few : (f : Files) → ((s : Start) → f ≡ run s → SmallText s) → length (files_text f) ≤ most_text
files-few (table_fault n) h = table_fault_few n
files-few (trace_fault n) h = trace_fault_few n
files-few (run s) h = play_few s (h s refl)

pub text-fits : TextFits
text-fits table trace = files-few (files table trace) λ s e. files-small table trace e

-- what is printed stands in the buffer that it is printed into
pub printed-inside : (table trace out : List ℕ) {n : ℕ} {left : List ℕ} → HasWritten (printed table trace out) (Ok n) left → n ≤ length left
unfolding printed
printed-inside table trace out w = written-inside (leb most_text (length out)) (text table trace) out too_short w

-- ---- no text is empty
files_some : (f : Files) → 0 < length (files_text f)
files_some (table_fault n) = omega arith
files_some (trace_fault n) = omega arith
files_some (run s) =
    let r = run_of s in
    omega (arith, length-append (event_lines 1 r.log ++ word_lines 0 r.left.machine.memory) (counts_line r.left.counts))

pub text_some : TextSome
text_some table trace = files_some (files table trace)
