-- Laws of the text that the program `page` prints.
use Prim.Native.Nat.{ℕ, ◌≤◌, ◌<◌}
use mathlib.Core.Path.{◌≡◌, refl, sym, ap, ◌∙◌}
use mathlib.Core.Bool.{Bool, true, false}
use mathlib.Core.List.{List, ◌++◌}
use native.Mathlib.Omega.{arith}
use lib.Dec.{leb, ltb}
use lib.ListN.{length, drop, length-append, length-drop}
use borrow.Author.Tests.{lt-leb, le-leb}
use Rattle.number.specs.Basics.{pick}
use Rattle.number.specs.Refusal.{page_too_short, file_too_long}
use Rattle.number.specs.Reply.{Reply, refuse, accept}
use Rattle.std.specs.Prelude.{Ok}
use Rattle.number.specs.Number.{Puts, HasWritten, unwritten}
use Rattle.printed.proofs.TextLaws.{written-inside}
use Rattle.number.proofs.SpliceLaws.{splice_front}
use Rattle.table.specs.Group.{GroupPairs}
use Rattle.table.specs.TableBytes.{read_table}
use Rattle.trace.specs.declared.Event.{Event}
use Rattle.replay.specs.Replay.{Start, prepare, Buffers}
use Rattle.replay.specs.Outcome.{log_in}
use Rattle.replay.proofs.ReplayLaws.{log-many}
use Rattle.printed.specs.Files.{most_bytes, trace_fault, run, start_files, trace_files, groups_files, table_fault, files, run_of}
use Rattle.shift.specs.declared.ShiftRecord.{ShiftRecord}
use Rattle.shift.specs.Record.{no_takes}
use Rattle.shift.specs.Page.{page, page_bytes, page_written}
use Rattle.shift.proofs.PageLaws.{written-fits}
use Rattle.paged.specs.Recorded.{record_from, record_buffered, trace_events}
use Rattle.paged.specs.Text.{record_of, page_text, page_printed}
use Rattle.paged.proofs.BufferLaws.{buffered_log, start-events}

-- ---- a page that was written
-- it has its length, since the buffer keeps its own
pub page-put : (r : ShiftRecord) {out left : List ℕ} → page_bytes ≤ length out → left ≡ (page_written r out).buffer → length left ≡ length out
    → Puts out 0 (page r) page_bytes left
page-put r {out} {left} room e long =
    let is : left ≡ page r ++ drop page_bytes out = e ∙ rw (written-fits r out room) in
    let all : length (page r ++ drop page_bytes out) ≡ length out = sym (ap length is) ∙ long in
    let wide : length (page r) ≡ page_bytes = omega (arith, all, length-append (page r) (drop page_bytes out), length-drop page_bytes out) in
    record { ends = omega (arith, wide); is = is ∙ ap (λ (n : ℕ). page r ++ drop n out) (sym wide) ∙ sym (splice_front out (page r)) }

-- ---- files that are a run
run-start : (gs : List GroupPairs) (trace : List ℕ) {s : Start} → trace_files gs trace ≡ run s → trace_events trace ≡ s.events
unfolding trace_files
run-start gs trace {s} e = go (ltb most_bytes (length trace)) (prepare gs trace) refl e
  where
    go : (t : Bool) (rule : Reply Start) → prepare gs trace ≡ rule → pick t (trace_fault file_too_long) (start_files rule) ≡ run s
        → trace_events trace ≡ s.events
    go true rule d f = let z : ◌≡◌ {A = ℕ} 0 1 = cc in absurd (omega arith)
    go false (refuse n) d f = let z : ◌≡◌ {A = ℕ} 0 1 = cc in absurd (omega arith)
    go false (accept x) d f = let same : x ≡ s = cc in start-events gs trace (d ∙ ap accept same)

pub run-events : (table trace : List ℕ) {s : Start} → files table trace ≡ run s → trace_events trace ≡ s.events
unfolding files
run-events table trace {s} e = go (ltb most_bytes (length table)) (read_table table) e
  where
    go : (t : Bool) (g : Reply (List GroupPairs)) → pick t (table_fault file_too_long) (groups_files trace g) ≡ run s → trace_events trace ≡ s.events
    go true g f = let z : ◌≡◌ {A = ℕ} 0 1 = cc in absurd (omega arith)
    go false (refuse n) f = let z : ◌≡◌ {A = ℕ} 0 1 = cc in absurd (omega arith)
    go false (accept gs) f = run-start gs trace f

-- the record of the run, from what playing it left in the buffers
pub run_record : (table trace : List ℕ) {s : Start} → files table trace ≡ run s → (b₀ b : Buffers) → b ≡ log_in (run_of s).log b₀
    → record_buffered no_takes (trace_events trace) b.given b.values ≡ record_of s
run_record table trace {s} is b₀ b e =
    ap (λ (x : Buffers). record_buffered no_takes (trace_events trace) x.given x.values) e
    ∙ buffered_log no_takes (trace_events trace) (run_of s).log _ _ (log-many _ s.events ∙ ap length (sym (run-events table trace is)))
    ∙ ap (λ (es : List Event). record_from no_takes es (run_of s).log) (run-events table trace is)

-- ---- what printing hands back
pub printed-short : (table trace out : List ℕ) → length out < page_bytes → page_printed table trace out ≡ unwritten page_too_short out
unfolding page_printed
printed-short table trace out h = rw (lt-leb page_bytes (length out) h)

pub printed-fits : (table trace out : List ℕ) → page_bytes ≤ length out
    → page_printed table trace out ≡ record {
      answer = accept (length (page_text table trace));
      buffer = page_text table trace ++ drop (length (page_text table trace)) out;
    }
unfolding page_printed
printed-fits table trace out h = rw (le-leb page_bytes (length out) h)

-- what is printed stands in the buffer that it is printed into
pub page-inside : (table trace out : List ℕ) {n : ℕ} {left : List ℕ} → HasWritten (page_printed table trace out) (Ok n) left → n ≤ length left
unfolding page_printed
page-inside table trace out w = written-inside (leb page_bytes (length out)) (page_text table trace) out page_too_short w
