use mathlib.Core.Path.{◌≡◌, refl, sym, ap, ◌∙◌}
use native.Mathlib.Omega.{arith}
use lib.ListN.{length}
use borrow.Author.Rules.{rules}
use Rattle.std.specs.Prelude.{true}
use Rattle.number.specs.Number.{Wrote}
use Rattle.number.specs.Reply.{accept}
use Rattle.number.proofs.SpliceLaws.{put-at}
use Rattle.number.proofs.PutLaws.{puts_as}
use Rattle.replay.specs.Replay.{Buffers}
use Rattle.printed.specs.Files.{files}
use Rattle.printed.specs.Played.{has_room, played_on, HasPlayed}
use Rattle.printed.proofs.LineLaws.{fault-line-few}
use Rattle.printed.proofs.FilesLaws.{enough, room-told, run-told, fault-told}
use Rattle.printed.proofs.TextLaws.{puts-front}
use Rattle.shift.specs.Record.{no_takes}
use Rattle.shift.specs.Page.{page}
use Rattle.shift.proofs.PageLaws.{written-fits}
use Rattle.paged.specs.Recorded.{record_buffered, trace_events}
use Rattle.paged.specs.Text.{files_page}
use Rattle.paged.proofs.TextLaws.{page-put, run_record, printed-short, printed-fits}
use Rattle.paged.proofs.text.print_page.Goals as goal
use Rattle.paged.proofs.text.print_page.Goals.{After-no_values-values}

-- the buffers that are lent
abbrev lent : After-no_values-values → Buffers
lent c = record { answers = c.no_answers-answers.result; given = c.no_answers-given.result; values = c.no_values-values.result }

-- there is room in them, and in the memory, for every two files
roomy : (c : After-no_values-values) → has_room c.no_memory-memory.result (lent c) ≡ true
roomy c =
    let m : length c.no_memory-memory.result ≡ 4096 = search rules in
    let a : length c.no_answers-answers.result ≡ 16384 = search rules in
    let g : length c.no_answers-given.result ≡ 16384 = search rules in
    let w : length c.no_values-values.result ≡ 16384 = search rules in
    enough c.no_memory-memory.result (lent c) (omega (arith, m)) (omega (arith, a)) (omega (arith, g)) (omega (arith, w))

pub returns-then-out-lt-PAGE_BYTES : goal.returns-then-out-lt-PAGE_BYTES
returns-then-out-lt-PAGE_BYTES c =
    let a = c.args in
    rw (printed-short a.table.now a.trace.now a.out.now c.if-out-lt-PAGE_BYTES.true) (refl, refl)

pub returns-in-Ok : goal.returns-in-Ok
returns-in-Ok c =
    let a = c.args in
    let p = (goal.at.returns-in-Ok c).After-no_values-values in
    let room = c.if-out-lt-PAGE_BYTES.false in
    let given = c.play_files.new.given in
    let values = c.play_files.new.values in
    let played = room-told c.no_memory-memory.result (lent p) (files a.table.now a.trace.now) (roomy p) refl c.in-Ok.ensures in
    let ran = run-told _ _ (files a.table.now a.trace.now) played in
    let r = record_buffered no_takes (trace_events a.trace.now) given values in
    let text = ap page (run_record a.table.now a.trace.now ran.is (lent p) _ ran.buffers_are) ∙ sym (ap files_page ran.is) in
    let w = puts-front (puts_as text (page-put r room c.write_run.ensures.1 c.write_run.auto.out)) in
    let long = c.write_run.ensures.0 ∙ ap (λ (v : Wrote). v.answer) (written-fits r a.out.now room) in
    rw (printed-fits a.table.now a.trace.now a.out.now room) (long ∙ ap accept w.0, w.1)

pub returns-in-Err : goal.returns-in-Err
returns-in-Err c =
    let a = c.args in
    let p = (goal.at.returns-in-Err c).After-no_values-values in
    let room = c.if-out-lt-PAGE_BYTES.false in
    let played = room-told c.no_memory-memory.result (lent p) (files a.table.now a.trace.now) (roomy p) refl c.in-Err.ensures in
    let line = fault-told _ _ files_page (λ n. refl) (λ n. refl) (files a.table.now a.trace.now) c.in-Err.fault played in
    let w = puts-front (puts_as line (put-at (omega (arith, fault-line-few c.in-Err.fault, room)) c.put_line.ensures)) in
    rw (printed-fits a.table.now a.trace.now a.out.now room) (ap accept w.0, w.1)
