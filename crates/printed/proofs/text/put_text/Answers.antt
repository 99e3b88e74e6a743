use mathlib.Core.Path.{refl}
use native.Mathlib.Omega.{arith}
use Rattle.number.proofs.SpliceLaws.{put-at}
use Rattle.number.proofs.PutLaws.{puts_as}
use Rattle.printed.specs.Files.{files}
use Rattle.printed.specs.Text.{files_text}
use Rattle.printed.proofs.LineLaws.{fits_as}
use Rattle.printed.proofs.FilesLaws.{run-told, fault-told}
use Rattle.printed.proofs.TextLaws.{run_left}
use Rattle.printed.proofs.TextFits.{text-fits}
use Rattle.printed.proofs.text.put_text.Goals as goal

pub put_run-requires : goal.put_run-requires
put_run-requires c =
    let w = run_left (run-told _ _ (files c.args.table.now c.args.trace.now) c.in-Ok.ensures) in
    record { events_hold = w.answers; given_hold = w.given; values_hold = w.values; words_hold = w.words-few; room = c.requires }

pub returns-in-Ok : goal.returns-in-Ok
returns-in-Ok c = puts_as (run_left (run-told _ _ (files c.args.table.now c.args.trace.now) c.in-Ok.ensures)).text c.put_run.ensures

pub returns-in-Err : goal.returns-in-Err
returns-in-Err c =
    let a = c.args in
    let line = fault-told _ _ files_text (λ n. refl) (λ n. refl) (files a.table.now a.trace.now) c.in-Err.fault c.in-Err.ensures in
    put-at (omega (arith, text-fits a.table.now a.trace.now, c.requires)) (fits_as line c.put_line.ensures)
