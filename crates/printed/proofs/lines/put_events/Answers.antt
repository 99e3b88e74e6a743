use native.Mathlib.Omega.{arith}
use mathlib.Core.Path.{◌≡◌, ap}
use lib.ListN.{length}
use Rattle.number.proofs.PutLaws.{puts_as, puts-length, puts-puts}
use Rattle.printed.specs.Text.{event_lines}
use Rattle.printed.proofs.LineLaws.{rows-text-few, rows_next, rows_whole}
use Rattle.printed.proofs.lines.put_events.Goals as goal

pub put_event-place-requires : goal.put_event-place-requires
put_event-place-requires c =
    let l = c.loop-i in
    let a = c.args in
    let few = rows-text-few a.answers.now a.given.now a.values.now (length a.answers.now) (omega arith) c.requires.0 c.requires.1 l.i l.auto.i-end in
    let w = l.invariant in
    omega (arith, few, w.ends, puts-length w (omega (arith, few, c.requires.2, c.loop-i-test.true)), c.requires.2, c.loop-i-test.true)

pub loop-i-preserved : goal.loop-i-preserved
loop-i-preserved c =
    let l = c.loop-i in
    let a = c.args in
    let few = rows-text-few a.answers.now a.given.now a.values.now (length a.answers.now) (omega arith) c.requires.0 c.requires.1 l.i l.auto.i-end in
    puts_as (rows_next a.answers.now a.given.now a.values.now (length a.answers.now) (omega arith) c.requires.0 c.requires.1 l.i
    c.loop-i-test.true)
    (puts-puts l.invariant (omega (arith, few, c.requires.2, c.loop-i-test.true)) c.put_event-place.ensures)

-- the last line is put
pub returns : goal.returns
returns c =
    let a = c.args in
    let all : c.loop-i.i ≡ length a.answers.now = omega (arith, c.loop-i.auto.i-end, c.loop-i-test.false) in
    puts_as (ap (event_lines 1) (rw all (rows_whole a.answers.now a.given.now a.values.now))) c.loop-i.invariant
