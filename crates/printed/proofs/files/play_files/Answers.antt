use mathlib.Core.Path.{◌≡◌, sym, ◌∙◌}
use Rattle.std.specs.Prelude.{Ok, Err}
use borrow.Author.Rules.{rules}
use Rattle.number.specs.declared.refusal.Refusal.{Refusal}
use Rattle.replay.proofs.ReplayLaws.{buffers}
use Rattle.table.proofs.RoundTrip.{table_got, table_refused}
use Rattle.printed.specs.declared.files.FilesFault.TheVariants as fault
use Rattle.printed.specs.Files.{files}
use Rattle.printed.specs.Played.{has_room, played_in, HasPlayed}
use Rattle.printed.specs.Internal.{of_the_trace}
use Rattle.printed.proofs.FilesLaws.{table-long, table-fault, table-right, told-as, told-table, told-short, told_in}
use Rattle.printed.proofs.files.play_files.Goals as goal
use Rattle.printed.proofs.files.play_files.Goals.{After-have_room}

-- whether what was lent has room
room : (c : After-have_room) → has_room c.args.memory.now (buffers c.args.answers.now c.args.given.now c.args.values.now) ≡ c.have_room.result
room c = sym c.have_room.ensures

pub returns-then-not-have_room : goal.returns-then-not-have_room
returns-then-not-have_room c =
    let a = c.args in
    told-short a.memory.now (buffers a.answers.now a.given.now a.values.now) (files a.table.now a.trace.now)
    (room (goal.at.returns-then-not-have_room c).After-have_room ∙ c.if-not-have_room.true)

pub returns-then-table-gt-MOST_BYTES : goal.returns-then-table-gt-MOST_BYTES
returns-then-table-gt-MOST_BYTES c =
    let a = c.args in
    let b = buffers a.answers.now a.given.now a.values.now in
    told_in a.memory.now b (files a.table.now a.trace.now)
    (room (goal.at.returns-then-table-gt-MOST_BYTES c).After-have_room ∙ c.if-not-have_room.false)
    (told-table a.memory.now b _ (table-long a.table.now a.trace.now c.if-table-gt-MOST_BYTES.true))

-- a table that cannot be read
pub returns-in_err-groups : goal.returns-in_err-groups
returns-in_err-groups c = let (e, read, is) = w in told e read is
  where
    w : (e : Refusal) × (c.read_table.result ≡ Err e) × (c.from_residual.result ≡ Err (fault.Table e))
    w = search rules

    told : (e : Refusal) → c.read_table.result ≡ Err e → c.from_residual.result ≡ Err (fault.Table e)
        → let a = c.args in let b = buffers a.answers.now a.given.now a.values.now in
        HasPlayed (played_in a.memory.now b (files a.table.now a.trace.now)) c.from_residual.result a.memory.now b
    told e read is =
        let a = c.args in
        let b = buffers a.answers.now a.given.now a.values.now in
        let refused = table_refused a.table.now (rw read at c.read_table.ensures) in
        rw is (told_in a.memory.now b (files a.table.now a.trace.now)
        (room (goal.at.returns-in_err-groups c).After-have_room ∙ c.if-not-have_room.false)
        (told-table a.memory.now b e (table-fault a.table.now a.trace.now c.if-table-gt-MOST_BYTES.false refused)))

pub returns : goal.returns
returns c =
    let a = c.args in
    let b = buffers a.answers.now a.given.now a.values.now in
    let read : c.read_table.result ≡ Ok c.in_ok-groups.groups = search rules in
    let is : of_the_trace c.play_trace.result ≡ c.map_err-2.result = search rules in
    let got = table_got a.table.now (rw read at c.read_table.ensures) in
    told_in a.memory.now b (files a.table.now a.trace.now)
    (room (goal.at.returns c).After-have_room ∙ c.if-not-have_room.false)
    (told-as a.memory.now b (table-right a.table.now a.trace.now c.if-table-gt-MOST_BYTES.false got.0) (rw is at c.play_trace.ensures))
