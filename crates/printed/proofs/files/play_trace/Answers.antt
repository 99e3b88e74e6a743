use mathlib.Core.Path.{◌≡◌, ap, ◌∙◌}
use mathlib.Core.List.{List}
use Rattle.std.specs.Prelude.{Err}
use borrow.Author.Rules.{rules}
use Rattle.number.specs.Reply.{Reply}
use Rattle.table.specs.Table.{groups_of}
use Rattle.trace.specs.declared.Event.{Event}
use Rattle.trace.specs.Event.{read_header}
use Rattle.queue.specs.Contents.{contents_of}
use Rattle.replay.specs.Events.{events_from}
use Rattle.replay.specs.Replay.{start_of}
use Rattle.replay.proofs.EventLaws.{all_read, not_read}
use Rattle.replay.proofs.ReplayLaws.{buffers}
use Rattle.replay.proofs.PrepareLaws.{prepare-refused, trace-opened, prepare-opened}
use Rattle.printed.specs.Files.{start_files, trace_files}
use Rattle.printed.proofs.FilesLaws.{opened-words, cleared, trace-long, trace-short, told-as, told-trace, told-cleared}
use Rattle.printed.proofs.files.play_trace.Goals as goal
use Rattle.printed.proofs.files.play_trace.Goals.{In_ok-queue}

-- the trace of which a queue was opened is the events behind its leading numbers
opened : (c : In_ok-queue) → trace_files (groups_of c.args.table) c.args.trace.now ≡
    start_files (start_of (contents_of c.in_ok-queue.queue) (events_from c.args.trace.now c.open_trace-opened.result.at))
opened c =
    trace-short (groups_of c.args.table) c.args.trace.now c.if-trace-gt-MOST_BYTES.false
    ∙ ap start_files (prepare-opened c.open_trace-opened.ensures c.in_ok-queue.was)

pub returns-then-trace-gt-MOST_BYTES : goal.returns-then-trace-gt-MOST_BYTES
returns-then-trace-gt-MOST_BYTES c =
    let a = c.args in
    told-trace a.memory.now (buffers a.answers.now a.given.now a.values.now) _
    (trace-long (groups_of a.table) a.trace.now c.if-trace-gt-MOST_BYTES.true)

pub returns-in_err-queue : goal.returns-in_err-queue
returns-in_err-queue c =
    let a = c.args in
    let e = c.in_err-queue.field-0.0 in
    let is : c.from_residual.result ≡ Err e = search rules in
    let short = trace-short (groups_of a.table) a.trace.now c.if-trace-gt-MOST_BYTES.false in
    rw is (told-trace a.memory.now (buffers a.answers.now a.given.now a.values.now) e
    (short ∙ ap start_files (prepare-refused c.open_trace-opened.ensures c.in_err-queue.was)))

pub returns-in_err-count_events : goal.returns-in_err-count_events
returns-in_err-count_events c =
    let a = c.args in
    let e = c.in_err-count_events.field-0.0 in
    let fault = not_read a.trace.now c.open_trace-opened.result.at c.in_err-count_events.ensures in
    let is : c.from_residual-in_err-count_events.result ≡ Err e = search rules in
    rw is (told-trace a.memory.now (buffers a.answers.now a.given.now a.values.now) e
    (opened (goal.at.returns-in_err-count_events c).In_ok-queue ∙ ap
    (λ (g : Reply (List Event)). start_files (start_of (contents_of c.in_ok-queue.queue) g)) fault))

pub play_events-requires : goal.play_events-requires
play_events-requires c =
    let a = c.args in
    record {
      cleared = cleared a.memory.now (buffers a.answers.now a.given.now a.values.now) c.requires (c.fill.ensures.after λ y same. same);
      short = c.if-trace-gt-MOST_BYTES.false;
      memory_few = opened-words (groups_of a.table) (read_header a.trace.now) (trace-opened c.open_trace-opened.ensures c.in_ok-queue.was);
    }

-- all events are read: they are played on the memory, which is cleared by then
pub returns : goal.returns
returns c =
    let a = c.args in
    let b = buffers a.answers.now a.given.now a.values.now in
    let read = all_read a.trace.now c.open_trace-opened.result.at c.in_ok-count_events.ensures in
    told-as a.memory.now b (opened (goal.at.returns c).In_ok-queue)
    (told-cleared a.memory.now b (ap
    (λ (g : Reply (List Event)). start_files (start_of (contents_of c.in_ok-queue.queue) g)) read.is)
    (c.fill.ensures.after λ y same. same) c.play_events.ensures)
