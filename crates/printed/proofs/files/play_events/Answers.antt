use Prim.Native.Nat.{◌≤◌}
use mathlib.Core.Path.{◌≡◌, sym}
use native.Mathlib.Omega.{arith}
use lib.ListN.{length}
use lib.Seq.{length-take-le}
use Rattle.std.specs.Prelude.{Err}
use borrow.Author.Rules.{rules}
use Rattle.queue.specs.Contents.{contents_of}
use Rattle.queue.proofs.ContentsLaws.{words-held}
use Rattle.replay.proofs.ReplayLaws.{buffers}
use Rattle.printed.specs.Files.{no_counts}
use Rattle.printed.proofs.FilesLaws.{plays-fault, plays-run}
use Rattle.printed.proofs.files.play_events.Goals as goal

pub slice_bounds-front-end : goal.slice_bounds-front-end
slice_bounds-front-end c = omega (arith, words-held c.args.queue, c.requires.memory_few, c.requires.cleared.room.words)

pub slice_bounds-front-end-2 : goal.slice_bounds-front-end-2
slice_bounds-front-end-2 c =
    let few_words : c.args.queue.frame.memory_length ≤ length c.args.memory.now =
    omega (arith, words-held c.args.queue, c.requires.memory_few, c.requires.cleared.room.words) in
    sym (length-take-le _ c.args.memory.now few_words)

pub returns-in_err-events : goal.returns-in_err-events
returns-in_err-events c =
    let a = c.args in
    let l = c.replay_from.new in
    let e = c.in_err-events.field-0.0 in
    let none : c.default-counts.result ≡ no_counts = search rules in
    let is : c.from_residual.result ≡ Err e = search rules in
    rw is (plays-fault (contents_of a.queue) a.at a.queue.frame.memory_length l.counts l.memory (buffers l.answers l.given l.values) c.requires
    (sym (words-held a.queue)) e (rw none at c.in_err-events.ensures))

pub returns : goal.returns
returns c =
    let a = c.args in
    let l = c.replay_from.new in
    let none : c.default-counts.result ≡ no_counts = search rules in
    plays-run (contents_of a.queue) a.at a.queue.frame.memory_length l.counts l.memory (buffers l.answers l.given l.values) c.requires
    (sym (words-held a.queue)) c.in_ok-events.events (rw none at c.in_ok-events.ensures)
