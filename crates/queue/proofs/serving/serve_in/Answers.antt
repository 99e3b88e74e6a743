use Rattle.std.proofs.Common.{rules}
use Rattle.queue.specs.declared.Queue.{Queue}
use Rattle.queue.specs.Contents.{contents_of}
use Rattle.queue.specs.Serve.{serve}
use Rattle.queue.specs.Parts.{queue_of}
use Rattle.queue.proofs.PartsLaws.{full, unfit}
use Rattle.queue.proofs.ServeLaws.{serve-unsound, serve-memory, serve-place}
use Rattle.queue.proofs.serving.serve_in.Goals as goal
use Rattle.queue.proofs.serving.serve_in.Goals.{After-check_parts}

-- the queue of these parts
abbrev queue : After-check_parts → Queue
queue c = queue_of c.args.frame.now c.args.load_entries.now c.args.store_entries.now

pub returns-in_err-check_parts : goal.returns-in_err-check_parts
returns-in_err-check_parts c =
    let q = queue (goal.at.returns-in_err-check_parts c).After-check_parts in
    rw (unfit q (serve (contents_of q) c.args.memory.now c.args.serial) _ c.in_err-check_parts.ensures (serve-unsound q c.args.memory.now c.args.serial))
    (search rules)

pub returns-then-memory-frame : goal.returns-then-memory-frame
returns-then-memory-frame c =
    let fit = c.in_ok-check_parts.ensures in
    let q = queue (goal.at.returns-then-memory-frame c).After-check_parts in
    rw (full fit, serve-memory q c.args.memory.now c.args.serial fit.right c.if-memory-frame.true)

pub returns : goal.returns
returns c =
    let fit = c.in_ok-check_parts.ensures in
    let q = queue (goal.at.returns c).After-check_parts in
    rw (full fit, serve-place q c.args.memory.now c.args.serial fit.right c.if-memory-frame.false, ← c.place_of-place.ensures) c.serve_at.ensures
