use Rattle.std.proofs.Common.{refl, rules}
use Rattle.queue.specs.declared.Queue.{Queue}
use Rattle.queue.specs.Contents.{contents_of}
use Rattle.queue.specs.Write.{write}
use Rattle.queue.specs.Parts.{queue_of}
use Rattle.queue.proofs.PartsLaws.{full, unfit}
use Rattle.queue.proofs.WriteLaws.{write-unsound, write-memory, write-place}
use Rattle.queue.proofs.writing.write_in.Goals as goal
use Rattle.queue.proofs.writing.write_in.Goals.{After-check_parts}

-- the queue of these parts
abbrev queue : After-check_parts → Queue
queue c = queue_of c.args.frame.now c.args.load_entries.now c.args.store_entries.now

pub returns-in_err-check_parts-clause-writes : goal.returns-in_err-check_parts-clause-writes
returns-in_err-check_parts-clause-writes c =
    let q = queue (goal.at.returns-in_err-check_parts-clause-writes c).After-check_parts in
    rw (unfit q (write (contents_of q) c.args.memory.now c.args.serial) _ c.in_err-check_parts.ensures (write-unsound q c.args.memory.now c.args.serial))
    (record { outcome = search rules; memory_is = refl })

pub returns-then-memory-frame-clause-writes : goal.returns-then-memory-frame-clause-writes
returns-then-memory-frame-clause-writes c =
    let fit = c.in_ok-check_parts.ensures in
    let q = queue (goal.at.returns-then-memory-frame-clause-writes c).After-check_parts in
    rw (full fit, write-memory q c.args.memory.now c.args.serial fit.right c.if-memory-frame.true) (record { outcome = refl; memory_is = refl })

pub returns-clause-writes : goal.returns-clause-writes
returns-clause-writes c =
    let fit = c.in_ok-check_parts.ensures in
    let q = queue (goal.at.returns-clause-writes c).After-check_parts in
    rw (full fit, write-place q c.args.memory.now c.args.serial fit.right c.if-memory-frame.false, ← c.place_of-place.ensures) c.write_at.ensures.writes
