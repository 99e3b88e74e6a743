use Rattle.std.proofs.Common.{refl, rules}
use Rattle.queue.specs.declared.Queue.{Queue}
use Rattle.queue.specs.Contents.{contents_of}
use Rattle.queue.specs.Ready.{ready}
use Rattle.queue.specs.Parts.{queue_of}
use Rattle.queue.proofs.ReadyLaws.{ready-unsound, ready-sound, handed}
use Rattle.queue.proofs.PartsLaws.{full, unfit}
use Rattle.queue.proofs.ready.ready_in.Goals as goal
use Rattle.queue.proofs.ready.ready_in.Goals.{After-check_parts}

-- the queue of these parts
abbrev queue : After-check_parts → Queue
queue c = queue_of c.args.frame.now c.args.load_entries.now c.args.store_entries.now

pub returns-in_err-check_parts : goal.returns-in_err-check_parts
returns-in_err-check_parts c =
    let q = queue (goal.at.returns-in_err-check_parts c).After-check_parts in
    rw (unfit q (ready c.args.kind (contents_of q) c.args.out.now) _ c.in_err-check_parts.ensures (ready-unsound c.args.kind (contents_of q) c.args.out.now))
    (record { outcome = search rules; run_is = refl })

pub returns : goal.returns
returns c =
    let fit = c.in_ok-check_parts.ensures in
    let q = queue (goal.at.returns c).After-check_parts in
    rw (full fit, ready-sound c.args.kind (contents_of q) c.args.out.now fit.right) (rw c.ready_serials-count.ensures.are at (handed q c.hand_out.ensures))
