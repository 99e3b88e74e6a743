-- What the call on the parts gives, told as numbers.
use Rattle.queue.specs.Contents.{contents_of}
use Rattle.queue.specs.Serve.{serve}
use Rattle.queue.specs.Outcome.{gave, with_counts}
use Rattle.queue.specs.Parts.{queue_of, on_parts}
use Rattle.live.proofs.CallLaws.{serves-tell}
use Rattle.live.proofs.calls.lsq_serve_in.Goals as goal

pub returns-clause-counts : goal.returns-clause-counts
returns-clause-counts c =
    let a = c.args in
    let q = queue_of a.frame a.loads.now a.stores.now in
    let left = with_counts (gave c.serve_in-answer.result (queue_of a.frame c.serve_in-answer.new.load_entries a.stores.now)) c.serve_in-answer.new.counts in
    rw c.live_service.ensures
    (serves-tell q a.counts left (on_parts a.loads.now a.stores.now (serve (contents_of q) a.memory.now a.serial)) c.serve_in-answer.ensures).1
