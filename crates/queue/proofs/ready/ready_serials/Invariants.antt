use Rattle.queue.specs.Contents.{of_kind}
use Rattle.queue.specs.Internal.{ready_at}
use Rattle.queue.proofs.ReadyLaws.{ReadyGathering}
use Rattle.queue.proofs.ready.ready_serials.Given as goal

abbrev pub invariant-loop-i : goal.invariant-loop-i
invariant-loop-i l =
    ReadyGathering (ready_at l.kind l.load_entries l.store_entries) l.initial.serial (of_kind l.kind l.frame.loads l.frame.stores).count l.i l.serial
    (record { count = l.count; numbers = l.numbers })
