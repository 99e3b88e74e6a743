-- What is left of the stores decides as all of them do.
use Rattle.queue.proofs.SourceLaws.{WalkedBack}
use Rattle.queue.proofs.serving.source_of.Given as goal

abbrev pub invariant-loop-number : goal.invariant-loop-number
invariant-loop-number l = WalkedBack l.address l.stores l.number-iterator.iter.rest.now
