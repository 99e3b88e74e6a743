-- The first i places hold the entries from the `gone`th on, which remember the fewer of the other kind; the rest is as it was.
use Rattle.queue.proofs.RetireLaws.{lowered_in, Moved}
use Rattle.queue.proofs.retiring.shift.Given as goal

abbrev pub invariant-loop-i : goal.invariant-loop-i
invariant-loop-i l = Moved (lowered_in l.others) l.gone l.initial.entries l.i l.entries
