-- Invariant: what is placed, followed by what the rule gives for those that wait, is what it gives for all.
use mathlib.Core.Path.{◌≡◌}
use lib.ListN.{length}
use Rattle.ordering.proofs.Loops.{Placing}
use Rattle.ordering.proofs.Asked.arrange.Given as goal

abbrev pub invariant-loop-place : goal.invariant-loop-place
invariant-loop-place l = (length l.placed ≡ 32) × Placing l.self.accesses l.self.pairs.now l.placed l.place-items l.place-index
