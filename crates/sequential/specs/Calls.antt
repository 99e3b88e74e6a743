-- The calls that a list may hold. The plain run is fed these, and knows nothing of how the queue answers them.
use Rattle.std.specs.Prelude.{ℕ, List}
use Rattle.counts.specs.declared.Counts.{Counts}
use Rattle.queue.specs.declared.Kind.{Kind}
use Rattle.queue.specs.declared.arguments.Argument.{Argument}

-- activate a group; give an argument, which is a load address, a store address or store data, to a port; serve with these
-- counts, or write, a serial; take from a port; which of this kind are ready, with this run of numbers
pub data Call : Type 0 where
  Activate : ℕ → Call
  Give : Argument → ℕ → ℕ → Call
  Serve : Counts → ℕ → Call
  Write : ℕ → Call
  Take : ℕ → Call
  Ready : Kind → List ℕ → Call
