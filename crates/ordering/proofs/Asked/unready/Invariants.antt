-- Invariant: marked are the accesses that are placed and those that the pairs passed hold back.
use Prim.Native.Nat.{ℕ}
use mathlib.Core.Path.{◌≡◌}
use mathlib.Core.Bool.{false, ◌||◌}
use lib.ListN.{length, take, get_or}
use Rattle.number.specs.Basics.{any_of}
use Rattle.ordering.specs.Answer.{blocks}
use Rattle.ordering.specs.Internal.{waits}
use Rattle.ordering.proofs.Asked.unready.Given as goal

abbrev pub invariant-loop-pair : goal.invariant-loop-pair
invariant-loop-pair l =
    (length l.marks ≡ 32)
    × ((a : ℕ) → get_or l.marks a false ≡ get_or l.placed a false || any_of (blocks (waits l.self.accesses l.placed) a) (take l.pair-index l.self.pairs.now))
