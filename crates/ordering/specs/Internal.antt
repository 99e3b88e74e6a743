-- What the functions within the crate promise each other.
use Rattle.std.specs.Prelude.{ℕ, ◌<◌, ◌≡◌, Bool, false, not, ◌&&◌, List, Option, Some, None, Result, Ok, Err, ltb, get_or}
use Rattle.number.specs.declared.refusal.Refusal.{Refusal}
use Rattle.number.specs.Reply.{refuse}
use Rattle.number.specs.Refusal.{refusal_number}
use Rattle.ordering.specs.declared.Precedence.{Precedence}
use Rattle.ordering.specs.declared.Ordered.{Ordered}
use Rattle.ordering.specs.Answer.{Waiting, ready}
use Rattle.ordering.specs.Records.{ordered}

-- the accesses below n whose mark is not set
abbrev pub waits : ℕ → List Bool → Waiting
waits n placed a = ltb a n && not (get_or placed a false)

-- its mark is not set
abbrev pub unmarked : List Bool → ℕ → Bool
unmarked marks a = not (get_or marks a false)

-- the marks are set of just those accesses that are not ready
pub record Unready (n : ℕ) (pairs : List Precedence) (placed marks : List Bool) : Type 0 where
  pub is : (a : ℕ) → a < n → unmarked marks a ≡ ready pairs (waits n placed) a

-- of n accesses the next one, as a search gives it: n is none
abbrev pub NextIs : ℕ → ℕ → Option ℕ → Type 0
NextIs n next None = next ≡ n
NextIs n next (Some a) = (a < n) × (a ≡ next)

-- the record that is handed back: the one made, or that of the refusal
abbrev pub record_of : Result Ordered Refusal → Ordered
record_of (Ok made) = made
record_of (Err refusal) = ordered (refuse (refusal_number refusal))
