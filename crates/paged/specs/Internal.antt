-- What the crate's own functions promise each other: nothing here is promised to a caller from outside.
use Rattle.std.specs.Prelude.{ℕ, ◌≡◌, List}
use Rattle.number.specs.Reply.{accept}
use Rattle.trace.specs.declared.Event.{Event}
use Rattle.replay.specs.Events.{events_from}

-- the events from a place on can all be read
pub record AllReadable (trace : List ℕ) (place : ℕ) : Type 0 where
  pub events : List Event
  pub is : events_from trace place ≡ accept events
