-- Laws of reading events at a place.
use Prim.Native.Nat.{ℕ, ◌≤◌, ◌<◌}
use mathlib.Core.Path.{◌≡◌}
use mathlib.Core.List.{List}
use lib.ListN.{length, drop, drop_of_length-le}
use lib.Seq.{drop-cons}
use Rattle.number.specs.Reply.{accept}
use Rattle.trace.specs.Event.{at_end, event_read_in, event_at, read_event}

pub event_at_end : (s : List ℕ) (place : ℕ) → length s ≤ place → event_at s place ≡ accept at_end
unfolding event_at
event_at_end s place h = rw (drop_of_length-le s h)

pub event_at_inside : (s : List ℕ) (place : ℕ) → place < length s → event_at s place ≡ event_read_in s (read_event (drop place s))
unfolding event_at
event_at_inside s place h = rw (drop-cons s place 0 h)
