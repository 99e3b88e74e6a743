-- What one cell sees of the log. A memory is there one value, of any type (today a word), and an access is apart from the cell,
-- unknown (it has no address yet) or the same. Every rule that orders accesses is a rule of each cell alone.
use mathlib.Core.Bool.{Bool, true, false, ◌||◌}
use mathlib.Core.List.{List, [], ◌∷◌}
use mathlib.Core.Option.{Option}
use Rattle.queue.specs.Touch.{Touch, apart, unknown, same, is_apart}

-- An access waits, is begun, and has ended: a load is then served, a store written. Today none stays begun.
pub data Stage : Type 0 where
  waiting : Stage
  begun : Stage
  ended : Stage

abbrev pub is_waiting : Stage → Bool
is_waiting waiting = true
is_waiting begun = false
is_waiting ended = false

abbrev pub is_begun : Stage → Bool
is_begun waiting = false
is_begun begun = true
is_begun ended = false

abbrev pub is_ended : Stage → Bool
is_ended waiting = false
is_ended begun = false
is_ended ended = true

-- whether the cell is concerned, the stage, and a value: what a load has got, what a store puts
pub data Seen (B : Type 0) : Type 0 where
  load : Touch → Stage → Option B → Seen B
  store : Touch → Stage → Option B → Seen B

-- where a load would find its value
pub data CellSource (B : Type 0) : Type 0 where
  unsettled : CellSource B
  supplied : Option B → CellSource B
  in_memory : CellSource B

module _ {B : Type 0} where
  -- The source past one more store, where it was k before. The stores are walked from the oldest, so the nearest one that is not apart
  -- decides: one without address leaves the source unsettled (28); one to the cell supplies its value or, where it is written, sends the
  -- load to memory. Until it has ended a store is not written.
  abbrev pub after : Touch → Stage → Option B → CellSource B → CellSource B
  after apart stage byte k = k
  after unknown stage byte k = unsettled
  after same waiting byte k = supplied byte
  after same begun byte k = supplied byte
  after same ended byte k = in_memory

  abbrev pub source : CellSource B → List (Seen B) → CellSource B
  source k [] = k
  source k (load t g o ∷ es) = source k es
  source k (store t g o ∷ es) = source (after t g o k) es

  -- an earlier load, an earlier store, that does not stand in a store's way: 31 and 32 for one cell
  abbrev pub load_passed : Seen B → Bool
  load_passed (load t g o) = is_apart t || is_ended g
  load_passed (store t g o) = true

  abbrev pub store_passed : Seen B → Bool
  store_passed (load t g o) = true
  store_passed (store t g o) = is_apart t || is_ended g
