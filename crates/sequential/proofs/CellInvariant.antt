-- One cell. Everything that the order of accesses has to guarantee is a matter of each cell alone: a memory is here one
-- value, an entry is what the cell sees of it. No address, no lane and no law of memory occurs.
use mathlib.Core.Path.{◌≡◌}
use mathlib.Core.Bool.{Bool, true, false, not, ◌&&◌, ◌||◌}
use mathlib.Core.List.{List, [], ◌∷◌}
use mathlib.Core.Option.{Option, none, some}
use Rattle.number.specs.Basics.{pick, is_some}
use Rattle.table.specs.RightTables.{Each}
use Rattle.sequential.proofs.EachLaws.{Pairs}
use Rattle.sequential.proofs.Cells.{Stage, waiting, begun, ended, is_begun, is_ended, Seen, load, store, load_passed, store_passed}
use Rattle.queue.specs.Touch.{Touch, apart, unknown, same, is_same}

-- may an access, once complete, touch the cell (true), or leave it alone (false)
abbrev pub may : Touch → Bool → Type 0
may apart b = b ≡ false
may unknown b = Unit {0}
may same b = b ≡ true

-- a store without address waits
abbrev pub RightStore : Touch → Stage → Type 0
RightStore apart g = Unit {0}
RightStore unknown g = g ≡ waiting
RightStore same g = Unit {0}

module _ {B : Type 0} where
  -- what is there, else the other
  abbrev pub or_else : Option B → B → B
  or_else none b = b
  or_else (some a) b = a

  -- may x stand where this is known
  abbrev pub fits : Option B → B → Type 0
  fits none x = Unit {0}
  fits (some y) x = y ≡ x

  -- The store done to the virtual memory: memory with the unwritten stores so far done in order. A written one is in it already.
  abbrev pub does : Stage → Bool → B → B → B
  does waiting b w m = pick b w m
  does begun b w m = pick b w m
  does ended b w m = m

  -- Agree. `n` is the plain run's cell so far, `m` the virtual memory's. A load that touches the cell has got what the plain
  -- run reads or, where it has got nothing, virtual memory holds that. "However missing arguments are filled in" is said entry by
  -- entry: a completion has whatever the entry has.
  abbrev pub Agree : B → B → List (Seen B) → Type 0
  Agree m n [] = m ≡ n
  Agree m n (load t g o ∷ es) = (may t true → or_else o m ≡ n) × Agree m n es
  Agree m n (store t g o ∷ es) = (b : Bool) → may t b → (w : B) → fits o w → Agree (does g b w m) (pick b w n) es

  -- Right. What has no address waits; a waiting load has nothing, an ended one has its value.
  abbrev pub RightLoad : Touch → Stage → Option B → Type 0
  RightLoad apart g o = Unit {0}
  RightLoad unknown g o = (g ≡ waiting) × (o ≡ none)
  RightLoad same waiting o = o ≡ none
  RightLoad same begun o = Unit {0}
  RightLoad same ended o = is_some o ≡ true

  abbrev pub Right : Seen B → Type 0
  Right (load t g o) = RightLoad t g o
  Right (store t g o) = RightStore t g

  -- a store to the cell that has begun or is written; a load begun that will read the cell from memory
  abbrev pub writes : Seen B → Bool
  writes (load t g o) = false
  writes (store t g o) = is_same t && (is_begun g || is_ended g)

  abbrev pub reads_memory : Seen B → Bool
  reads_memory (load t g o) = is_same t && (is_begun g && not (is_some o))
  reads_memory (store t g o) = false

  -- an earlier entry that 31 and 32 let a store pass
  abbrev pub passed : Seen B → Bool
  passed a = load_passed a && store_passed a

  -- What an earlier entry is to a later one.
  -- Ordered: a store goes to memory only past loads that have ended, stores that are written, and entries apart.
  -- Clear: a load reads memory only past stores that are written or apart.
  pub record Before (a x : Seen B) : Type 0 where
    pub ordered : writes x ≡ true → passed a ≡ true
    pub clear : reads_memory x ≡ true → store_passed a ≡ true

  pub record CellInvariant (m n : B) (es : List (Seen B)) : Type 0 where
    pub agree : Agree m n es
    pub right : Each Right es
    pub before : Pairs Before es
