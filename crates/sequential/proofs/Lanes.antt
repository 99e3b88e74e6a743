-- Words, lanes and memories. A cell is one lane of one address; today a word has one lane, which is the word itself. What a lane is
-- stands in this file alone: everything else goes by its laws, of which `at_put` says which cells a store changes.
use Prim.Native.Nat.{ℕ, ◌<◌}
use native.Mathlib.Omega.{arith}
use mathlib.Core.Path.{◌≡◌, refl, sym}
use mathlib.Core.Bool.{Bool, true, false}
use mathlib.Core.List.{List}
use lib.Dec.{eqb}
use lib.ListN.{length, get_or, set}
use lib.Seq.{get_or-set_same, get_or-set_other, ext_get_or}
use borrow.Author.Tests.{eqb-true, eqb-false}
use Rattle.number.specs.Basics.{pick}

pub lanes : ℕ
lanes = 1

-- a word's lane
pub lane_of : ℕ → ℕ → ℕ
lane_of w j = w

-- a memory's cell: a lane of the word at an address
abbrev pub cell_at : List ℕ → ℕ → ℕ → ℕ
cell_at m b j = lane_of (get_or m b 0) j

-- a word is its lanes
pub lanes_word : (w v : ℕ) → ((j : ℕ) → j < lanes → lane_of w j ≡ lane_of v j) → w ≡ v
unfolding lanes lane_of
lanes_word w v h = h 0 (omega arith)

-- the cells of a memory with a word put into it
pub at_put : (m : List ℕ) (a w b j : ℕ) → b < length m → cell_at (set m a w) b j ≡ pick (eqb a b) (lane_of w j) (cell_at m b j)
at_put m a w b j low = go (eqb a b) refl
  where
    go : (t : Bool) → eqb a b ≡ t → cell_at (set m a w) b j ≡ pick t (lane_of w j) (cell_at m b j)
    go true e = rw (eqb-true a b e, get_or-set_same m b w 0 low)
    go false e = rw (get_or-set_other m a b w 0 (λ p. eqb-false a b e (sym p)))

-- memories of one length with the same cells are the same
pub cells-memory : (m n : List ℕ) → length m ≡ length n → ((b j : ℕ) → b < length m → j < lanes → cell_at m b j ≡ cell_at n b j) → m ≡ n
cells-memory m n e h = ext_get_or 0 m n e (λ b low. lanes_word (get_or m b 0) (get_or n b 0) (λ j lane. h b j low lane))
