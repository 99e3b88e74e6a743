-- The log and the memories, cell by cell: what every call does to one entry is a move of each cell, so the invariant is kept.
use Prim.Native.Nat.{ℕ, ◌<◌}
use mathlib.Core.Path.{◌≡◌, refl}
use mathlib.Core.Bool.{Bool, true, false}
use mathlib.Core.List.{List, [], ◌∷◌, ◌++◌, map, map-append, append-nil, append_assoc}
use mathlib.Core.Option.{none, some}
use lib.Dec.{eqb}
use lib.ListN.{length, get_or, set}
use borrow.Author.Tests.{eqb-true}
use Rattle.number.specs.Basics.{pick, all_of}
use Rattle.table.specs.Group.{Access, load as a_load, store as a_store}
use Rattle.queue.specs.Entry.{served, written}
use Rattle.queue.specs.Touch.{apart, same, touch}
use Rattle.queue.specs.Serve.{Source as Word, unsettled as unsettled_word, from_store, from_memory, source as word_source}
use Rattle.queue.specs.Write.{no_conflict}
use Rattle.queue.proofs.Lists.{false-true}
use Rattle.queue.proofs.SourceLaws.{word_from}
use Rattle.sequential.proofs.Log.{LogEntry, loads, stores, own_in, fresh}
use Rattle.sequential.proofs.Lanes.{lanes, lane_of, cell_at, at_put}
use Rattle.sequential.proofs.Cells.{waiting, ended, Seen, load, store, in_memory, source}
use Rattle.sequential.proofs.CellInvariant.{CellInvariant}
use Rattle.sequential.proofs.CellMoves.{Moves, load-aside, store-aside, moves-keep, Fresh, fresh-load, fresh-store, fresh_keeps}
use Rattle.sequential.proofs.AtOnce.{served-from-store, served-from-memory, written-at-once}
use Rattle.sequential.proofs.Views.{view, source_in, source-view, conflicts_view}

-- m is the present memory, `memory` the opening one
abbrev pub CellsHold : List ℕ → List ℕ → List LogEntry → Type 0
CellsHold m memory log = (b j : ℕ) → b < length memory → j < lanes → CellInvariant (cell_at m b j) (cell_at memory b j) (map (view b j) log)

pub cells-opened : (memory : List ℕ) → CellsHold memory memory []
cells-opened memory b j low lane = record { agree = refl; right = tt; before = tt }

-- ---- new entries

fresh-view : (b j : ℕ) (a : Access) → Fresh (view b j (fresh a))
fresh-view b j (a_load p) = fresh-load
fresh-view b j (a_store p) = fresh-store

pub cells_added : (m memory : List ℕ) (log : List LogEntry) (new : List Access) → CellsHold m memory log → CellsHold m memory (log ++ map fresh new)
cells_added m memory log [] h = rw (append-nil log) h
cells_added m memory log (a ∷ new) h =
    rw (append_assoc log (fresh a ∷ []) (map fresh new)) at
    (cells_added m memory (log ++ fresh a ∷ []) new
    (λ b j low lane. rw (map-append (view b j) log (fresh a ∷ []))
    (fresh_keeps (view b j (fresh a)) (fresh-view b j a) (map (view b j) log) (cell_at m b j) (cell_at memory b j) (h b j low lane))))

-- ---- one entry made anew

module _ (m memory : List ℕ) (pre : List LogEntry) (e e' : LogEntry) (post : List LogEntry) where
  -- what becomes of each cell
  cells-change : (m' : List ℕ)
      → ((b j : ℕ) → b < length memory → j < lanes
      → CellInvariant (cell_at m b j) (cell_at memory b j) (map (view b j) pre ++ view b j e ∷ map (view b j) post)
      → CellInvariant (cell_at m' b j) (cell_at memory b j) (map (view b j) pre ++ view b j e' ∷ map (view b j) post))
      → CellsHold m memory (pre ++ e ∷ post) → CellsHold m' memory (pre ++ e' ∷ post)
  cells-change m' change h b j low lane =
      rw (map-append (view b j) pre (e' ∷ post)) (change b j low lane (rw (map-append (view b j) pre (e ∷ post)) at (h b j low lane)))

  -- a move that leaves memory as it is
  pub cells-moved : ((b j : ℕ) → Moves (cell_at m b j) (map (view b j) pre) (view b j e) (view b j e') (cell_at m b j))
      → CellsHold m memory (pre ++ e ∷ post) → CellsHold m memory (pre ++ e' ∷ post)
  cells-moved move h =
      cells-change m (λ b j low lane. moves-keep (cell_at m b j) (cell_at memory b j) (map (view b j) pre) (map (view b j) post) (move b j)) h

  -- no cell sees what changed
  pub cells_same : ((b j : ℕ) → view b j e ≡ view b j e') → CellsHold m memory (pre ++ e ∷ post) → CellsHold m memory (pre ++ e' ∷ post)
  cells_same is h = cells-change m (λ b j low lane k. rw (is b j) at k) h

  -- A load of the address a is served the word that its source gives.
  pub cells-served : (a v : ℕ) → ((b j : ℕ) → view b j e ≡ load (touch b (some a)) waiting none)
      → ((b j : ℕ) → view b j e' ≡ load (touch b (some a)) ended (some (lane_of v j)))
      → word_from (get_or m a 0) (word_source a (own_in stores pre)) ≡ some v
      → CellsHold m memory (pre ++ e ∷ post) → CellsHold m memory (pre ++ e' ∷ post)
  cells-served a v was is word h =
      cells-change m (λ b j low lane k. rw (is b j) (go b j (eqb a b) refl (rw (was b j) at k))) h
    where
      from : (j : ℕ) (x : Word) → source in_memory (map (view a j) pre) ≡ source_in j x → word_from (get_or m a 0) x ≡ some v
          → (n : ℕ) (ps : List (Seen ℕ)) → CellInvariant (cell_at m a j) n (map (view a j) pre ++ load same waiting none ∷ ps)
          → CellInvariant (cell_at m a j) n (map (view a j) pre ++ load same ended (some (lane_of v j)) ∷ ps)
      from j unsettled_word s w n ps k = let z : false ≡ true = cc in false-true z
      from j (from_store none) s w n ps k = let z : false ≡ true = cc in false-true z
      from j (from_store (some x)) s w n ps k =
          let same_word : x ≡ v = cc in
          rw (← same_word) (served-from-store (cell_at m a j) n (map (view a j) pre) ps none (lane_of x j) s k)
      from j from_memory s w n ps k =
          let same_word : get_or m a 0 ≡ v = cc in
          rw (← same_word) (served-from-memory (cell_at m a j) n (map (view a j) pre) ps none s k)

      go : (b j : ℕ) (t : Bool) → eqb a b ≡ t
          → CellInvariant (cell_at m b j) (cell_at memory b j) (map (view b j) pre ++ load (pick t same apart) waiting none ∷ map (view b j) post)
          → CellInvariant (cell_at m b j) (cell_at memory b j) (map (view b j) pre ++ load (pick t same apart) ended (some (lane_of v j)) ∷ map (view b j) post)
      go b j true here k =
          let at_a = eqb-true a b here in
          rw (← at_a)
          (from j (word_source a (own_in stores pre)) (source-view a j pre) word (cell_at memory a j) (map (view a j) post) (rw (← at_a) at k))
      go b j false here k = moves-keep (cell_at m b j) (cell_at memory b j) (map (view b j) pre) (map (view b j) post) load-aside k

  -- A store of w to the address a is written, where nothing before it conflicts.
  pub cells-written : (a w : ℕ) → length m ≡ length memory → ((b j : ℕ) → view b j e ≡ store (touch b (some a)) waiting (some (lane_of w j)))
      → ((b j : ℕ) → view b j e' ≡ store (touch b (some a)) ended (some (lane_of w j)))
      → all_of (no_conflict served a) (own_in loads pre) ≡ true → all_of (no_conflict written a) (own_in stores pre) ≡ true
      → CellsHold m memory (pre ++ e ∷ post) → CellsHold (set m a w) memory (pre ++ e' ∷ post)
  cells-written a w long was is no-load no_store h =
      cells-change (set m a w) (λ b j low lane k. rw (is b j, at_put m a w b j (rw long low)) (go b j (eqb a b) refl (rw (was b j) at k))) h
    where
      go : (b j : ℕ) (t : Bool) → eqb a b ≡ t
          → CellInvariant (cell_at m b j) (cell_at memory b j) (map (view b j) pre ++ store (pick t same apart) waiting (some (lane_of w j)) ∷ map (view b j) post)
          → CellInvariant (pick t (lane_of w j) (cell_at m b j)) (cell_at memory b j)
          (map (view b j) pre ++ store (pick t same apart) ended (some (lane_of w j)) ∷ map (view b j) post)
      go b j true here k =
          written-at-once (cell_at m b j) (cell_at memory b j) (map (view b j) pre) (map (view b j) post) (lane_of w j)
          (rw (eqb-true a b here) at (conflicts_view a j pre no-load no_store)) k
      go b j false here k = moves-keep (cell_at m b j) (cell_at memory b j) (map (view b j) pre) (map (view b j) post) store-aside k
