-- An accepted serve is, to every cell, a begin and a finish with nothing between; so is an accepted write.
use mathlib.Core.Path.{◌≡◌, refl}
use mathlib.Core.Bool.{true}
use mathlib.Core.List.{List, ◌∷◌, ◌++◌}
use mathlib.Core.Option.{Option, some}
use Rattle.table.specs.RightTables.{Each}
use Rattle.queue.specs.Touch.{same}
use Rattle.sequential.proofs.Cells.{waiting, ended, Seen, load, store, supplied, in_memory, source}
use Rattle.sequential.proofs.CellInvariant.{passed, CellInvariant}
use Rattle.sequential.proofs.CellMoves.{load-forwarded, load-begun, load-ended, store-begun, store-ended, moves-keep}

module _ {B : Type 0} (m n : B) (pre post : List (Seen B)) (o : Option B) where
  pub served-from-store : (w : B) → source in_memory pre ≡ supplied (some w)
      → CellInvariant m n (pre ++ load same waiting o ∷ post) → CellInvariant m n (pre ++ load same ended (some w) ∷ post)
  served-from-store w s h = moves-keep m n pre post (load-forwarded s refl) h

  pub served-from-memory : source in_memory pre ≡ in_memory
      → CellInvariant m n (pre ++ load same waiting o ∷ post) → CellInvariant m n (pre ++ load same ended (some m) ∷ post)
  served-from-memory s h = moves-keep m n pre post load-ended (moves-keep m n pre post (load-begun s) h)

module _ {B : Type 0} (m n : B) (pre post : List (Seen B)) where
  pub written-at-once : (w : B) → Each (λ a. passed a ≡ true) pre
      → CellInvariant m n (pre ++ store same waiting (some w) ∷ post) → CellInvariant w n (pre ++ store same ended (some w) ∷ post)
  written-at-once w s h = moves-keep m n pre post store-ended (moves-keep m n pre post (store-begun s) h)
