-- What only closed cases can hold: which kind is which, and which records name accesses.
use Prim.Native.Nat.{ℕ}
use mathlib.Core.Path.{◌≡◌, refl}
use mathlib.Core.List.{List, [], ◌∷◌}
use lib.ListN.{replicate}
use Rattle.ordering.specs.declared.Ordered.{Ordered}
use Rattle.table.specs.Packed.{pair}
use Rattle.grouping.specs.declared.Accesses.{Accesses}
use Rattle.grouping.specs.Grouping.{groups_in_order}

-- access 0 is a load of port 5, access 1 a store of port 6, access 2, of kind 255, a store of port 7
abbrev three : Accesses
three = record { kinds = 0 ∷ 1 ∷ 255 ∷ replicate 29 0; ports = 5 ∷ 6 ∷ 7 ∷ replicate 29 0 }

abbrev saying : ℕ → ℕ → List ℕ → Ordered
saying answer count accesses = record { answer = answer; count = count; accesses = accesses }

in_order_lem : groups_in_order (saying 0 3 (2 ∷ 0 ∷ 1 ∷ replicate 29 0)) three
    ≡ record { loads = pair 1 5 ∷ []; stores = pair 0 7 ∷ pair 1 6 ∷ [] } ∷ []
in_order_lem = refl

-- no access is a group too
no_access : groups_in_order (saying 0 0 (replicate 32 9)) three ≡ record { loads = []; stores = [] } ∷ []
no_access = refl

refused : groups_in_order (saying 1 3 (replicate 32 0)) three ≡ []
refused = refl

count_33 : groups_in_order (saying 0 33 (replicate 32 0)) three ≡ []
count_33 = refl

access_32 : groups_in_order (saying 0 2 (0 ∷ 32 ∷ replicate 30 0)) three ≡ []
access_32 = refl

-- beyond the count it means nothing
access_32_beyond : groups_in_order (saying 0 1 (0 ∷ 32 ∷ replicate 30 0)) three ≡ record { loads = pair 0 5 ∷ []; stores = [] } ∷ []
access_32_beyond = refl
