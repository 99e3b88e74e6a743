-- "Activation gives the group's loads the next load serials and its stores the next store serials." "Each entry remembers
-- how many queued entries of the other kind come before it." "Activate: 20 no such group; 21 too few free places on either side."
use Rattle.std.specs.Prelude.{ℕ, suc, ◌+◌, Bool, ◌&&◌, List, [], ◌∷◌, ◌++◌, length, nat_le}
use Rattle.std.proofs.Math.ListN.{get_elem?}
use Rattle.number.specs.Basics.{pick}
use Rattle.number.specs.Refusal.{unsound, no_group, no_place}
use Rattle.number.specs.Reply.{Reply, accept, need, have}
use Rattle.table.specs.Group.{GroupPairs, Access, pair_of, is_load, is_store, order}
use Rattle.queue.specs.declared.Kind.{Kind}
use Rattle.queue.specs.declared.Kind.TheVariants.{Load as load, Store as store}
use Rattle.queue.specs.Entry.{Entry, new_entry}
use Rattle.queue.specs.Contents.{Side, Contents, of_kind, with_sides, after}
use Rattle.queue.specs.Sound.{sound}

-- is it an access of the kind
abbrev pub is_of : Kind → Access → Bool
is_of kind = of_kind kind is_load is_store

-- The new entries of a kind, of accesses in program order, by how many of the other kind are queued before them.
abbrev pub new_entries : Kind → ℕ → List Access → List Entry
new_entries kind others [] = []
new_entries kind others (a ∷ rest) =
    pick (is_of kind a) (new_entry (pair_of a) others ∷ new_entries kind others rest) (new_entries kind (suc others) rest)

-- enough free places on a side for `more` entries; on both sides
abbrev pub side_has_room : Side → ℕ → Bool
side_has_room s more = nat_le (length s.entries + more) s.depth

abbrev pub room : Contents → GroupPairs → Bool
room q g = side_has_room q.loads (length g.loads) && side_has_room q.stores (length g.stores)

-- a side with new entries behind those held; these get the next serials
abbrev pub joined : Side → List Entry → Side
joined s new = record { depth = s.depth; next = after s.next (length new); entries = s.entries ++ new }

-- the queue with a group's new entries on both sides
abbrev pub with_group : Contents → GroupPairs → Contents
with_group q g =
    with_sides q (joined q.loads (new_entries load (length q.stores.entries) (order g)))
    (joined q.stores (new_entries store (length q.loads.entries) (order g)))

unfoldable pub activate : Contents → ℕ → Reply Contents
activate q group =
    need (sound q) unsound
    (have (get_elem? q.groups group) no_group λ g.
    need (room q g) no_place
    (accept (with_group q g)))
