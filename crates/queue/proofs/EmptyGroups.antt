-- Empty groups; the statements are specs/EmptyGroups.antt.
use Rattle.std.proofs.Common.{◌≡◌, ℕ, zero, suc, ◌^◌, ◌<◌, Bool, true, false, ◌&&◌, leb, List, [], ◌∷◌, ◌++◌, length, replicate, refl, ap}
use Rattle.std.proofs.Common.{◌∙◌, append-nil, add-zero, arith, le-leb}
use Rattle.number.specs.Basics.{any_of, all_of}
use Rattle.number.specs.Refusal.{unsound, bad_load_depth, bad_store_depth, bad_memory_length, group_too_large}
use Rattle.table.specs.Group.{GroupPairs, empty_group}
use Rattle.table.specs.Table.{check_table}
use Rattle.table.proofs.EmptyGroups.{empty_groups_leave_fault, empty_tables}
use Rattle.queue.specs.declared.Kind.{Kind}
use Rattle.queue.specs.declared.Kind.TheVariants.{Load as load, Store as store}
use Rattle.number.specs.Reply.{accept, need, number, Reply, and_then, refuse}
use Rattle.queue.specs.Contents.{Side, Contents, contents_of, after}
use Rattle.queue.specs.Sound.{depth_right, memory_right, sound}
use Rattle.queue.specs.Open.{group_fits, opened, open_queue}
use Rattle.queue.specs.Activate.{with_group, activate, side_has_room}
use Rattle.queue.specs.Arguments.{kind_of, names_port, give}
use Rattle.queue.specs.Take.{take_rule}
use Rattle.queue.specs.EmptyGroups.{EmptyGroupsFindRoom, EmptyGroupsTakeNoPlace, EmptyGroupsAccepted, EmptyGroupsOpen, EmptyTablesOpen}
use Rattle.queue.specs.EmptyGroups.{EmptyTablesHaveNoPorts}
use Rattle.queue.proofs.SoundLaws.{sound-parts}

side_room : (s : Side) → leb (length s.entries) s.depth ≡ true → side_has_room s 0 ≡ true
side_room s h = rw (add-zero (length s.entries)) h

pub empty_groups_find_room : EmptyGroupsFindRoom
empty_groups_find_room q s =
    let p = sound-parts q s in
    rw (side_room q.loads (p.sides load).few, side_room q.stores (p.sides store).few)

-- ---- what it leaves
same_serial : (serial : ℕ) → serial < 2 ^ 32 → after serial 0 ≡ serial
same_serial serial h = omega arith

pub none_more : (q : Contents) → q.loads.next < 2 ^ 32 → q.stores.next < 2 ^ 32 → with_group q empty_group ≡ q
none_more q l s = rw (same_serial q.loads.next l, same_serial q.stores.next s, append-nil q.loads.entries, append-nil q.stores.entries)

pub empty_groups_take_no_place : EmptyGroupsTakeNoPlace
unfolding activate
empty_groups_take_no_place q group l s e = go (sound q) refl
  where
    go : (t : Bool) → sound q ≡ t → activate q group ≡ need t unsound (accept q)
    go true k = rw (k, e, empty_groups_find_room q k, none_more q l s)
    go false k = rw k

pub empty_groups_accepted : EmptyGroupsAccepted
unfolding contents_of
empty_groups_accepted q group r l s e k w = rw (empty_groups_take_no_place (contents_of q) group l s e, k) at w

-- ---- opening
fits-alike : (load_depth store_depth : ℕ) (before after : List GroupPairs)
    → all_of (group_fits load_depth store_depth) (before ++ empty_group ∷ after) ≡ all_of (group_fits load_depth store_depth) (before ++ after)
fits-alike load_depth store_depth [] after = rw (le-leb 0 load_depth (omega arith), le-leb 0 store_depth (omega arith))
fits-alike load_depth store_depth (g ∷ before) after =
    ap (λ (b : Bool). group_fits load_depth store_depth g && b) (fits-alike load_depth store_depth before after)

pub empty_groups_open : EmptyGroupsOpen
unfolding open_queue
empty_groups_open before after load_depth store_depth first words some few =
    rw (empty_groups_leave_fault before after some few, fits-alike load_depth store_depth before after)
    (go (check_table (before ++ after)) (depth_right load_depth) (depth_right store_depth) (memory_right words)
    (all_of (group_fits load_depth store_depth) (before ++ after)))
  where
    go : (r : Reply (Unit {0})) (b c d e : Bool) →
        number (and_then r λ right. need b bad_load_depth (need c bad_store_depth (need d bad_memory_length (need e group_too_large
        (accept (opened (before ++ empty_group ∷ after) load_depth store_depth first words))))))
        ≡ number (and_then r λ right. need b bad_load_depth (need c bad_store_depth (need d bad_memory_length (need e group_too_large
        (accept (opened (before ++ after) load_depth store_depth first words))))))
    go (refuse n) b c d e = refl
    go (accept t) false c d e = refl
    go (accept t) true false d e = refl
    go (accept t) true true false e = refl
    go (accept t) true true true false = refl
    go (accept t) true true true true = refl

-- ---- a table of empty groups only
all_fit : (load_depth store_depth n : ℕ) → all_of (group_fits load_depth store_depth) (replicate n empty_group) ≡ true
all_fit load_depth store_depth zero = refl
all_fit load_depth store_depth (suc n) = fits-alike load_depth store_depth [] (replicate n empty_group) ∙ all_fit load_depth store_depth n

pub empty_tables_open : EmptyTablesOpen
unfolding open_queue
empty_tables_open n load_depth store_depth first words some few =
    rw ((empty_tables n some few).right, all_fit load_depth store_depth n)

none_named : (kind : Kind) (port n : ℕ) → any_of (names_port kind port) (replicate n empty_group) ≡ false
none_named kind port zero = refl
none_named load port (suc n) = none_named load port n
none_named store port (suc n) = none_named store port n

pub empty_tables_have_no_ports : EmptyTablesHaveNoPorts
unfolding give take_rule
empty_tables_have_no_ports q n e = record {
  gives = λ argument port x. rw (e, none_named (kind_of argument) port n);
  takes = λ port. rw (e, none_named load port n);
}
