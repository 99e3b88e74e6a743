-- Empty groups; the statements are specs/EmptyGroups.antt.
use Prim.Native.Nat.{ℕ, zero, suc, ◌+◌, ◌≤◌, ◌<◌}
use native.Mathlib.Nat.{add-suc, suc-add}
use native.Mathlib.Omega.{arith}
use mathlib.Core.Path.{◌≡◌, refl, ap, ◌∙◌}
use mathlib.Core.Logic.{◌⊎◌, inl, inr}
use mathlib.Core.Bool.{Bool, true, false, not, ◌&&◌, false≢true}
use mathlib.Core.List.{List, [], ◌∷◌, ◌++◌}
use lib.Dec.{eqb, leb}
use lib.ListN.{length, replicate, length-replicate}
use borrow.Author.Tests.{leb-false, le-leb, lt-leb, lt-ltb}
use Rattle.number.specs.Basics.{flat_map}
use Rattle.number.specs.Refusal.{bad_counts}
use Rattle.number.specs.Reply.{Reply, refuse, passed, both}
use Rattle.number.specs.Number.{bytes_up_to, bytes_of}
use Rattle.table.specs.Group.{GroupPairs, empty_group}
use Rattle.table.specs.Table.{load_rule, store_rule, check_pairs, seeing, counts_right, none_seen, seen_after, check_group, check_groups, check_table}
use Rattle.table.specs.TableBytes.{read_pairs, read_group, group_numbers, table_bytes}
use Rattle.table.specs.EmptyGroups.{EmptyGroupsRight, EmptyGroupsLeaveFault, BadCountsMeanAbove16, ReadingBadCounts, EmptyTables}
use Rattle.number.proofs.ReplyLaws.{refuses_among, refused-among, and_then_among, then_read_among}
use Rattle.number.proofs.RoundTrip.{number-among}
use Rattle.table.proofs.Among.{check-pairs-among, pairs-among}
use Rattle.table.proofs.RoundTrip.{tables_read_back}

pub empty_groups_right : EmptyGroupsRight
unfolding check_groups check_group check_pairs seeing
empty_groups_right seen [] after = refl
empty_groups_right seen (g ∷ before) after = ap (both (check_group seen g)) (empty_groups_right (seen_after g seen) before after)

one_longer : (before after : List GroupPairs) → length (before ++ empty_group ∷ after) ≡ suc (length (before ++ after))
one_longer [] after = refl
one_longer (g ∷ before) after = ap suc (one_longer before after)

pub empty_groups_leave_fault : EmptyGroupsLeaveFault
unfolding check_table
empty_groups_leave_fault before after some few =
    let n = length (before ++ after) in
    rw (
      one_longer before after,
      le-leb 1 (suc n) (omega arith),
      le-leb (suc n) 16 (omega arith),
      le-leb 1 n some,
      le-leb n 16 (omega arith),
    ) (empty_groups_right none_seen before after)

-- ---- 5 is left for a count above 16
above : (a b : ℕ) → counts_right a b ≡ false → (16 < a) ⊎ (16 < b)
above a b e = go (leb a 16) refl e
  where
    go : (t : Bool) → leb a 16 ≡ t → t && leb b 16 ≡ false → (16 < a) ⊎ (16 < b)
    go true h k = inr (leb-false b 16 k)
    go false h k = inl (leb-false a 16 h)

above_wrong : (a b : ℕ) → (16 < a) ⊎ (16 < b) → counts_right a b ≡ false
above_wrong a b (inl h) = rw (lt-leb a 16 h)
above_wrong a b (inr h) = go (leb a 16)
  where
    go : (t : Bool) → t && leb b 16 ≡ false
    go true = lt-leb b 16 h
    go false = refl

-- the checks and the readings of pairs do not refuse with 5
abbrev other : ℕ → Bool
other n = not (eqb n bad_counts)

never : {A : Type 0} {B : Type 0} (r : Reply A) → refuses_among other r ≡ true → r ≡ refuse bad_counts → B
never r h e = absurd (false≢true (refused-among other r h e))

pub bad_counts_mean_above_16 : BadCountsMeanAbove16
unfolding check_group
bad_counts_mean_above_16 seen g = (go (counts_right loads stores) refl, λ h. rw (above_wrong loads stores h))
  where
    loads : ℕ
    loads = length g.loads

    stores : ℕ
    stores = length g.stores

    go : (t : Bool) → counts_right loads stores ≡ t → check_group seen g ≡ refuse bad_counts → (16 < loads) ⊎ (16 < stores)
    go false k e = above loads stores k
    go true k e = never _ (and_then_among other (check_pairs (load_rule stores) 0 0 seen.loads g.loads) _
        (check-pairs-among other refl refl refl (load_rule stores) 0 0 seen.loads g.loads) λ right.
        check-pairs-among other refl refl refl (store_rule g.loads) 0 0 seen.stores g.stores) (rw k at e)

pub reading_bad_counts : ReadingBadCounts
unfolding read_group
reading_bad_counts seen s s₁ s₂ loads stores e f = (go (counts_right loads stores) refl, λ h. rw (e, f, above_wrong loads stores h))
  where
    pairs-other : (rule : ℕ → ℕ → ℕ → Bool) (n : ℕ) (marks : List Bool) (l : List ℕ)
        → refuses_among other (read_pairs rule n 0 0 marks l) ≡ true
    pairs-other rule n marks l = pairs-among other refl refl refl (number-among other refl refl refl) rule n 0 0 marks l

    go : (t : Bool) → counts_right loads stores ≡ t → read_group seen s ≡ refuse bad_counts → (16 < loads) ⊎ (16 < stores)
    go false k d = above loads stores k
    go true k d = never _ (then_read_among other (read_pairs (load_rule stores) loads 0 0 seen.loads s₂) _
        (pairs-other (load_rule stores) loads seen.loads s₂) λ ls s₃.
        then_read_among other (read_pairs (store_rule ls) stores 0 0 seen.stores s₃) _
        (pairs-other (store_rule ls) stores seen.stores s₃) λ ss s₄. refl) (rw (e, f, k) at d)

-- ---- a table of empty groups only
empty_passed : (n : ℕ) → check_groups none_seen (replicate n empty_group) ≡ passed
unfolding check_groups
empty_passed zero = refl
empty_passed (suc n) = empty_groups_right none_seen [] (replicate n empty_group) ∙ empty_passed n

empty_right : (n : ℕ) → 1 ≤ n → n ≤ 16 → check_table (replicate n empty_group) ≡ passed
unfolding check_table
empty_right n some few = rw (length-replicate n empty_group, le-leb 1 n some, le-leb n 16 few) (empty_passed n)

empty_numbers : (n : ℕ) → bytes_of (flat_map group_numbers (replicate n empty_group)) ≡ replicate (n + n) 0
unfolding bytes_up_to
empty_numbers zero = refl
empty_numbers (suc n) = rw (suc-add, add-suc) (ap (λ (l : List ℕ). 0 ∷ 0 ∷ l) (empty_numbers n))

empty_bytes : (n : ℕ) → n ≤ 16 → table_bytes (replicate n empty_group) ≡ 2 ∷ n ∷ replicate (n + n) 0
unfolding bytes_up_to
empty_bytes n few = rw (length-replicate n empty_group, lt-ltb n 128 (omega arith)) (ap (λ (l : List ℕ). 2 ∷ n ∷ l) (empty_numbers n))

pub empty_tables : EmptyTables
empty_tables n some few = record {
  right = empty_right n some few;
  bytes = empty_bytes n few;
  reads = rw (← empty_bytes n few) (tables_read_back (replicate n empty_group) (empty_right n some few));
}
