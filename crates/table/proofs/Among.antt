-- The numbers that checking a table and reading one refuse with: none of them is 0.
use Prim.Native.Nat.{ℕ, zero, suc}
use mathlib.Core.Path.{◌≡◌, refl, ap}
use mathlib.Core.Bool.{Bool, true, false, not, ◌||◌, false≢true}
use mathlib.Core.List.{List, [], ◌∷◌}
use lib.Dec.{eqb, leb}
use lib.ListN.{length, get_or, set}
use borrow.Author.Tests.{eqb-true}
use Rattle.table.specs.declared.Pair.{Pair}
use Rattle.number.specs.Basics.{any_of, all_of, within}
use Rattle.number.specs.Refusal.{ended, too_large, padded_number, bad_fields, bad_group_count, bad_counts, bad_port, port_seen, bad_offset, left_over}
use Rattle.number.specs.Reply.{accept, passed, number}
use Rattle.number.specs.Number.{read_number}
use Rattle.table.specs.Group.{GroupPairs}
use Rattle.table.specs.Table.{load_rule, store_rule, check_pair, check_pairs, counts_right, Seen, none_seen, seen_after, check_group, check_groups, check_table}
use Rattle.table.specs.Table.{ZeroMeansRight}
use Rattle.table.specs.TableBytes.{read_pairs, read_group, read_groups, read_table}
use Rattle.number.proofs.Both.{and_left, and_right}
use Rattle.number.proofs.ReplyLaws.{refuses_among, need-among, and_then_among, then_read_among, not_zero, zero-passed}
use Rattle.number.proofs.RoundTrip.{number-among}

-- ---- where the numbers of a pair pass the test
module _ (p : ℕ → Bool) (offset : p bad_offset ≡ true) (port : p bad_port ≡ true) (again : p port_seen ≡ true) where
  pub check-pair-among : (right : Bool) (seen : List Bool) (n : ℕ) → refuses_among p (check_pair right seen n) ≡ true
  check-pair-among right seen n =
      need-among p right bad_offset _ offset
      (need-among p (leb n 31) bad_port _ port
      (need-among p (not (get_or seen n false)) port_seen passed again refl))

  pub check-pairs-among : (rule : ℕ → ℕ → ℕ → Bool) (low i : ℕ) (seen : List Bool) (ps : List Pair)
      → refuses_among p (check_pairs rule low i seen ps) ≡ true
  unfolding check_pairs
  check-pairs-among rule low i seen [] = refl
  check-pairs-among rule low i seen (x ∷ ps) =
      and_then_among p (check_pair (rule low i x.offset) seen x.port) _ (check-pair-among (rule low i x.offset) seen x.port) λ right.
      check-pairs-among rule x.offset (suc i) (set seen x.port true) ps

  module _ (counts : p bad_counts ≡ true) where
    check-group-among : (seen : Seen) (g : GroupPairs) → refuses_among p (check_group seen g) ≡ true
    unfolding check_group
    check-group-among seen g =
        need-among p (counts_right (length g.loads) (length g.stores)) bad_counts _ counts
        (and_then_among p (check_pairs (load_rule (length g.stores)) 0 0 seen.loads g.loads) _
        (check-pairs-among (load_rule (length g.stores)) 0 0 seen.loads g.loads) λ right.
        check-pairs-among (store_rule g.loads) 0 0 seen.stores g.stores)

    check-groups-among : (seen : Seen) (gs : List GroupPairs) → refuses_among p (check_groups seen gs) ≡ true
    unfolding check_groups
    check-groups-among seen [] = refl
    check-groups-among seen (g ∷ gs) =
        and_then_among p (check_group seen g) _ (check-group-among seen g) λ right. check-groups-among (seen_after g seen) gs

  module _ (numbers : (s : List ℕ) → refuses_among p (read_number s) ≡ true) where
    pub pairs-among : (rule : ℕ → ℕ → ℕ → Bool) (n low i : ℕ) (seen : List Bool) (s : List ℕ)
        → refuses_among p (read_pairs rule n low i seen s) ≡ true
    unfolding read_pairs
    pairs-among rule zero low i seen s = refl
    pairs-among rule (suc n) low i seen s =
        then_read_among p (read_number s) _ (numbers s) λ x s₁.
        then_read_among p (read_number s₁) _ (numbers s₁) λ y s₂.
        and_then_among p (check_pair (rule low i x) seen y) _ (check-pair-among (rule low i x) seen y) λ right.
        then_read_among p (read_pairs rule n x (suc i) (set seen y true) s₂) _ (pairs-among rule n x (suc i) (set seen y true) s₂) λ ps rest. refl

    module _ (counts : p bad_counts ≡ true) where
      group-among : (seen : Seen) (s : List ℕ) → refuses_among p (read_group seen s) ≡ true
      unfolding read_group
      group-among seen s =
          then_read_among p (read_number s) _ (numbers s) λ x s₁.
          then_read_among p (read_number s₁) _ (numbers s₁) λ y s₂.
          need-among p (counts_right x y) bad_counts _ counts
          (then_read_among p (read_pairs (load_rule y) x 0 0 seen.loads s₂) _ (pairs-among (load_rule y) x 0 0 seen.loads s₂) λ ls s₃.
          then_read_among p (read_pairs (store_rule ls) y 0 0 seen.stores s₃) _ (pairs-among (store_rule ls) y 0 0 seen.stores s₃) λ ss s₄. refl)

      groups-among : (n : ℕ) (seen : Seen) (s : List ℕ) → refuses_among p (read_groups n seen s) ≡ true
      unfolding read_groups
      groups-among zero seen s = refl
      groups-among (suc n) seen s =
          then_read_among p (read_group seen s) _ (group-among seen s) λ g s₁.
          then_read_among p (read_groups n (seen_after g seen) s₁) _ (groups-among n (seen_after g seen) s₁) λ gs rest. refl

-- ---- tables: 4, 5, 8, 6, 7 in checking; 3, these and 9, and those of each number, in reading
abbrev pub check_refusals : List ℕ
check_refusals = bad_group_count ∷ bad_counts ∷ bad_offset ∷ bad_port ∷ port_seen ∷ []

abbrev pub read_refusals : List ℕ
read_refusals = ended ∷ too_large ∷ padded_number ∷ bad_fields ∷ left_over ∷ check_refusals

-- one of some numbers that all pass the test
passes : (p : ℕ → Bool) (l : List ℕ) → all_of p l ≡ true → (n : ℕ) → any_of (eqb n) l ≡ true → p n ≡ true
passes p [] h n e = absurd (false≢true e)
passes p (m ∷ l) h n e = go (eqb n m) refl (passes p l (and_right (p m) _ h) n) e
  where
    go : (t : Bool) → eqb n m ≡ t → (any_of (eqb n) l ≡ true → p n ≡ true) → (t || any_of (eqb n) l) ≡ true → p n ≡ true
    go true d later f = rw (eqb-true n m d) (and_left (p m) _ h)
    go false d later f = later f

pub check_table_among : (p : ℕ → Bool) → all_of p check_refusals ≡ true → (gs : List GroupPairs) → refuses_among p (check_table gs) ≡ true
unfolding check_table
check_table_among p h gs =
    let one = passes p check_refusals h in
    need-among p (within 1 16 (length gs)) bad_group_count _ (one bad_group_count refl)
    (check-groups-among p (one bad_offset refl) (one bad_port refl) (one port_seen refl) (one bad_counts refl) none_seen gs)

pub table_among : (p : ℕ → Bool) → all_of p read_refusals ≡ true → (s : List ℕ) → refuses_among p (read_table s) ≡ true
unfolding read_table
table_among p h s =
    let one = passes p read_refusals h in
    let numbers = number-among p (one ended refl) (one too_large refl) (one padded_number refl) in
    then_read_among p (read_number s) _ (numbers s) λ fields s₁.
    need-among p (eqb fields 2) bad_fields _ (one bad_fields refl)
    (then_read_among p (read_number s₁) _ (numbers s₁) λ n s₂.
    need-among p (within 1 16 n) bad_group_count _ (one bad_group_count refl)
    (then_read_among p (read_groups n none_seen s₂) _
    (groups-among p (one bad_offset refl) (one bad_port refl) (one port_seen refl) numbers (one bad_counts refl) n none_seen s₂) λ gs s₃.
    need-among p (eqb (length s₃) 0) left_over (accept gs) (one left_over refl) refl))

-- ---- so an answer of 0 is that of a check that is passed
pub table-zero : (gs : List GroupPairs) → number (check_table gs) ≡ 0 → check_table gs ≡ passed
table-zero gs = zero-passed (check_table gs) (check_table_among not_zero refl gs)

pub zero_means_right : ZeroMeansRight
zero_means_right gs = (table-zero gs, λ e. ap number e)
