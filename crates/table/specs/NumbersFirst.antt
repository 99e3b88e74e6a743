-- S-4: "42: padded number, checked after 1 and 2 of that number." Whatever a number of a table is refused with, 1, 2 or 42, is told
-- before anything else is asked of it and before anything behind it is read: before 3 of the fields, 4 of the group count, 5 of both
-- counts of a group, and 8, 6, 7 of a pair, whose offset may be wrong. The proof is proofs/NumbersFirst.antt.
use Rattle.std.specs.Prelude.{ℕ, suc, ◌≡◌, Bool, List}
use Rattle.number.specs.Reply.{refuse, accept}
use Rattle.number.specs.Number.{got, read_number}
use Rattle.table.specs.Table.{Seen}
use Rattle.table.specs.TableBytes.{read_pairs, read_group, read_table}

pub record TableInOrder (s : List ℕ) : Type 0 where
  pub fields : {k : ℕ} → read_number s ≡ refuse k → read_table s ≡ refuse k
  pub count : {k : ℕ} {s₁ : List ℕ} → read_number s ≡ accept (got 2 s₁) → read_number s₁ ≡ refuse k → read_table s ≡ refuse k

pub record GroupInOrder (seen : Seen) (s : List ℕ) : Type 0 where
  pub loads : {k : ℕ} → read_number s ≡ refuse k → read_group seen s ≡ refuse k
  pub stores : {n k : ℕ} {s₁ : List ℕ} → read_number s ≡ accept (got n s₁) → read_number s₁ ≡ refuse k → read_group seen s ≡ refuse k

-- the next pair of those that are left to read
pub record PairInOrder (rule : ℕ → ℕ → ℕ → Bool) (left low i : ℕ) (seen : List Bool) (s : List ℕ) : Type 0 where
  pub offset : {k : ℕ} → read_number s ≡ refuse k → read_pairs rule (suc left) low i seen s ≡ refuse k
  pub port :
      {x k : ℕ} {s₁ : List ℕ} → read_number s ≡ accept (got x s₁) → read_number s₁ ≡ refuse k →
      read_pairs rule (suc left) low i seen s ≡ refuse k

abbrev pub TablesInOrder : Type 0
TablesInOrder =
    ((s : List ℕ) → TableInOrder s) × ((seen : Seen) (s : List ℕ) → GroupInOrder seen s)
    × ((rule : ℕ → ℕ → ℕ → Bool) (left low i : ℕ) (seen : List Bool) (s : List ℕ) → PairInOrder rule left low i seen s)
