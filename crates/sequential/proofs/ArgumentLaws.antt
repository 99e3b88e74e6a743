-- The three kinds of argument: what an entry has of one, and what giving it changes.
use Prim.Native.Nat.{ℕ}
use mathlib.Core.Path.{◌≡◌, refl}
use mathlib.Core.Logic.{◌⊎◌, inl, inr}
use mathlib.Core.Bool.{true, false}
use mathlib.Core.List.{List}
use mathlib.Core.Option.{none, some}
use lib.Dec.{eqb}
use Rattle.queue.specs.declared.arguments.Argument.{Argument}
use Rattle.queue.specs.declared.arguments.Argument.TheVariants.{LoadAddress, StoreAddress, StoreData}
use Rattle.queue.specs.Entry.{Entry, with_before}
use Rattle.queue.specs.Arguments.{kind_of, argument_in, with_argument}
use Rattle.sequential.specs.Plain.{same_kind}
use Rattle.sequential.proofs.Log.{LogEntry, of_load, of_store, access_of, put, own}
use Rattle.sequential.proofs.Rows.{given, value_taken, place_for}
use Rattle.sequential.proofs.Cells.{Seen}
use Rattle.sequential.proofs.CellMoves.{Moves, load-address, store-address, store_word}
use Rattle.sequential.proofs.Views.{view}
use Rattle.sequential.proofs.Invariant.{is_served, is_written}

-- an entry's place in the row of an argument holds what the entry has of it; once the argument is given, the argument
pub place_is : (argument : Argument) (p : ℕ) (e : Entry) → given argument p (put (kind_of argument) e) ≡ place_for (eqb e.port p) (argument_in argument e)
place_is LoadAddress p e = refl
place_is StoreAddress p e = refl
place_is StoreData p e = refl

pub place_filled : (argument : Argument) (p x : ℕ) (e : Entry)
    → given argument p (put (kind_of argument) (with_argument argument x e)) ≡ place_for (eqb e.port p) (some x)
place_filled LoadAddress p x e = refl
place_filled StoreAddress p x e = refl
place_filled StoreData p x e = refl

-- an entry of the other kind has none there
pub place_other : (argument : Argument) (p : ℕ) (d : LogEntry) → own (kind_of argument) d ≡ none → given argument p d ≡ none
place_other LoadAddress p (of_load e) h = cc
place_other LoadAddress p (of_store e) h = refl
place_other StoreAddress p (of_load e) h = refl
place_other StoreAddress p (of_store e) h = cc
place_other StoreData p (of_load e) h = refl
place_other StoreData p (of_store e) h = cc

pub same_kind_lem : (argument : Argument) → same_kind argument argument ≡ true
same_kind_lem LoadAddress = refl
same_kind_lem StoreAddress = refl
same_kind_lem StoreData = refl

-- giving an argument of one kind changes no row of another kind
pub rows-kept : (argument k : Argument)
    → (k ≡ argument)
    ⊎ ((same_kind argument k ≡ false)
    × ((p x : ℕ) (e : Entry) → given k p (put (kind_of argument) e) ≡ given k p (put (kind_of argument) (with_argument argument x e))))
rows-kept LoadAddress LoadAddress = inl refl
rows-kept LoadAddress StoreAddress = inr (refl, λ p x e. refl)
rows-kept LoadAddress StoreData = inr (refl, λ p x e. refl)
rows-kept StoreAddress LoadAddress = inr (refl, λ p x e. refl)
rows-kept StoreAddress StoreAddress = inl refl
rows-kept StoreAddress StoreData = inr (refl, λ p x e. refl)
rows-kept StoreData LoadAddress = inr (refl, λ p x e. refl)
rows-kept StoreData StoreAddress = inr (refl, λ p x e. refl)
rows-kept StoreData StoreData = inl refl

-- what giving an argument leaves as it was: the value that was taken, the access, and whether it is served or written
pub record OthersKept (argument : Argument) (x : ℕ) (e : Entry) : Type 0 where
  pub value : (p : ℕ) → value_taken p (put (kind_of argument) e) ≡ value_taken p (put (kind_of argument) (with_argument argument x e))
  pub access : access_of (put (kind_of argument) (with_argument argument x e)) ≡ access_of (put (kind_of argument) e)
  pub served : is_served (put (kind_of argument) (with_argument argument x e)) ≡ is_served (put (kind_of argument) e)
  pub written : is_written (put (kind_of argument) (with_argument argument x e)) ≡ is_written (put (kind_of argument) e)

pub others-kept : (argument : Argument) (x : ℕ) (e : Entry) → OthersKept argument x e
others-kept LoadAddress x e = record { value = λ p. refl; access = refl; served = refl; written = refl }
others-kept StoreAddress x e = record { value = λ p. refl; access = refl; served = refl; written = refl }
others-kept StoreData x e = record { value = λ p. refl; access = refl; served = refl; written = refl }

-- what is known of the entry only grows, as every cell sees
pub given_moves : (argument : Argument) (x : ℕ) (e : Entry) → argument_in argument e ≡ none → (m b j : ℕ) (pre : List (Seen ℕ))
    → Moves m pre (view b j (put (kind_of argument) e)) (view b j (put (kind_of argument) (with_argument argument x e))) m
given_moves LoadAddress x e h m b j pre = rw h load-address
given_moves StoreAddress x e h m b j pre = rw h store-address
given_moves StoreData x e h m b j pre = rw h store_word

-- how many of the other kind an entry remembers does not bear on its arguments
pub remembered_kept : (argument : Argument) (n : ℕ) (e : Entry) → argument_in argument (with_before n e) ≡ argument_in argument e
remembered_kept LoadAddress n e = refl
remembered_kept StoreAddress n e = refl
remembered_kept StoreData n e = refl

pub before-kept : (argument : Argument) (x n : ℕ) (e : Entry) → with_argument argument x (with_before n e) ≡ with_before n (with_argument argument x e)
before-kept LoadAddress x n e = refl
before-kept StoreAddress x n e = refl
before-kept StoreData x n e = refl
