-- The one-after-another run, or plain run. Document 01, "One access after another". It is fed the table, the opening memory,
-- the list's calls, and which of them were answered 0; nothing of the queue's record. Of the table it uses the program order.
use Rattle.std.specs.Prelude.{ℕ, suc, Bool, true, false, ◌&&◌, eqb, get_or, set}
use mathlib.Core.List.{List, [], ◌∷◌, ◌++◌, tail}
use Rattle.std.proofs.Math.Option.{Option, none, some}
use Rattle.std.proofs.Math.ListN.{get_elem?}
use Rattle.number.specs.Basics.{pick}
use Rattle.table.specs.Group.{GroupPairs, Access, load, store, order}
use Rattle.queue.specs.declared.arguments.Argument.{Argument}
use Rattle.queue.specs.declared.arguments.Argument.TheVariants.{LoadAddress, StoreAddress, StoreData}
use Rattle.sequential.specs.Calls.{Call, Activate, Give, Serve, Write, Take, Ready}

-- a call, and whether it was answered 0
pub record Told : Type 0 where
  pub call : Call
  pub accepted : Bool

-- What `part` picks out of each accepted call, in list order.
abbrev pub cons_option : {A : Type 0} → Option A → List A → List A
cons_option none rest = rest
cons_option (some a) rest = a ∷ rest

abbrev pub gather : {A : Type 0} → (Call → Option A) → List Told → List A
gather part [] = []
gather part (t ∷ ts) = pick t.accepted (cons_option (part t.call) (gather part ts)) (gather part ts)

-- the group of an activation
abbrev pub activation_of : Call → Option ℕ
activation_of (Activate g) = some g
activation_of (Give kind p x) = none
activation_of (Serve c s) = none
activation_of (Write s) = none
activation_of (Take p) = none
activation_of (Ready kind run) = none

-- is it this kind of argument
abbrev pub same_kind : Argument → Argument → Bool
same_kind LoadAddress LoadAddress = true
same_kind LoadAddress StoreAddress = false
same_kind LoadAddress StoreData = false
same_kind StoreAddress LoadAddress = false
same_kind StoreAddress StoreAddress = true
same_kind StoreAddress StoreData = false
same_kind StoreData LoadAddress = false
same_kind StoreData StoreAddress = false
same_kind StoreData StoreData = true

-- the argument of this kind for this port
abbrev pub argument_of : Argument → ℕ → Call → Option ℕ
argument_of kind port (Activate g) = none
argument_of kind port (Give k p x) = pick (same_kind k kind && eqb p port) (some x) none
argument_of kind port (Serve c s) = none
argument_of kind port (Write s) = none
argument_of kind port (Take p) = none
argument_of kind port (Ready k run) = none

-- "First it gathers rows in list order: accepted addresses for each load port, accepted addresses and accepted data for each
-- store port." A row for each kind of argument and each port.
abbrev pub Rows : Type 0
Rows = Argument → ℕ → List ℕ

abbrev pub rows_of : List Told → Rows
rows_of ts kind port = gather (argument_of kind port) ts

-- "It goes through the accepted activations in list order, and through each group's accesses in program order."
abbrev pub accesses_of : Option GroupPairs → List Access
accesses_of none = []
accesses_of (some g) = order g

abbrev pub in_order : List GroupPairs → List ℕ → List Access
in_order groups [] = []
in_order groups (g ∷ gs) = accesses_of (get_elem? groups g) ++ in_order groups gs

abbrev pub accesses : List GroupPairs → List Told → List Access
accesses groups ts = in_order groups (gather activation_of ts)

-- "Where a row has run out, any address below the memory length, or any word, is filled in, each chosen freely": what is
-- chosen for the run's kth access.
pub record Filling : Type 0 where
  pub address : ℕ → ℕ
  pub word : ℕ → ℕ

-- the next of a row, or what is filled in
abbrev pub next_of : List ℕ → ℕ → ℕ
next_of [] filled = filled
next_of (x ∷ xs) filled = x

-- the rows with the next of this kind and port used up
abbrev pub used_up : Argument → ℕ → Rows → Rows
used_up kind port rows k p = pick (same_kind k kind && eqb p port) (tail (rows k p)) (rows k p)

-- What a word of the run's memory is to a reading of the run: `beyond` is read past the memory's end, and a store leaves `put k w`, k
-- being its number among the run's accesses and w its data.
pub record Reading (A : Type 0) : Type 0 where
  pub beyond : A
  pub put : ℕ → ℕ → A

-- The plain run reads words; the crate `origins` reads where they come from.
abbrev pub word_reading : Reading ℕ
word_reading = record { beyond = 0; put = λ k w. w }

-- "Its state is then a memory and what is left of the rows."
pub record PlainState (A : Type 0) : Type 0 where
  pub memory : List A
  pub rows : Rows

-- a value that a port loads
pub record PortValue (A : Type 0) : Type 0 where
  pub port : ℕ
  pub value : A

-- "A load uses up the next address of its port's row ..
abbrev pub after_load : {A : Type 0} → PlainState A → ℕ → PlainState A
after_load s port = record { memory = s.memory; rows = used_up LoadAddress port s.rows }

module _ {A : Type 0} (reading : Reading A) (fill : Filling) where
  -- .. the memory word there is the next value its port loads."
  abbrev pub loaded_at : ℕ → PlainState A → ℕ → A
  loaded_at k s port = get_or s.memory (next_of (s.rows LoadAddress port) (fill.address k)) reading.beyond

  -- "A store uses up the next address and the next data of its port's rows and puts the data there."
  abbrev pub after_store : ℕ → PlainState A → ℕ → PlainState A
  after_store k s port = record {
    memory = set s.memory (next_of (s.rows StoreAddress port) (fill.address k)) (reading.put k (next_of (s.rows StoreData port) (fill.word k)));
    rows = used_up StoreData port (used_up StoreAddress port s.rows);
  }

  -- The values loaded, and the memory at the end, of the accesses from the kth on.
  abbrev pub values_from : ℕ → PlainState A → List Access → List (PortValue A)
  values_from k s [] = []
  values_from k s (load p ∷ rest) = record { port = p.port; value = loaded_at k s p.port } ∷ values_from (suc k) (after_load s p.port) rest
  values_from k s (store p ∷ rest) = values_from (suc k) (after_store k s p.port) rest

  abbrev pub memory_from : ℕ → PlainState A → List Access → List A
  memory_from k s [] = s.memory
  memory_from k s (load p ∷ rest) = memory_from (suc k) (after_load s p.port) rest
  memory_from k s (store p ∷ rest) = memory_from (suc k) (after_store k s p.port) rest

-- the run's beginning: the opening memory and all the rows
abbrev pub plain_start : {A : Type 0} → List A → List Told → PlainState A
plain_start memory ts = record { memory = memory; rows = rows_of ts }

-- of the values loaded, those of a port, in order
abbrev pub values_at : {A : Type 0} → ℕ → List (PortValue A) → List A
values_at port [] = []
values_at port (l ∷ ls) = pick (eqb l.port port) (l.value ∷ values_at port ls) (values_at port ls)

-- The plain run: the values that a port loads, in order, and the memory that it leaves.
unfoldable pub plain_loads : List GroupPairs → List ℕ → List Told → Filling → ℕ → List ℕ
plain_loads groups memory ts fill port = values_at port (values_from word_reading fill 0 (plain_start memory ts) (accesses groups ts))

unfoldable pub plain_memory : List GroupPairs → List ℕ → List Told → Filling → List ℕ
plain_memory groups memory ts fill = memory_from word_reading fill 0 (plain_start memory ts) (accesses groups ts)
