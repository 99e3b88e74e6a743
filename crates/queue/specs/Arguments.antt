-- "An argument goes to its port's oldest entry that lacks it." "Load address, store address: 22 port not in the table;
-- 23 address not below memory length; 24 no entry waits for it. Store data: 22, 24."
use Rattle.std.specs.Prelude.{ℕ, Bool, true, List, ◌==◌, nat_lt}
use Rattle.std.proofs.Math.Option.{Option}
use Rattle.number.specs.Basics.{any_of, is_some}
use Rattle.number.specs.Refusal.{unsound, no_port, bad_address, none_waits}
use Rattle.number.specs.Reply.{Reply, accept, need}
use Rattle.table.specs.declared.Pair.{Pair}
use Rattle.table.specs.Group.{GroupPairs}
use Rattle.queue.specs.declared.Kind.{Kind}
use Rattle.queue.specs.declared.Kind.TheVariants.{Load as load, Store as store}
use Rattle.queue.specs.declared.arguments.Argument.{Argument}
use Rattle.queue.specs.declared.arguments.Argument.TheVariants.{LoadAddress, StoreAddress, StoreData}
use Rattle.queue.specs.Entry.{Entry, data_of, of_port_without, with_address, with_word}
use Rattle.queue.specs.Contents.{Contents, of_kind, side_of, with_entries, update_at, first_place}
use Rattle.queue.specs.Sound.{sound}

-- the kind of access that an argument is for
abbrev pub kind_of : Argument → Kind
kind_of LoadAddress = load
kind_of StoreAddress = store
kind_of StoreData = store

-- does a group name this port among its ports of the kind
abbrev pub is_port : ℕ → Pair → Bool
is_port port p = p.port == port

abbrev pub names_port : Kind → ℕ → GroupPairs → Bool
names_port kind port g = any_of (is_port port) (of_kind kind g.loads g.stores)

-- an address is below the memory length; data may be any word
abbrev pub in_range : Argument → ℕ → ℕ → Bool
in_range LoadAddress words a = nat_lt a words
in_range StoreAddress words a = nat_lt a words
in_range StoreData words w = true

-- what an entry has of the argument, and the entry with it
abbrev pub argument_in : Argument → Entry → Option ℕ
argument_in LoadAddress e = e.address
argument_in StoreAddress e = e.address
argument_in StoreData e = data_of e

abbrev pub with_argument : Argument → ℕ → Entry → Entry
with_argument LoadAddress a e = with_address a e
with_argument StoreAddress a e = with_address a e
with_argument StoreData w e = with_word w e

-- an entry of the port that waits for the argument
abbrev pub lacks : Argument → ℕ → Entry → Bool
lacks argument = of_port_without (λ e. is_some (argument_in argument e))

-- the entries that an argument may go to
abbrev pub asked_of : Argument → Contents → List Entry
asked_of argument q = (side_of (kind_of argument) q).entries

-- the first element that passes is made anew
abbrev pub update_first : {A : Type 0} → (A → Bool) → (A → A) → List A → List A
update_first p f l = update_at f (first_place p l) l

-- the queue once the oldest entry that waits has the argument
abbrev pub argument_given : Argument → ℕ → ℕ → Contents → Contents
argument_given argument port x q = with_entries (kind_of argument) q (update_first (lacks argument port) (with_argument argument x) (asked_of argument q))

unfoldable pub give : Argument → Contents → ℕ → ℕ → Reply Contents
give argument q port x =
    need (sound q) unsound
    (need (any_of (names_port (kind_of argument) port) q.groups) no_port
    (need (in_range argument q.memory_length x) bad_address
    (need (any_of (lacks argument port) (asked_of argument q)) none_waits
    (accept (argument_given argument port x q)))))

-- the three calls
abbrev pub load_address : Contents → ℕ → ℕ → Reply Contents
load_address q port a = give LoadAddress q port a

abbrev pub store_address : Contents → ℕ → ℕ → Reply Contents
store_address q port a = give StoreAddress q port a

abbrev pub store_data : Contents → ℕ → ℕ → Reply Contents
store_data q port w = give StoreData q port w
