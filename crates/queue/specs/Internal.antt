-- What the crate's own functions promise each other: nothing here is promised to a caller from outside.
use Rattle.std.specs.Prelude.{◌≡◌, ℕ, ◌+◌, ◌-◌, ◌<◌, ◌≤◌, Bool, true, false, Option, Some, None, ◌&&◌, Result, Ok, Err, List, [], ◌∷◌, ◌++◌}
use Rattle.std.specs.Prelude.{map, length, take, drop, nat_le, nat_lt, slice_index, slice_index_or, slice_set}
use Rattle.std.proofs.Math.Option.{none, some}
use Rattle.number.specs.Basics.{pick, is_some}
use Rattle.number.specs.declared.refusal.Refusal.{Refusal}
use Rattle.number.specs.Refusal.{none_waits, too_short, unsound, refusal_number}
use Rattle.number.specs.Reply.{Reply, accept, accepted, need, passed, reply}
use Rattle.table.specs.declared.Pair.{Pair}
use Rattle.table.specs.Group.{GroupPairs, blank_pair}
use Rattle.queue.specs.declared.Entry.{Entry as EntryStruct}
use Rattle.queue.specs.declared.Side.{Side as SideStruct}
use Rattle.queue.specs.declared.Frame.{Frame}
use Rattle.queue.specs.declared.Kind.{Kind}
use Rattle.queue.specs.declared.Kind.TheVariants.{Load as load, Store as store}
use Rattle.queue.specs.declared.entries.Mark.{Mark}
use Rattle.queue.specs.declared.entries.Mark.TheVariants.{Addressed, Filled, Finished}
use Rattle.queue.specs.declared.arguments.Argument.{Argument}
use Rattle.queue.specs.declared.arguments.Argument.TheVariants.{LoadAddress, StoreAddress, StoreData}
use Rattle.queue.specs.declared.serving.Source as coded
use Rattle.queue.specs.declared.serving.Source.TheVariants.{Unknown, NoData, Forwarded, Memory}
use Rattle.queue.specs.Entry.{entry_struct, of_port_without, Entry, new_entry, data_of, written, entry_in}
use Rattle.queue.specs.Contents.{Contents, contents_of, entries_held, with_sides, after, first_place}
use Rattle.queue.specs.Touch.{same}
use Rattle.queue.specs.Sound.{sound}
use Rattle.queue.specs.Activate.{joined}
use Rattle.queue.specs.Arguments.{with_argument}
use Rattle.queue.specs.Serve.{Source, unsettled, from_store, from_memory, decided, Loaded, may_serve}
use Rattle.queue.specs.Write.{WordPut, may_write}
use Rattle.queue.specs.Retire.{after_retiring}
use Rattle.queue.specs.declared.Queue.{Queue}
use Rattle.queue.specs.Parts.{queue_of, whole}

-- a run of entries, with just as many numbers as a side has places
abbrev pub Has64 : List ℕ → Type 0
Has64 l = length l ≡ 64

-- the check is behind them: both runs are whole, and the queue is sound
pub record Checked (frame : Frame) (loads stores : List ℕ) : Type 0 where
  pub right : sound (contents_of (queue_of frame loads stores)) ≡ true
  pub loads_whole : Has64 loads
  pub stores_whole : Has64 stores

-- ---- the record of an entry, made anew
abbrev pub set_address : ℕ → EntryStruct → EntryStruct
set_address a s = entry_struct s.port true a s.filled s.word s.finished s.before

abbrev pub set_word : ℕ → EntryStruct → EntryStruct
set_word w s = entry_struct s.port s.addressed s.address true w s.finished s.before

abbrev pub set_finished : EntryStruct → EntryStruct
set_finished s = entry_struct s.port s.addressed s.address s.filled s.word true s.before

abbrev pub set_before : ℕ → EntryStruct → EntryStruct
set_before n s = entry_struct s.port s.addressed s.address s.filled s.word s.finished n

-- what the check of a queue's parts says: they are the parts of a sound queue, or they are not, which is 40
abbrev pub PartsChecked : Queue → Result (Unit {0}) Refusal → Type 0
PartsChecked q (Ok done) = Checked q.frame q.load_entries q.store_entries
PartsChecked q (Err e) = (refusal_number e ≡ unsound) × ((whole q.load_entries q.store_entries && sound (contents_of q)) ≡ false)

-- ---- the entries of a run of numbers
abbrev pub entries_in : List ℕ → List Entry
entries_in l = map entry_in l

-- the one at a place is made anew by `f`, and nothing else is changed
pub record MadeAnew (f : Entry → Entry) (at : ℕ) (l left : List ℕ) : Type 0 where
  pub number : ℕ
  pub holds : entry_in number ≡ f (entry_in (slice_index l at))
  pub leaves : left ≡ slice_set l at number

-- ---- what an entry may have, or be
abbrev pub has : Mark → Entry → Bool
has Addressed e = is_some e.address
has Filled e = is_some e.word
has Finished e = e.finished

-- an entry of the port, without the mark
abbrev pub lacks_mark : Mark → ℕ → Entry → Bool
lacks_mark mark = of_port_without (has mark)

-- the place of the first element that passes, or none where none does
abbrev pub FirstPlace : {A : Type 0} → (A → Bool) → List A → Option ℕ → Type 0
FirstPlace p l (Some i) = (first_place p l ≡ i) × (i < length l)
FirstPlace p l None = first_place p l ≡ length l

-- ---- activation by offsets
-- Activation by offsets: what the functions that put a group's entries behind those held promise each other. In a right group
-- an entry's offset is the number of the other kind before it in the group, so this is what the program order gives.

-- the entry of a pair, where this many of the other kind are held
abbrev pub entry_after : ℕ → Pair → Entry
entry_after others p = new_entry p (others + p.offset)

-- `held` entries are held, there is place for the pairs, and what their entries hold has room in a number
pub record PairsFit (held : ℕ) (ps : List Pair) : Type 0 where
  pub room : held + length ps ≤ 64
  pub offsets : (i : ℕ) → i < length ps → (slice_index_or ps i blank_pair).offset ≤ 16
  pub ports : (i : ℕ) → i < length ps → (slice_index_or ps i blank_pair).port < 32

-- the record of a pair's entry
abbrev pub struct_after : ℕ → Pair → EntryStruct
struct_after others p = entry_struct p.port false 0 false 0 false (others + p.offset)

-- the pairs' entries stand behind those held
pub record Appended (held : ℕ) (ps : List Pair) (others : ℕ) (l left : List ℕ) : Type 0 where
  pub holds : entries_held (held + length ps) left ≡ entries_held held l ++ map (entry_after others) ps

-- a side with `more` entries behind those held
abbrev pub longer : SideStruct → ℕ → SideStruct
longer side more = record { depth = side.depth; count = side.count + more; next = after side.next more }

-- a queue with a group's entries, by their offsets
abbrev pub with_pairs : Contents → GroupPairs → Contents
with_pairs q g =
    with_sides q (joined q.loads (map (entry_after (length q.stores.entries)) g.loads))
    (joined q.stores (map (entry_after (length q.loads.entries)) g.stores))

-- ---- arguments
-- Giving an argument to the port's oldest entry that lacks it, whichever its side.

abbrev pub mark_of : Argument → Mark
mark_of LoadAddress = Addressed
mark_of StoreAddress = Addressed
mark_of StoreData = Filled

abbrev pub set_argument : Argument → ℕ → EntryStruct → EntryStruct
set_argument LoadAddress a s = set_address a s
set_argument StoreAddress a s = set_address a s
set_argument StoreData w s = set_word w s

-- the place of the entry that it goes to, or how many there are where none waits
abbrev pub waiting_at : Argument → ℕ → List ℕ → ℕ
waiting_at argument port l = first_place (lacks_mark (mark_of argument) port) (entries_in l)

-- what is left where some entry waits, and where none does
abbrev pub GivenAt : Bool → Argument → ℕ → ℕ → List ℕ → List ℕ → Type 0
GivenAt true argument x at l left = MadeAnew (with_argument argument x) at l left
GivenAt false argument x at l left = left ≡ l

pub record Given (argument : Argument) (port x : ℕ) (l : List ℕ) (answer : Result (Unit {0}) Refusal) (left : List ℕ) : Type 0 where
  pub answers : reply answer ≡ need (nat_lt (waiting_at argument port l) (length l)) none_waits passed
  pub leaves : GivenAt (nat_lt (waiting_at argument port l) (length l)) argument x (waiting_at argument port l) l left

-- ---- serving
-- What the code that serves a load is written with, said by the definitions of Serve.

-- the source that each case of the code's enum is
abbrev pub source_in : coded.Source → Source
source_in Unknown = unsettled
source_in NoData = from_store none
source_in (Forwarded w) = from_store (some w)
source_in Memory = from_memory

-- it is what a store to the load's address gives, whatever lies farther back
abbrev pub Decides : Entry → coded.Source → Type 0
Decides s found = (farther : Source) → source_in found ≡ decided same (written s) (data_of s) farther

-- what the load at a place gets
abbrev pub may_serve_at : List ℕ → List ℕ → List ℕ → ℕ → Reply Loaded
may_serve_at memory loads stores at = may_serve memory (entries_held (entry_in (slice_index loads at)).before stores) (entry_in (slice_index loads at))

-- ---- writing
-- What the code that writes a store is written with.

-- what writing the store at a place puts where
abbrev pub may_write_at : List ℕ → List ℕ → ℕ → Reply WordPut
may_write_at loads stores at =
    may_write (entries_held (entry_in (slice_index stores at)).before loads) (entries_held at stores) (entry_in (slice_index stores at))

-- ---- retiring
-- What the code by which finished entries retire is written with.

-- the `left` entries behind the first `gone` stand at the front, after `others` of the other kind have retired
pub record Shifted (gone left others : ℕ) (l after : List ℕ) : Type 0 where
  pub holds : entries_held left after ≡ map (after_retiring others) (drop gone (entries_held (gone + left) l))

-- a side after `gone` of its entries have retired
abbrev pub shorter : SideStruct → ℕ → SideStruct
shorter side gone = record { depth = side.depth; count = side.count - gone; next = side.next }

-- ---- ready
-- What the code that gathers ready serials is written with.

-- would the load be served, with these stores before it; memory's words do not matter to this
abbrev pub load_ready : List Entry → Entry → Bool
load_ready stores l = accepted (may_serve [] stores l)

-- the load, or the store, at a place: would it be served, or written
abbrev pub ready_at : Kind → List ℕ → List ℕ → ℕ → Bool
ready_at load loads stores i = accepted (may_serve_at [] loads stores i)
ready_at store loads stores i = accepted (may_write_at loads stores i)

-- the place is within its own array, and as many of the other kind as the entry remembers are within theirs
abbrev pub Reaches : List ℕ → List ℕ → ℕ → Type 0
Reaches own others i = (i < length own) × ((entry_in (slice_index own i)).before ≤ length others)

abbrev pub InReach : Kind → List ℕ → List ℕ → ℕ → Type 0
InReach load loads stores i = Reaches loads stores i
InReach store loads stores i = Reaches stores loads i

-- serials in an array: how many of its places hold one; the others mean nothing
pub record Serials : Type 0 where
  pub count : ℕ
  pub numbers : List ℕ

abbrev pub serials_listed : Serials → List ℕ
serials_listed s = take s.count s.numbers

-- one more serial
pub record Noted (s : Serials) (serial : ℕ) (r : Serials) : Type 0 where
  pub few : r.count ≡ s.count + 1
  pub long : length r.numbers ≡ length s.numbers
  pub are : serials_listed r ≡ serials_listed s ++ serial ∷ []

pub record Lists (l : List ℕ) (r : Serials) : Type 0 where
  pub few : r.count ≤ 64
  pub size : r.count ≡ length l
  pub are : serials_listed r ≡ l

-- the serials stand at the front of a run that has room for them
pub record HandedOut (l lent : List ℕ) (r : Result ℕ Refusal) (run : List ℕ) : Type 0 where
  pub gives : reply r ≡ need (nat_le (length l) (length lent)) too_short (accept (length l))
  pub leaves : run ≡ pick (nat_le (length l) (length lent)) (l ++ drop (length l) lent) lent
