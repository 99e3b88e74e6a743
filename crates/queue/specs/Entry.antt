-- An entry, and the number that a queue's record holds it in.
use Rattle.std.specs.Prelude.{◌≡◌, ℕ, ◌+◌, ◌*◌, ◌/◌, ◌%◌, ◌^◌, ◌<◌, Bool, true, false, not, ◌&&◌, ◌==◌}
use Rattle.std.proofs.Math.Option.{Option, none, some}
use Rattle.number.specs.Basics.{pick, is_some}
use Rattle.table.specs.declared.Pair.{Pair}
use Rattle.queue.specs.declared.Entry.{Entry as EntryStruct}

-- "A load entry holds port, address or none, served or not, value, taken or not; a store entry holds port, address or none, data
-- or none, written or not." "Each entry remembers how many queued entries of the other kind come before it." The word of a load is
-- the value that it was served, that of a store is its data; a finished load is taken, a finished store is written.
pub record Entry : Type 0 where
  pub port : ℕ
  pub address : Option ℕ
  pub word : Option ℕ
  pub finished : Bool
  pub before : ℕ

-- Every entry is built by this.
abbrev pub entry : ℕ → Option ℕ → Option ℕ → Bool → ℕ → Entry
entry port address word finished before = record { port = port; address = address; word = word; finished = finished; before = before }

-- The paper's words where the kinds differ. Of a load: its value, is it served, is it taken; of a store: its data, is it written.
abbrev pub value_of : Entry → Option ℕ
value_of l = l.word

abbrev pub served : Entry → Bool
served l = is_some l.word

abbrev pub taken : Entry → Bool
taken l = l.finished

abbrev pub data_of : Entry → Option ℕ
data_of s = s.word

abbrev pub written : Entry → Bool
written s = s.finished

-- an entry of the port that does not pass the test
abbrev pub of_port_without : (Entry → Bool) → ℕ → Entry → Bool
of_port_without test port e = e.port == port && not (test e)

-- the entry of a pair, which has nothing yet, with `before` of the other kind before it
abbrev pub new_entry : Pair → ℕ → Entry
new_entry p before = entry p.port none none false before

-- an entry made anew: its port, which its pair gave it, stays
abbrev pub anew : Entry → Option ℕ → Option ℕ → Bool → ℕ → Entry
anew e address word finished before = entry e.port address word finished before

-- with an address; with a word; finished; remembering n of the other kind
abbrev pub with_address : ℕ → Entry → Entry
with_address a e = anew e (some a) e.word e.finished e.before

abbrev pub with_word : ℕ → Entry → Entry
with_word w e = anew e e.address (some w) e.finished e.before

abbrev pub mark_finished : Entry → Entry
mark_finished e = anew e e.address e.word true e.before

abbrev pub with_before : ℕ → Entry → Entry
with_before n e = anew e e.address e.word e.finished n

-- ---- the record of an entry, and the number that holds it
-- what the record of an entry holds: its address and its word mean something only where they are marked
abbrev pub entry_of : EntryStruct → Entry
entry_of s = entry s.port (pick s.addressed (some s.address) none) (pick s.filled (some s.word) none) s.finished s.before

-- What a number holds, from its lowest bits: the port in five, a mark each for "has its address", "has its word" and "is
-- finished", how many of the other kind come before it in eight, the address in sixteen, the word in thirty-two.
unfoldable pub unpacked : ℕ → EntryStruct
unpacked n = record {
  port = n % 32;
  before = n / 256 % 256;
  addressed = (n / 32 % 2 == 1);
  filled = (n / 64 % 2 == 1);
  finished = (n / 128 % 2 == 1);
  address = n / 65536 % 65536;
  word = n / 4294967296 % 4294967296;
}

-- Every record of an entry but that one is built by this.
abbrev pub entry_struct : ℕ → Bool → ℕ → Bool → ℕ → Bool → ℕ → EntryStruct
entry_struct port addressed address filled word finished before = record {
  port = port;
  before = before;
  addressed = addressed;
  filled = filled;
  finished = finished;
  address = address;
  word = word;
}

-- what a number of a queue's record holds
abbrev pub entry_in : ℕ → Entry
entry_in n = entry_of (unpacked n)

abbrev pub bit : Bool → ℕ
bit true = 1
bit false = 0

-- the number that holds the record of an entry
unfoldable pub number_of : EntryStruct → ℕ
number_of s =
    s.port % 32 + (32 * bit s.addressed + 64 * bit s.filled + 128 * bit s.finished) + 256 * s.before
    + 65536 * s.address
    + 4294967296 * s.word

-- a record that a number has room for
pub record Small (s : EntryStruct) : Type 0 where
  pub port : s.port < 32
  pub before : s.before < 256
  pub address : s.address < 65536
  pub word : s.word < 4294967296

-- Packing loses nothing: such a record is the one that its number holds, and a number of 64 bits is the one of its record
-- (proofs/EntryLaws.antt).
abbrev pub EntriesReadBack : Type 0
EntriesReadBack = (s : EntryStruct) → Small s → unpacked (number_of s) ≡ s

abbrev pub PackedReadBack : Type 0
PackedReadBack = (n : ℕ) → n < 2 ^ 64 → number_of (unpacked n) ≡ n
