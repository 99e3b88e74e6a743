-- The refusal numbers of document 01, "Calls and their refusals" and "The printed run", and 41 to 44 of document 02:
-- all that calls give. Accepted is 0. src/refusal.rt has the same names.
use Rattle.std.specs.Prelude.{ℕ}
use Rattle.number.specs.declared.refusal.Refusal.{Refusal}
use Rattle.number.specs.declared.refusal.Refusal.TheVariants.{Ended, TooLarge, BadFields, BadGroupCount, BadCounts, BadPort, PortSeen, BadOffset, LeftOver, TooShort, BadLoadDepth, BadStoreDepth, BadMemoryLength, GroupTooLarge, NoGroup, NoPlace, NoPort, BadAddress, NoneWaits, NoSerial, AlreadyDone, NoAddress, EarlierStoreUnknown, NoData, WrongMemory, LoadConflict, StoreConflict, NoneUntaken, NotServed, BadKind, FileTooLong, Unsound, PageTooShort, PaddedNumber, Unlisted, Circle}

-- the bytes end inside a number or before it
abbrev pub ended : ℕ
ended = 1

-- a number's fifth byte is above 0F
abbrev pub too_large : ℕ
too_large = 2

-- fields per access are not 2
abbrev pub bad_fields : ℕ
bad_fields = 3

-- the number of groups is not 1 to 16
abbrev pub bad_group_count : ℕ
bad_group_count = 4

-- a group's counts: one is above 16
abbrev pub bad_counts : ℕ
bad_counts = 5

-- a port is above 31
abbrev pub bad_port : ℕ
bad_port = 6

-- a port was seen before in the table
abbrev pub port_seen : ℕ
port_seen = 7

-- an offset is wrong: a load's above the store count or below the load before, a store's disagreeing with the loads
abbrev pub bad_offset : ℕ
bad_offset = 8

-- bytes are left over after a table
abbrev pub left_over : ℕ
left_over = 9

-- a lent buffer is too short
abbrev pub too_short : ℕ
too_short = 10

-- the load depth is not 1 to 64
abbrev pub bad_load_depth : ℕ
bad_load_depth = 11

-- the store depth is not 1 to 64
abbrev pub bad_store_depth : ℕ
bad_store_depth = 12

-- the memory length is not 1 to 4,096
abbrev pub bad_memory_length : ℕ
bad_memory_length = 13

-- some group has more loads or stores than its depth
abbrev pub group_too_large : ℕ
group_too_large = 14

-- there is no such group
abbrev pub no_group : ℕ
no_group = 20

-- there are too few free places on either side
abbrev pub no_place : ℕ
no_place = 21

-- the port is not in the table
abbrev pub no_port : ℕ
no_port = 22

-- the address is not below the memory length
abbrev pub bad_address : ℕ
bad_address = 23

-- no entry waits for the argument
abbrev pub none_waits : ℕ
none_waits = 24

-- the serial is not in the queue
abbrev pub no_serial : ℕ
no_serial = 25

-- the load was served already, or the store written
abbrev pub already_done : ℕ
already_done = 26

-- the load to be served, or the store to be written, has no address
abbrev pub no_address : ℕ
no_address = 27

-- an earlier store has no address, and no nearer one has the load's
abbrev pub earlier_store_unknown : ℕ
earlier_store_unknown = 28

-- the store to forward from, or the store to be written, has no data
abbrev pub no_data : ℕ
no_data = 29

-- the lent memory has another length than at opening
abbrev pub wrong_memory : ℕ
wrong_memory = 30

-- an earlier unserved load has no address or the same one
abbrev pub load_conflict : ℕ
load_conflict = 31

-- an earlier unwritten store has no address or the same one
abbrev pub store_conflict : ℕ
store_conflict = 32

-- no untaken load of the port is queued
abbrev pub none_untaken : ℕ
none_untaken = 33

-- the port's oldest untaken load is not served
abbrev pub not_served : ℕ
not_served = 34

-- an event's kind is above 6
abbrev pub bad_kind : ℕ
bad_kind = 35

-- a file has more than 16,384 bytes
abbrev pub file_too_long : ℕ
file_too_long = 36

-- the record is not one that the rules speak of
abbrev pub unsound : ℕ
unsound = 40

-- a page buffer has fewer than 1,394 bytes
abbrev pub page_too_short : ℕ
page_too_short = 41

-- S-4: a number of more than one byte has 00 as its last byte
abbrev pub padded_number : ℕ
padded_number = 42

-- S-6: more than 32 accesses or 64 pairs, or a pair naming an access not listed
abbrev pub unlisted : ℕ
unlisted = 43

-- S-6: a circle of pairs
abbrev pub circle : ℕ
circle = 44

-- ---- "When an answer is an enum, a definition gives this paper's number .. for each enum case."
abbrev pub refusal_number : Refusal → ℕ
refusal_number Ended = ended
refusal_number TooLarge = too_large
refusal_number BadFields = bad_fields
refusal_number BadGroupCount = bad_group_count
refusal_number BadCounts = bad_counts
refusal_number BadPort = bad_port
refusal_number PortSeen = port_seen
refusal_number BadOffset = bad_offset
refusal_number LeftOver = left_over
refusal_number TooShort = too_short
refusal_number BadLoadDepth = bad_load_depth
refusal_number BadStoreDepth = bad_store_depth
refusal_number BadMemoryLength = bad_memory_length
refusal_number GroupTooLarge = group_too_large
refusal_number NoGroup = no_group
refusal_number NoPlace = no_place
refusal_number NoPort = no_port
refusal_number BadAddress = bad_address
refusal_number NoneWaits = none_waits
refusal_number NoSerial = no_serial
refusal_number AlreadyDone = already_done
refusal_number NoAddress = no_address
refusal_number EarlierStoreUnknown = earlier_store_unknown
refusal_number NoData = no_data
refusal_number WrongMemory = wrong_memory
refusal_number LoadConflict = load_conflict
refusal_number StoreConflict = store_conflict
refusal_number NoneUntaken = none_untaken
refusal_number NotServed = not_served
refusal_number BadKind = bad_kind
refusal_number FileTooLong = file_too_long
refusal_number Unsound = unsound
refusal_number PageTooShort = page_too_short
refusal_number PaddedNumber = padded_number
refusal_number Unlisted = unlisted
refusal_number Circle = circle
