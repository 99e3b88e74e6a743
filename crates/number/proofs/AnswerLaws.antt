-- What the answers of the code are, by what they reply.
use Rattle.std.proofs.Common.{◌≡◌, ℕ, ◌<◌, arith, rules, sym, ap}
use Rattle.number.specs.declared.refusal.Refusal.{Refusal}
use Rattle.number.specs.declared.refusal.Refusal.TheVariants.{Ended, TooLarge, BadFields, BadGroupCount, BadCounts, BadPort, PortSeen, BadOffset, LeftOver, TooShort, BadLoadDepth, BadStoreDepth, BadMemoryLength, GroupTooLarge, NoGroup, NoPlace, NoPort, BadAddress, NoneWaits, NoSerial, AlreadyDone, NoAddress, EarlierStoreUnknown, NoData, WrongMemory, LoadConflict, StoreConflict, NoneUntaken, NotServed, BadKind, FileTooLong, Unsound, PageTooShort, PaddedNumber, Unlisted, Circle}
use Rattle.number.specs.Refusal.{refusal_number}
use Rattle.number.specs.Reply.{Reply, refuse, accept, number, passed, check_of}

-- no refusal's number is 0
pub refusals_positive : (e : Refusal) → 0 < refusal_number e
refusals_positive Ended = omega arith
refusals_positive TooLarge = omega arith
refusals_positive BadFields = omega arith
refusals_positive BadGroupCount = omega arith
refusals_positive BadCounts = omega arith
refusals_positive BadPort = omega arith
refusals_positive PortSeen = omega arith
refusals_positive BadOffset = omega arith
refusals_positive LeftOver = omega arith
refusals_positive TooShort = omega arith
refusals_positive BadLoadDepth = omega arith
refusals_positive BadStoreDepth = omega arith
refusals_positive BadMemoryLength = omega arith
refusals_positive GroupTooLarge = omega arith
refusals_positive NoGroup = omega arith
refusals_positive NoPlace = omega arith
refusals_positive NoPort = omega arith
refusals_positive BadAddress = omega arith
refusals_positive NoneWaits = omega arith
refusals_positive NoSerial = omega arith
refusals_positive AlreadyDone = omega arith
refusals_positive NoAddress = omega arith
refusals_positive EarlierStoreUnknown = omega arith
refusals_positive NoData = omega arith
refusals_positive WrongMemory = omega arith
refusals_positive LoadConflict = omega arith
refusals_positive StoreConflict = omega arith
refusals_positive NoneUntaken = omega arith
refusals_positive NotServed = omega arith
refusals_positive BadKind = omega arith
refusals_positive FileTooLong = omega arith
refusals_positive Unsound = omega arith
refusals_positive PageTooShort = omega arith
refusals_positive PaddedNumber = omega arith
refusals_positive Unlisted = omega arith
refusals_positive Circle = omega arith

-- a check that was refused, and one that was passed, by what the whole rule gives
pub check_refused : {A : Type 0} {n : ℕ} (x : Reply A) → refuse n ≡ check_of x → x ≡ refuse n
check_refused (refuse m) e = ap refuse (sym (ap number e))
check_refused (accept a) e = search rules

pub check_passed : {A : Type 0} (x : Reply A) → passed ≡ check_of x → (a : A) × (x ≡ accept a)
check_passed (refuse m) e = search rules
check_passed (accept a) e = (a, search rules)
