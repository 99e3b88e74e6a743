-- A replay's record is that of the calls that its events stand for.
use Prim.Native.Nat.{ℕ}
use mathlib.Core.Path.{◌≡◌, refl, sym, ap, ◌∙◌}
use mathlib.Core.Bool.{Bool, true, false}
use mathlib.Core.List.{List, [], ◌∷◌}
use lib.Dec.{eqb}
use Rattle.number.specs.Basics.{pick}
use Rattle.trace.specs.declared.Event.{Event}
use Rattle.trace.specs.declared.Event.TheVariants.{Activate, LoadAddress, StoreAddress, StoreData, Serve, Write, Take}
use Rattle.number.specs.Reply.{Reply, refuse, accept}
use Rattle.queue.specs.Take.{Taken, take_rule}
use Rattle.sequential.specs.Answers.{Machine, Answered, take_response}
use Rattle.replay.specs.Playing.{call_of, Playing, played, step_of, Logged, logged, log}
use Rattle.shift.specs.declared.ShiftRecord.{ShiftRecord}
use Rattle.shift.specs.Record.{after_take}
use Rattle.shift.specs.Lists.{after_call}
use Rattle.paged.specs.Recorded.{after_event, record_from, LogsOfCalls, RecordsOfCalls}

-- a call that is none of take leaves the record, whatever it is answered
either : {A : Type 0} (t : Bool) (a : A) → pick t a a ≡ a
either true a = refl
either false a = refl

-- a refused take gives no value
take-leaves : (r : ShiftRecord) (m : Machine) (port : ℕ) (rule : Reply Taken)
    → after_take r port (take_response m rule).value ≡ pick (eqb (take_response m rule).number 0) (after_take r port (take_response m rule).value) r
take-leaves r m port (refuse n) = sym (either (eqb n 0) r)
take-leaves r m port (accept t) = refl

-- an event as a call with its answer
abbrev answered_as : Playing → Event → Answered
answered_as p e = record { call = call_of p.counts e; number = (step_of p e).number; value = (step_of p e).value }

one_event : (r : ShiftRecord) (p : Playing) (e : Event) → after_event r e (step_of p e).value ≡ after_call r (answered_as p e)
one_event r p (Activate g) = sym (either (eqb (step_of p (Activate g)).number 0) r)
one_event r p (LoadAddress q a) = sym (either (eqb (step_of p (LoadAddress q a)).number 0) r)
one_event r p (StoreAddress q a) = sym (either (eqb (step_of p (StoreAddress q a)).number 0) r)
one_event r p (StoreData q w) = sym (either (eqb (step_of p (StoreData q w)).number 0) r)
one_event r p (Serve s) = sym (either (eqb (step_of p (Serve s)).number 0) r)
one_event r p (Write s) = sym (either (eqb (step_of p (Write s)).number 0) r)
one_event r p (Take q) = take-leaves r p.machine q (take_rule p.machine.queue q)

pub logs_of_calls : LogsOfCalls
logs_of_calls p [] = refl
logs_of_calls p (e ∷ es) = ap (λ (ls : List Logged). logged (step_of p e) ∷ ls) (logs_of_calls (played p e) es)

pub records_of_calls : RecordsOfCalls
records_of_calls r p [] = refl
records_of_calls r p (e ∷ es) =
    ap (λ (k : ShiftRecord). record_from k es (log (played p e) es)) (one_event r p e)
    ∙ records_of_calls (after_call r (answered_as p e)) (played p e) es
