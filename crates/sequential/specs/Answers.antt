-- A list of calls on a queue, and what it is answered. The calls are run by the very definitions that their contracts give.
-- "A call that isn't lent the memory leaves it as it was. The counts lent to a serve and the run of numbers lent to a ready
-- call may hold anything." A refused call changes nothing.
use Rattle.std.specs.Prelude.{ℕ, List, [], ◌∷◌}
use Rattle.std.proofs.Math.Option.{Option, none, some}
use Rattle.number.specs.Reply.{Reply, refuse, accept, number}
use Rattle.queue.specs.Contents.{Contents}
use Rattle.queue.specs.Activate.{activate}
use Rattle.queue.specs.Arguments.{give}
use Rattle.queue.specs.Serve.{Served, serve}
use Rattle.queue.specs.Write.{Written, write}
use Rattle.queue.specs.Take.{Taken, take_rule}
use Rattle.queue.specs.Ready.{ready}
use Rattle.sequential.specs.Calls.{Call, Activate, Give, Serve, Write, Take, Ready}

-- a queue and the memory that is lent to its calls
pub record Machine : Type 0 where
  pub queue : Contents
  pub memory : List ℕ

abbrev pub machine : Contents → List ℕ → Machine
machine q memory = record { queue = q; memory = memory }

-- what a call answers, and what it leaves
pub record Response : Type 0 where
  pub number : ℕ
  pub value : Option ℕ
  pub machine : Machine

-- a call that only moves the queue
abbrev pub move_response : Machine → Reply Contents → Response
move_response m (refuse n) = record { number = n; value = none; machine = m }
move_response m (accept q) = record { number = 0; value = none; machine = record { queue = q; memory = m.memory } }

abbrev pub serve_response : Machine → Reply Served → Response
serve_response m (refuse n) = record { number = n; value = none; machine = m }
serve_response m (accept s) = record { number = 0; value = some s.value; machine = record { queue = s.queue; memory = m.memory } }

abbrev pub write_response : Machine → Reply Written → Response
write_response m (refuse n) = record { number = n; value = none; machine = m }
write_response m (accept w) = record { number = 0; value = none; machine = record { queue = w.queue; memory = w.memory } }

abbrev pub take_response : Machine → Reply Taken → Response
take_response m (refuse n) = record { number = n; value = none; machine = m }
take_response m (accept t) = record { number = 0; value = some t.value; machine = record { queue = t.queue; memory = m.memory } }

-- a call that leaves the queue as it was
abbrev pub ready_response : Machine → Reply (List ℕ) → Response
ready_response m r = record { number = number r; value = none; machine = m }

abbrev pub step : Machine → Call → Response
step m (Activate g) = move_response m (activate m.queue g)
step m (Give kind port x) = move_response m (give kind m.queue port x)
step m (Serve c s) = serve_response m (serve m.queue m.memory s)
step m (Write s) = write_response m (write m.queue m.memory s)
step m (Take p) = take_response m (take_rule m.queue p)
step m (Ready kind run) = ready_response m (ready kind m.queue run)

-- a call with its answer
pub record Answered : Type 0 where
  pub call : Call
  pub number : ℕ
  pub value : Option ℕ

-- the answers of a list of calls, and the machine that the list leaves
abbrev pub answers : Machine → List Call → List Answered
answers m [] = []
answers m (c ∷ cs) = record { call = c; number = (step m c).number; value = (step m c).value } ∷ answers (step m c).machine cs

abbrev pub machine_after : Machine → List Call → Machine
machine_after m [] = m
machine_after m (c ∷ cs) = machine_after (step m c).machine cs
