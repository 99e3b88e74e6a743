-- What a call hands back, in the papers' terms: what it answers, and the queue that it leaves of the one that is lent to it. "A refusal
-- returns its number and no value; everything handed in or lent keeps its contents": it leaves the very record. An accepted call leaves
-- a queue that holds just what the rule gives; "places of a record beyond its counts have no meaning", and nothing is said of them.
use Rattle.std.specs.Prelude as code
use Rattle.std.specs.Prelude.{◌≡◌, ℕ, Some, None, Result, List}
use Rattle.std.proofs.Math.Option.{Option, none, some}
use Rattle.counts.specs.declared.Counts.{Counts}
use Rattle.counts.specs.Counts.{counted}
use Rattle.queue.specs.declared.Queue.{Queue}
use Rattle.number.specs.declared.refusal.Refusal.{Refusal}
use Rattle.number.specs.Reply.{Reply, refuse, accept, reply}
use Rattle.queue.specs.Contents.{Contents, contents_of}
use Rattle.queue.specs.Serve.{Served}
use Rattle.queue.specs.Write.{Written}
use Rattle.queue.specs.Take.{Taken}

-- what a call hands back in the paper's terms: its number, its value or none, and the queue that follows
pub record Outcome : Type 0 where
  pub answer : ℕ
  pub value : Option ℕ
  pub queue : Queue

-- this number, no value, and this very queue: what a refused call hands back, and every ready call
abbrev pub no_value : ℕ → Queue → Outcome
no_value n q = record { answer = n; value = none; queue = q }

-- What a call hands back that replies so and leaves this queue, where an accepted one gives a value as `value` says. "When an answer is an
-- enum, a definition gives this paper's number and values for each enum case": `reply` does.
abbrev pub handed : {A : Type 0} → (A → Option ℕ) → Reply A → Queue → Outcome
handed value (accept a) q = record { answer = 0; value = value a; queue = q }
handed value (refuse n) q = no_value n q

-- a call that gives no value; one that gives one; one that may
abbrev pub moved : Result (Unit {0}) Refusal → Queue → Outcome
moved r q = handed (λ done. none) (reply r) q

abbrev pub gave : Result ℕ Refusal → Queue → Outcome
gave r q = handed some (reply r) q

abbrev pub value_in : code.Option ℕ → Option ℕ
value_in (Some v) = some v
value_in None = none

abbrev pub may_give : Result (code.Option ℕ) Refusal → Queue → Outcome
may_give r q = handed value_in (reply r) q

-- an accepted call, which gives this value, or none, and a queue that holds this
pub record Accepted (value : Option ℕ) (queue : Contents) (r : Outcome) : Type 0 where
  pub answer : r.answer ≡ 0
  pub gives : r.value ≡ value
  pub holds : contents_of r.queue ≡ queue

-- a call that gives no value: activate and the three argument calls
abbrev pub Moves : Queue → Reply Contents → Outcome → Type 0
Moves q (refuse n) r = r ≡ no_value n q
Moves q (accept next) r = Accepted none next r

-- take
abbrev pub Takes : Queue → Reply Taken → Outcome → Type 0
Takes q (refuse n) r = r ≡ no_value n q
Takes q (accept t) r = Accepted (some t.value) t.queue r

-- what a serve hands back, with the counts that follow
pub record Counted : Type 0 where
  pub answer : ℕ
  pub value : Option ℕ
  pub queue : Queue
  pub counts : Counts

-- serve, with the counts that were lent
pub record ServedWell (s : Served) (c : Counts) (r : Counted) : Type 0 where
  pub answer : r.answer ≡ 0
  pub gives : r.value ≡ some s.value
  pub holds : contents_of r.queue ≡ s.queue
  pub counts : r.counts ≡ counted s.forwarded c

-- what a serve hands back in the same terms, with the counts that follow
pub record HandedCounts : Type 0 where
  pub outcome : Outcome
  pub counts : Counts

abbrev pub handed_counts : Counted → HandedCounts
handed_counts r = record { outcome = record { answer = r.answer; value = r.value; queue = r.queue }; counts = r.counts }

abbrev pub Serves : Queue → Counts → Reply Served → Counted → Type 0
Serves q c (refuse n) r = handed_counts r ≡ record { outcome = no_value n q; counts = c }
Serves q c (accept s) r = ServedWell s c r

-- what a serve hands back, beside the counts that it leaves of those that are lent to it
abbrev pub with_counts : Outcome → Counts → Counted
with_counts r counts = record { answer = r.answer; value = r.value; queue = r.queue; counts = counts }

abbrev pub without_counts : Counted → Outcome
without_counts k = record { answer = k.answer; value = k.value; queue = k.queue }

-- write, with the memory as it was lent and as it is left
pub record WrittenWell (w : Written) (r : Outcome) (memory : List ℕ) : Type 0 where
  pub outcome : Accepted none w.queue r
  pub memory_is : memory ≡ w.memory

pub record Unwritten (q : Queue) (n : ℕ) (lent : List ℕ) (r : Outcome) (memory : List ℕ) : Type 0 where
  pub outcome : r ≡ no_value n q
  pub memory_is : memory ≡ lent

abbrev pub Writes : Queue → List ℕ → Reply Written → Outcome → List ℕ → Type 0
Writes q lent (refuse n) r memory = Unwritten q n lent r memory
Writes q lent (accept w) r memory = WrittenWell w r memory

-- opening; a refused one has no queue to hand back, and the queue of no table stands for it, which means nothing
pub record Opened : Type 0 where
  pub answer : ℕ
  pub queue : Queue

abbrev pub opening_by : Queue → Reply Queue → Opened
opening_by blank (accept q) = record { answer = 0; queue = q }
opening_by blank (refuse n) = record { answer = n; queue = blank }

abbrev pub opening_of : Queue → Result Queue Refusal → Opened
opening_of blank r = opening_by blank (reply r)

abbrev pub Opens : Queue → Reply Contents → Opened → Type 0
Opens blank (refuse n) r = r ≡ record { answer = n; queue = blank }
Opens blank (accept q) r = (r.answer ≡ 0) × (contents_of r.queue ≡ q)
