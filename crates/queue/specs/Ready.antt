-- "The ready calls put the serials that serve (or write) would now accept with memory of the right length, oldest first, at
-- the front of a lent run of numbers and give back that front part; the rest keeps its contents." "Ready: 10."
use Rattle.std.specs.Prelude.{◌≡◌, ℕ, zero, suc, ◌^◌, ◌<◌, Bool, Result, Ok, Err, List, [], ◌∷◌, ◌++◌, length, drop, replicate, ◌==◌, nat_eq, nat_le}
use Rattle.std.specs.Borrow.{MutBor}
use Rattle.number.specs.Basics.{any_of, keep_where}
use Rattle.number.specs.Refusal.{too_short, unsound, refusal_number}
use Rattle.queue.specs.declared.Kind.{Kind}
use Rattle.queue.specs.declared.Queue.{Queue}
use Rattle.number.specs.declared.refusal.Refusal.{Refusal}
use Rattle.number.specs.Reply.{Reply, refuse, accept, need, number, reply}
use Rattle.queue.specs.Contents.{Contents, of_kind, side_of, after, oldest}
use Rattle.queue.specs.Sound.{sound}
use Rattle.queue.specs.Serve.{serve}
use Rattle.queue.specs.Write.{write}

-- n serials from this one on
abbrev pub serials : ℕ → ℕ → List ℕ
serials from zero = []
serials from (suc n) = from ∷ serials (after from 1) n

-- how many entries of the kind there are, and the oldest one's serial
abbrev pub count_of : Kind → Contents → ℕ
count_of kind q = length (side_of kind q).entries

abbrev pub oldest_of : Kind → Contents → ℕ
oldest_of kind q = oldest (side_of kind q).next (count_of kind q)

-- the answer to serving a load, or to writing a store
abbrev pub answer_to : Kind → Contents → List ℕ → ℕ → ℕ
answer_to kind q memory serial = of_kind kind (number (serve q memory serial)) (number (write q memory serial))

-- a memory of the right length: what serve and write accept does not depend on its words
abbrev pub any_memory : Contents → List ℕ
any_memory q = replicate q.memory_length 0

-- would it now be accepted: "accepted is 0"
abbrev pub would : Kind → Contents → ℕ → Bool
would kind q serial = answer_to kind q (any_memory q) serial == 0

unfoldable pub ready_serials : Kind → Contents → List ℕ
ready_serials kind q = keep_where (would kind q) (serials (oldest_of kind q) (count_of kind q))

-- the serials that a ready call puts at the front of a run of numbers
unfoldable pub ready : Kind → Contents → List ℕ → Reply (List ℕ)
ready kind q run =
    need (sound q) unsound
    (need (nat_le (length (ready_serials kind q)) (length run)) too_short
    (accept (ready_serials kind q)))

-- What is listed is exactly what serve (or write) would accept: of every queue and every memory of the right length, a serial is
-- in the list where serve (or write) of it is answered 0, and only there.
abbrev pub ReadyExactly : Type 0
ReadyExactly = (kind : Kind) (q : Contents) (memory : List ℕ) (serial : ℕ) → length memory ≡ q.memory_length → serial < 2 ^ 32
    → any_of (nat_eq serial) (ready_serials kind q) ≡ (answer_to kind q memory serial == 0)

-- ---- what a ready call hands back: how many serials stand at the front of the run, and the very queue
pub record Readied : Type 0 where
  pub answer : ℕ
  pub count : ℕ
  pub queue : Queue

abbrev pub readied_by : Reply ℕ → Queue → Readied
readied_by (accept n) q = record { answer = 0; count = n; queue = q }
readied_by (refuse n) q = record { answer = n; count = 0; queue = q }

abbrev pub readied : Result ℕ Refusal → Queue → Readied
readied r q = readied_by (reply r) q

-- a refused one: this number, no serial, the very queue, and the run as it was
pub record Unready (q : Queue) (n : ℕ) (lent : List ℕ) (r : Readied) (run : List ℕ) : Type 0 where
  pub outcome : r ≡ record { answer = n; count = 0; queue = q }
  pub run_is : run ≡ lent

-- an accepted one: the very queue, and the serials at the front; "the rest keeps its contents"
pub record ReadyWell (q : Queue) (found lent : List ℕ) (r : Readied) (run : List ℕ) : Type 0 where
  pub outcome : r ≡ record { answer = 0; count = length found; queue = q }
  pub run_is : run ≡ found ++ drop (length found) lent

-- the run as it was lent and as it is left
abbrev pub Readies : Queue → List ℕ → Reply (List ℕ) → Readied → List ℕ → Type 0
Readies q lent (refuse n) r run = Unready q n lent r run
Readies q lent (accept found) r run = ReadyWell q found lent r run

-- Where the front part is handed back: the answer's number, the serials, or none where it is refused, and the very queue.
abbrev pub front_of : Reply (List ℕ) → List ℕ
front_of (refuse n) = []
front_of (accept found) = found

pub record Fronts (q : Queue) (rule : Reply (List ℕ)) (answer : ℕ) (serials : List ℕ) (queue : Queue) : Type 0 where
  pub answer_is : answer ≡ number rule
  pub serials_are : serials ≡ front_of rule
  pub queue_is : queue ≡ q

-- what such a call replies: the front part of the lent run as it stands
abbrev pub front_reply : Result (MutBor (List ℕ)) Refusal → Reply (List ℕ)
front_reply (Ok front) = accept front.now
front_reply (Err e) = refuse (refusal_number e)
