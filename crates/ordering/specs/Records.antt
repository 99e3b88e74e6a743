-- The records of the call: pairs handed in, and what is answered.
use Rattle.std.specs.Prelude.{ℕ, ◌-◌, ◌<◌, ◌≡◌, ◌↔◌, true, List, ◌++◌, eqb, length, take, get_or, replicate}
use Rattle.ordering.specs.declared.Precedence.{Precedence}
use Rattle.ordering.specs.declared.Precedences.{Precedences}
use Rattle.ordering.specs.declared.Ordered.{Ordered}
use Rattle.number.specs.Basics.{pick, held}
use Rattle.number.specs.Reply.{Reply, refuse, accept}
use Rattle.ordering.specs.Orders.{asks}
use Rattle.ordering.specs.Answer.{answer}
use Rattle.ordering.specs.Theorems.{JustAnswered}

abbrev pub blank_precedence : Precedence
blank_precedence = record { first = 0; second = 0 }

-- As many pairs as the count says. More than there are places are more than 64: they get 43, whatever they are.
abbrev pub precedences_of : Precedences → List Precedence
precedences_of p = held blank_precedence p.count p.pairs

abbrev pub PairsCounted : Type 0
PairsCounted = (p : Precedences) → length (precedences_of p) ≡ p.count

abbrev pub PairsInPlace : Type 0
PairsInPlace = (p : Precedences) (i : ℕ) → i < p.count → get_or (precedences_of p) i blank_precedence ≡ get_or p.pairs i blank_precedence

-- What is asked is what some pair in the list says, and nothing else.
abbrev pub PairsAsk : Type 0
PairsAsk =
    (pairs : List Precedence) (a b : ℕ) → (asks pairs a b ≡ true)
    ↔ ((i : ℕ) × (i < length pairs) × (get_or pairs i blank_precedence ≡ record { first = a; second = b }))

-- The answer as a record: "accepted is 0"; "a refusal returns its number and no value". The places beyond the order, which mean nothing,
-- are 0.
abbrev pub ordered : Reply (List ℕ) → Ordered
ordered (refuse number) = record { answer = number; count = 0; accesses = replicate 32 0 }
ordered (accept order) = record { answer = 0; count = length order; accesses = order ++ replicate (32 - length order) 0 }

-- what a record says: the first `count` places are the order
abbrev pub order_in : Ordered → List ℕ
order_in r = take r.count r.accesses

abbrev pub reply_of : Ordered → Reply (List ℕ)
reply_of r = pick (eqb r.answer 0) (accept (order_in r)) (refuse r.answer)

-- The record says the very answer, and the order that it gives has as many accesses as were asked for. The proofs are
-- proofs/ReadBack.antt.
abbrev pub AnswersReadBack : Type 0
AnswersReadBack = (n : ℕ) (pairs : List Precedence) → reply_of (ordered (answer n pairs)) ≡ answer n pairs

abbrev pub OrdersAreWhole : Type 0
OrdersAreWhole = (n : ℕ) (pairs : List Precedence) (order : List ℕ) → answer n pairs ≡ accept order → length order ≡ n

-- A refusal gives no access and has 0 in every place.
abbrev pub RefusalsHoldNothing : Type 0
RefusalsHoldNothing =
    (n k : ℕ) (pairs : List Precedence) → answer n pairs ≡ refuse k
    → ordered (answer n pairs) ≡ record { answer = k; count = 0; accesses = replicate 32 0 }

-- So the record that the call promises says what the paper asks for of the pairs that were handed in.
abbrev pub RecordsJustAnswered : Type 0
RecordsJustAnswered =
    (n : ℕ) (pairs : Precedences) (r : Ordered) → r ≡ ordered (answer n (precedences_of pairs)) → JustAnswered n (precedences_of pairs) (reply_of r)
