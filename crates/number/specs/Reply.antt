-- What a call replies. "When an answer is an enum, a definition gives this paper's number and values for each enum case. The promises
-- use this definition." A reply is 0 with what the call gives ("accepted is 0"), or the refusal number: "a refusal returns its number
-- and no value". Rules are written in the order of checking, and none refuses with 0.
use Rattle.std.specs.Prelude.{ℕ, Bool, true, false, Result, Ok, Err}
use Rattle.number.specs.declared.refusal.Refusal.{Refusal}
use Rattle.number.specs.Refusal.{refusal_number}
use Rattle.std.proofs.Math.Option.{Option, none, some}

pub data Reply (A : Type 0) : Type 0 where
  refuse : ℕ → Reply A
  accept : A → Reply A

-- what a call that answers by a `Result` replies: "accepted is 0"
abbrev pub reply : {A : Type 0} → Result A Refusal → Reply A
reply (Ok a) = accept a
reply (Err e) = refuse (refusal_number e)

-- the refusal where the test fails, else what follows
abbrev pub need : {A : Type 0} → Bool → ℕ → Reply A → Reply A
need true number rest = rest
need false number rest = refuse number

-- the refusal where there is none, else what follows with the one there is
abbrev pub have : {A B : Type 0} → Option A → ℕ → (A → Reply B) → Reply B
have none number rest = refuse number
have (some a) number rest = rest a

-- what follows with what was given, or the same refusal
abbrev pub and_then : {A B : Type 0} → Reply A → (A → Reply B) → Reply B
and_then (refuse number) rest = refuse number
and_then (accept a) rest = rest a

-- the answer's number: "accepted is 0"
abbrev pub number : {A : Type 0} → Reply A → ℕ
number (refuse n) = n
number (accept a) = 0

abbrev pub accepted : {A : Type 0} → Reply A → Bool
accepted (refuse n) = false
accepted (accept a) = true

-- a check gives nothing: it is passed, or its refusal is told
abbrev pub passed : Reply (Unit {0})
passed = accept tt

-- the check alone: it is passed where something is given
abbrev pub check_of : {A : Type 0} → Reply A → Reply (Unit {0})
check_of r = and_then r λ a. passed

-- both checks are passed, or the first refusal is told
abbrev pub both : Reply (Unit {0}) → Reply (Unit {0}) → Reply (Unit {0})
both first second = and_then first λ t. second
