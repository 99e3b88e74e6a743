-- Readings that are easy to get wrong, by computation.
use Prim.Native.Nat.{ℕ, zero, suc}
use mathlib.Core.Path.{◌≡◌, refl}
use mathlib.Core.List.{List, [], ◌∷◌}
use lib.ListN.{replicate}
use Rattle.number.specs.Reply.{refuse, accept}
use Rattle.number.specs.Refusal.{unlisted, circle}
use Rattle.ordering.specs.declared.Precedence.{Precedence}
use Rattle.ordering.specs.Answer.{answer}
use Rattle.ordering.specs.Records.{ordered}

abbrev then : ℕ → ℕ → Precedence
then a b = record { first = a; second = b }

-- each number before the one below it, from n on
abbrev falling : ℕ → List Precedence
falling zero = []
falling (suc n) = then (suc n) n ∷ falling n

abbrev down : ℕ → List ℕ
down zero = 0 ∷ []
down (suc n) = suc n ∷ down n

no_accesses : answer 0 [] ≡ accept []
no_accesses = refl

none_listed : answer 0 (then 0 0 ∷ []) ≡ refuse unlisted
none_listed = refl

-- one of the two is listed
second_not_listed : answer 2 (then 0 2 ∷ []) ≡ refuse unlisted
second_not_listed = refl

first_not_listed : answer 2 (then 2 0 ∷ []) ≡ refuse unlisted
first_not_listed = refl

by_number : answer 4 (then 3 1 ∷ []) ≡ accept (0 ∷ 2 ∷ 3 ∷ 1 ∷ [])
by_number = refl

-- the order begins with 1, and access 0 is not put as far left as it could be
from_the_left : answer 3 (then 2 0 ∷ []) ≡ accept (1 ∷ 2 ∷ 0 ∷ [])
from_the_left = refl

reverse-chain : answer 32 (falling 31) ≡ accept (down 31)
reverse-chain = refl

with_itself : answer 3 (then 1 1 ∷ []) ≡ refuse circle
with_itself = refl

-- 0 is free: nothing is given all the same
far_from_zero : answer 32 (then 30 31 ∷ then 31 30 ∷ []) ≡ refuse circle
far_from_zero = refl

too_many_with_circle : answer 33 (then 1 1 ∷ []) ≡ refuse unlisted
too_many_with_circle = refl

sixty_four_copies : answer 2 (replicate 64 (then 1 0)) ≡ accept (1 ∷ 0 ∷ [])
sixty_four_copies = refl

sixty_five_copies : answer 2 (replicate 65 (then 0 0)) ≡ refuse unlisted
sixty_five_copies = refl

-- the whole record: every place beyond the order is 0
one_access : ordered (answer 1 []) ≡ record { answer = 0; count = 1; accesses = replicate 32 0 }
one_access = refl
