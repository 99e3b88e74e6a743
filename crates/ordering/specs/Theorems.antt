-- What is proved of the answer, for every number of accesses and every list of pairs. The proofs are proofs/Theorem.antt.
use Rattle.std.specs.Prelude.{ℕ, ◌≤◌, ◌≡◌, ◌⊎◌, ◌↔◌, List, length}
use Rattle.ordering.specs.declared.Precedence.{Precedence}
use Rattle.number.specs.Reply.{Reply, refuse, accept}
use Rattle.number.specs.Refusal.{unlisted, circle}
use Rattle.ordering.specs.Orders.{asks, Respects, First, Circle, NamesUnlisted, Outside}
use Rattle.ordering.specs.Answer.{answer}

-- One of three answers is given, each just where the paper asks for it, in words that know nothing of the rule.
pub record JustAnswered (n : ℕ) (pairs : List Precedence) (reply : Reply (List ℕ)) : Type 0 where
  -- 43 before anything else
  pub outside : (reply ≡ refuse unlisted) ↔ Outside n pairs
  -- "give the order that respects all pairs and is first when orders are compared by access number from the left"
  pub given : (order : List ℕ) → (reply ≡ accept order) ↔ ((Outside n pairs → ⊥) × First n pairs order)
  -- "A circle is reported if one exists, and only then": "44: a circle, after 43".
  pub circular : (reply ≡ refuse circle) ↔ ((Outside n pairs → ⊥) × Circle pairs)
  -- and there is no fourth
  pub three : (reply ≡ refuse unlisted) ⊎ (((order : List ℕ) × (reply ≡ accept order)) ⊎ (reply ≡ refuse circle))

abbrev pub AllJustAnswered : Type 0
AllJustAnswered = (n : ℕ) (pairs : List Precedence) → JustAnswered n pairs (answer n pairs)

-- Never both an order and a circle; and exactly one of them, the order being first among all, where every pair names accesses that are
-- listed: for any number of accesses and pairs.
abbrev pub NeverBoth : Type 0
NeverBoth = (n : ℕ) (pairs : List Precedence) (order : List ℕ) → Respects n pairs order → Circle pairs → ⊥

abbrev pub OneOfBoth : Type 0
OneOfBoth =
    (n : ℕ) (pairs : List Precedence) → (NamesUnlisted n pairs → ⊥) → ((order : List ℕ) × First n pairs order) ⊎ Circle pairs

-- "A repeated pair asks no more than one does, but each counts towards the 64": lists of at most 64 pairs that ask for the same get the
-- same answer, however often and wherever a pair stands.
abbrev pub SameAsked : Type 0
SameAsked =
    (n : ℕ) (pairs others : List Precedence) → length pairs ≤ 64 → length others ≤ 64 → ((a b : ℕ) → asks pairs a b ≡ asks others a b)
    → answer n pairs ≡ answer n others
