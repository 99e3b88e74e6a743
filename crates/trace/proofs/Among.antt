-- The numbers that reading a trace refuses with: 1, 2 and 42 of a number, and 35.
use Prim.Native.Nat.{ℕ, zero, suc}
use mathlib.Core.Path.{◌≡◌, refl}
use mathlib.Core.Bool.{Bool, true, false}
use mathlib.Core.List.{List, [], ◌∷◌}
use lib.Dec.{leb}
use Rattle.trace.specs.declared.Event.{Event}
use Rattle.number.specs.Basics.{pick}
use Rattle.number.specs.Refusal.{ended, too_large, padded_number, bad_kind}
use Rattle.number.specs.Reply.{Reply, refuse}
use Rattle.number.specs.Number.{then_read, read_number}
use Rattle.trace.specs.Event.{has_second, read_kind, read_event, read_header}
use Rattle.trace.specs.Trace.{unless_end, with_first, events_up_to}
use Rattle.number.proofs.ReplyLaws.{refuses_among, need-among, and_then_among, then_read_among}
use Rattle.number.proofs.RoundTrip.{number-among}

module _ (among : ℕ → Bool) (one : among ended ≡ true) (two : among too_large ≡ true) (padding : among padded_number ≡ true) where
  number : (s : List ℕ) → refuses_among among (read_number s) ≡ true
  number = number-among among one two padding

  pub header-among : (s : List ℕ) → refuses_among among (read_header s) ≡ true
  unfolding read_header
  header-among s =
      then_read_among among (read_number s) _ (number s) λ loads s₁.
      then_read_among among (read_number s₁) _ (number s₁) λ stores s₂.
      then_read_among among (read_number s₂) _ (number s₂) λ serial s₃.
      then_read_among among (read_number s₃) _ (number s₃) λ words s₄. refl

  module _ (kinds : among bad_kind ≡ true) where
    event-among : (s : List ℕ) → refuses_among among (read_event s) ≡ true
    unfolding read_event
    event-among s =
        then_read_among among (read_number s) read_kind (number s) λ kind s₁.
        need-among among (leb kind 6) bad_kind _ kinds
        (then_read_among among (read_number s₁) _ (number s₁) λ x s₂.
        either (has_second kind) _ _ (then_read_among among (read_number s₂) _ (number s₂) λ y s₃. refl) refl)
      where
        either : {A : Type 0} (t : Bool) (r q : Reply A) → refuses_among among r ≡ true → refuses_among among q ≡ true
            → refuses_among among (pick t r q) ≡ true
        either true r q h k = h
        either false r q h k = k

    at-end : (s : List ℕ) (r : Reply (List Event)) → refuses_among among r ≡ true → refuses_among among (unless_end s r) ≡ true
    at-end [] r h = refl
    at-end (b ∷ s) r h = h

    pub events-among : (most : ℕ) (s : List ℕ) → refuses_among among (events_up_to most s) ≡ true
    unfolding events_up_to
    events-among zero s = at-end s (refuse ended) one
    events-among (suc most) s = at-end s (then_read (read_event s) λ e rest. with_first e (events_up_to most rest))
        (then_read_among among (read_event s) _ (event-among s) λ e rest. and_then_among among (events_up_to most rest) _ (events-among most rest) λ es. refl)
