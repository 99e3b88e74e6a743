-- Refusals of a trace's numbers come in their order; the statements are specs/NumbersFirst.antt.
use Prim.Native.Nat.{ℕ}
use mathlib.Core.Path.{◌≡◌}
use mathlib.Core.Bool.{true}
use native.Mathlib.Omega.{arith}
use lib.Dec.{leb}
use borrow.Author.Tests.{le-leb, lt-leb, leb-true}
use Rattle.trace.specs.Event.{has_second, read_event, read_header}
use Rattle.trace.specs.NumbersFirst.{EventsInOrder, HeadersInOrder}
use Rattle.number.proofs.Both.{and_right}

-- a kind with a second number is one of the kinds
known : (kind : ℕ) → has_second kind ≡ true → leb kind 6 ≡ true
known kind h = le-leb kind 6 (omega (arith, leb-true kind 3 (and_right (leb 1 kind) (leb kind 3) h)))

pub events_in_order : EventsInOrder
unfolding read_event
events_in_order s = record {
  kind = λ e. rw e;
  above = λ {kind = n} e h. rw (e, lt-leb n 6 h);
  first = λ {kind = n} e h f. rw (e, le-leb n 6 h, f);
  second = λ {kind = n} e h f g. rw (e, known n h, f, h, g);
}

pub headers_in_order : HeadersInOrder
unfolding read_header
headers_in_order s = record {
  first = λ e. rw e;
  second = λ e f. rw (e, f);
  third = λ e f g. rw (e, f, g);
  fourth = λ e f g h. rw (e, f, g, h);
}
