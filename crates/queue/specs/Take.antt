-- "Take gives the value of the port's oldest untaken load." "Take: 22; 33 no untaken load of the port is queued; 34 the
-- oldest is not served."
use Rattle.std.specs.Prelude.{ℕ, Bool}
use Rattle.std.proofs.Math.ListN.{get_elem?}
use Rattle.number.specs.Basics.{any_of}
use Rattle.number.specs.Refusal.{unsound, no_port, none_untaken, not_served}
use Rattle.number.specs.Reply.{Reply, accept, need, have}
use Rattle.queue.specs.declared.Kind.TheVariants.{Load as load}
use Rattle.queue.specs.Entry.{Entry, of_port_without, value_of, taken, mark_finished}
use Rattle.queue.specs.Contents.{Contents, with_entries, update_at, first_place}
use Rattle.queue.specs.Sound.{sound}
use Rattle.queue.specs.Arguments.{names_port}
use Rattle.queue.specs.Retire.{retire}

-- what an accepted take gives
pub record Taken : Type 0 where
  pub value : ℕ
  pub queue : Contents

-- an untaken load of the port
abbrev pub untaken : ℕ → Entry → Bool
untaken = of_port_without taken

-- the place of the port's oldest untaken load
abbrev pub take_place : Contents → ℕ → ℕ
take_place q port = first_place (untaken port) q.loads.entries

-- the load at a place is taken, and gives this value
abbrev pub taken_with : Contents → ℕ → ℕ → Taken
taken_with q place v = record { value = v; queue = retire (with_entries load q (update_at mark_finished place q.loads.entries)) }

unfoldable pub take_rule : Contents → ℕ → Reply Taken
take_rule q port =
    need (sound q) unsound
    (need (any_of (names_port load port) q.groups) no_port
    (have (get_elem? q.loads.entries (take_place q port)) none_untaken λ l.
    have (value_of l) not_served λ v.
    accept (taken_with q (take_place q port) v)))
