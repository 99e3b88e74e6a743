-- Whole traces: "A trace is load depth, store depth, first serial, memory length, then events to the end of the bytes."
use Rattle.std.specs.Prelude.{ℕ, zero, suc, List, [], ◌∷◌, ◌++◌, length}
use Rattle.trace.specs.declared.Event.{Event}
use Rattle.trace.specs.declared.Header.{Header}
use Rattle.number.specs.Basics.{flat_map}
use Rattle.number.specs.Refusal.{ended}
use Rattle.number.specs.Reply.{Reply, refuse, accept, and_then}
use Rattle.number.specs.Number.{then_read}
use Rattle.trace.specs.Event.{event_numbers, read_event, events_bytes, header_numbers, header_bytes, read_header}

-- a trace as it is meant: its four leading numbers and its events
pub record Trace : Type 0 where
  pub header : Header
  pub events : List Event

-- at the end of the bytes there is no event; else what follows
abbrev pub unless_end : List ℕ → Reply (List Event) → Reply (List Event)
unless_end [] rest = accept []
unless_end (b ∷ s) rest = rest

-- an event before those that follow it
abbrev pub with_first : Event → Reply (List Event) → Reply (List Event)
with_first e r = and_then r λ es. accept (e ∷ es)

-- the events of the bytes, or the first fault: at most `most` events, since an event takes a byte at least
unfoldable pub events_up_to : ℕ → List ℕ → Reply (List Event)
events_up_to zero s = unless_end s (refuse ended)
events_up_to (suc most) s = unless_end s (then_read (read_event s) λ e rest. with_first e (events_up_to most rest))

-- "events to the end of the bytes"
abbrev pub read_events : List ℕ → Reply (List Event)
read_events s = events_up_to (length s) s

-- the leading numbers and then the events, or the first fault
unfoldable pub read_trace : List ℕ → Reply Trace
read_trace s =
    then_read (read_header s) λ h rest.
    and_then (read_events rest) λ es.
    accept (record { header = h; events = es })

-- the numbers of a trace, in the order of its bytes
abbrev pub trace_numbers : Trace → List ℕ
trace_numbers t = header_numbers t.header ++ flat_map event_numbers t.events

-- what is written of a trace: its leading numbers, and then each event
abbrev pub trace_bytes : Trace → List ℕ
trace_bytes t = header_bytes t.header ++ events_bytes t.events
