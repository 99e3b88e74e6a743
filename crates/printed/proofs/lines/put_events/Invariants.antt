use lib.ListN.{take}
use Rattle.printed.specs.Text.{event_lines}
use Rattle.number.specs.Number.{Puts}
use Rattle.printed.specs.Internal.{rows}
use Rattle.printed.proofs.lines.put_events.Given as goal

abbrev pub invariant-loop-i : goal.invariant-loop-i
invariant-loop-i l = Puts l.initial.out 0 (event_lines 1 (take l.i (rows l.answers l.given l.values))) l.place l.out
