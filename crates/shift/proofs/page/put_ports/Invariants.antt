-- Each turn puts one port's line behind those before it.
use Prim.Native.Nat.{◌*◌}
use Rattle.shift.specs.Record.{takes_of}
use Rattle.shift.specs.Page.{value_shown}
use Rattle.shift.proofs.PageLaws.{PutsMany, lines_to}
use Rattle.shift.proofs.page.put_ports.Given as goal

abbrev pub invariant-loop-port : goal.invariant-loop-port
invariant-loop-port l = PutsMany l.initial.out l.at (lines_to (takes_of l.kept) (value_shown l.kept) l.port)
    (41 * l.port) l.place l.out
