-- Each turn puts one port's line behind those before it.
use Prim.Native.Nat.{◌+◌, ◌*◌}
use mathlib.Core.Path.{◌≡◌, sym}
use native.Mathlib.Omega.{arith}
use lib.ListN.{length}
use Rattle.shift.specs.Record.{takes_of}
use Rattle.shift.specs.Page.{port_line, with_line_feed, value_shown}
use Rattle.shift.proofs.PageLaws.{many-ends, many-then, many-as, lines_next}
use Rattle.shift.proofs.page.put_ports.Goals as goal

pub loop-port-preserved : goal.loop-port-preserved
loop-port-preserved c =
    let k = c.args.kept.now in
    let port = c.loop-port.port in
    let put = c.put_port-place.ensures in
    let wide : length (with_line_feed (port_line port (takes_of k port) (value_shown k port))) ≡ 41 = omega (arith, put.0.ends, put.1) in
    let e : 41 * port + 41 ≡ 41 * (port + 1) = omega arith in
    rw (← e)
    (many-as (many-then c.loop-port.invariant 41 put.0 wide (omega (arith, c.requires, c.loop-port-test.true)))
    (sym (lines_next (takes_of k) (value_shown k) port)))

pub returns : goal.returns
returns c =
    let all : c.loop-port.port ≡ 32 = omega (arith, c.loop-port.auto.port-end, c.loop-port-test.false) in
    let w = rw all at c.loop-port.invariant in (w.puts, many-ends w)
