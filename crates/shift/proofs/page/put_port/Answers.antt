-- Six parts, one behind the other; each lemma says how far the line has come.
use Prim.Native.Nat.{◌<◌, ◌^◌}
use mathlib.Core.Path.{refl}
use mathlib.Core.List.{◌++◌}
use native.Mathlib.Omega.{arith}
use borrow.Author.Rules.{rules}
use Rattle.number.specs.Texts.{decimal}
use Rattle.shift.specs.Page.{blanks, pad_left, port_line, with_line_feed, value_or_zero}
use Rattle.shift.proofs.PageLaws.{port-wide, number_wide, PutsMany, many-ends, many-long, many-then, many-fit}
use Rattle.shift.proofs.page.put_port.Goals as goal
use Rattle.shift.proofs.page.put_port.Goals.{After-put_bytes-place, After-put_bytes-place-2}

-- the port and the blanks behind it
two_parts : (c : After-put_bytes-place) → let a = c.args in PutsMany a.out.now a.at
    (pad_left 2 (decimal a.port) ++ blanks 4) 6 c.put_bytes-place.result c.put_bytes-place.new.out
two_parts c =
    let a = c.args in
    let put : PutsMany a.out.now a.at (pad_left 2 (decimal a.port)) 2 c.put_right-place.result c.put_right-place.new.out
    = record { puts = c.put_right-place.ensures; wide = port-wide a.port c.requires.0; room = omega (arith, c.requires.1) } in
    many-fit put 4 c.put_bytes-place.ensures refl (omega (arith, c.requires.1))

-- its takes and the blanks behind them
four_parts : (c : After-put_bytes-place-2) → let a = c.args in PutsMany a.out.now a.at
    (pad_left 2 (decimal a.port) ++ blanks 4) 6 c.put_bytes-place.result c.put_bytes-place.new.out → PutsMany a.out.now a.at
    (pad_left 2 (decimal a.port) ++ blanks 4 ++ pad_left 10 (decimal a.takes) ++ blanks 14) 30
    c.put_bytes-place-2.result c.put_bytes-place-2.new.out
four_parts c two =
    let put = many-then two 10 c.put_right-place-2.ensures (number_wide c.args.takes (search rules))
    (omega (arith, c.requires.1)) in
    many-fit put 14 c.put_bytes-place-2.ensures refl (omega (arith, c.requires.1))

pub put_right-place-requires-2 : goal.put_right-place-requires-2
put_right-place-requires-2 c =
    let w = two_parts (goal.at.put_right-place-requires-2 c).After-put_bytes-place in
    let small : c.args.takes < 2 ^ 32 = search rules in
    (omega arith, omega arith, omega (arith, many-ends w, many-long w, c.requires.1))

pub put_right-place-requires-3 : goal.put_right-place-requires-3
put_right-place-requires-3 c =
    let p = goal.at.put_right-place-requires-3 c in
    let w = four_parts p.After-put_bytes-place-2 (two_parts p.After-put_bytes-place) in
    let small : c.value_or_zero.result < 2 ^ 32 = search rules in
    (omega arith, omega (arith, small), omega (arith, many-ends w, many-long w, c.requires.1))

pub returns : goal.returns
returns c =
    let a = c.args in
    let p = goal.at.returns c in
    let small : c.value_or_zero.result < 2 ^ 32 = search rules in
    let put₅ : PutsMany a.out.now a.at
    (pad_left 2 (decimal a.port) ++ blanks 4 ++ pad_left 10 (decimal a.takes) ++ blanks 14 ++ pad_left 10
    (decimal (value_or_zero a.takes a.value))) 40 c.put_right-place-3.result c.put_right-place-3.new.out
    = rw (← c.value_or_zero.ensures)
    (many-then (four_parts p.After-put_bytes-place-2 (two_parts p.After-put_bytes-place)) 10 c.put_right-place-3.ensures (number_wide c.value_or_zero.result small)
    (omega (arith, c.requires.1))) in
    let put₆ : PutsMany a.out.now a.at
    (with_line_feed (port_line a.port a.takes (value_or_zero a.takes a.value))) 41 c.put_bytes.result c.put_bytes.new.out
    = many-fit put₅ 1 c.put_bytes.ensures refl (omega (arith, c.requires.1)) in
    (put₆.puts, many-ends put₆)
