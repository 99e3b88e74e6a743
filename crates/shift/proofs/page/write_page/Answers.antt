-- The length is known before the first byte is written, so a refusal leaves the buffer as it was. Else header, ports and footer are put
-- one behind the other.
use Prim.Native.Nat.{ℕ, ◌≤◌}
use mathlib.Core.Path.{refl, sym, ap, ◌∙◌}
use mathlib.Core.List.{◌++◌}
use native.Mathlib.Omega.{arith}
use lib.ListN.{length, drop}
use Rattle.number.specs.Basics.{flat_map}
use Rattle.number.proofs.SpliceLaws.{splice_front}
use Rattle.number.proofs.PutLaws.{puts_none}
use Rattle.shift.specs.Record.{takes_of}
use Rattle.shift.specs.Page.{header, with_line_feed, port_lines, value_shown, page, page_bytes}
use Rattle.shift.proofs.PageLaws.{PutsMany, many-then, many-fit, many-as, page-parts, written-short, written-fits}
use Rattle.shift.proofs.page.write_page.Goals as goal

pub returns-then-out-lt-PAGE_BYTES : goal.returns-then-out-lt-PAGE_BYTES
returns-then-out-lt-PAGE_BYTES c = rw (written-short c.args.kept.now c.args.out.now c.if-out-lt-PAGE_BYTES.true) (refl, refl)

pub returns : goal.returns
returns c =
    let room : page_bytes ≤ length c.args.out.now = c.if-out-lt-PAGE_BYTES.false in
    let put₁ : PutsMany c.args.out.now 0 (with_line_feed header) 41 c.put_bytes-place.result c.put_bytes-place.new.out = many-fit
    (record { puts = puts_none; wide = refl; room = omega arith }) 41 c.put_bytes-place.ensures refl (omega (arith, room)) in
    let put₂ : let a = c.args in PutsMany a.out.now 0
    (with_line_feed header ++ flat_map with_line_feed (port_lines (takes_of a.kept.now) (value_shown a.kept.now))) 1353
    c.put_ports-place.result c.put_ports-place.new.out = let put = c.put_ports-place.ensures in
    many-then put₁ 1312 put.0 (omega (arith, put.0.ends, put.1)) (omega (arith, room)) in
    let put₃ : let a = c.args in PutsMany a.out.now 0 (page a.kept.now) page_bytes c.put_bytes.result c.put_bytes.new.out = many-as
    (many-fit put₂ 41 c.put_bytes.ensures refl (omega (arith, room))) (sym (page-parts c.args.kept.now)) in
    let a = c.args in
    let w = put₃ in
    rw (written-fits a.kept.now a.out.now room)
    (refl, w.puts.is ∙ splice_front a.out.now (page a.kept.now) ∙ ap (λ (n : ℕ). page a.kept.now ++ drop n a.out.now) w.wide)
