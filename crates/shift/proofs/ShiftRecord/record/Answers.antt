-- A port above 31 has no place in either array; else each array changes at one place.
use Prim.Native.Nat.{◌<◌}
use mathlib.Core.Path.{sym}
use lib.ListN.{get_or}
use borrow.Author.Rules.{rules}
use Rattle.shift.proofs.RecordLaws.{recorded-outside, recorded-set, one_more-is}
use Rattle.shift.proofs.ShiftRecord.record.Goals as goal

pub returns-then-port-ge32 : goal.returns-then-port-ge32
returns-then-port-ge32 c = sym (recorded-outside c.args.self.now c.args.port c.args.value (search rules) (search rules) c.if-port-ge32.true)

pub returns : goal.returns
returns c =
    let a = c.args in
    let small : get_or a.self.now.takes a.port 0 < 4294967296 = search rules in
    rw (c.saturating_add.ensures, one_more-is _ small) (sym (recorded-set a.self.now a.port a.value))
