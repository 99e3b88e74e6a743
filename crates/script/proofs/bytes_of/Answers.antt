use Rattle.std.proofs.Common.{add-one, rules}
use Rattle.script.specs.Hexadecimal.{byte_step}
use Rattle.script.proofs.LineLaws.{read_next, read_end}
use Rattle.script.proofs.bytes_of.Goals as goal
use Rattle.script.proofs.bytes_of.Goals.{in_default-via-in-Space+else-read, in_default-via-in_default}

pub loop-byte-preserved : goal.loop-byte-preserved
loop-byte-preserved c =
    let items = c.behind-byte-items.result.now in
    rw (add-one, c.byte_step-read.ensures, ← read_next byte_step c.loop-byte.read items c.loop-byte.byte-index c.loop-byte-test.true) c.loop-byte.invariant

pub returns-in-Space : goal.returns-in-Space
returns-in-Space c = rw (← c.loop-byte.invariant, read_end byte_step _ _ _ c.loop-byte-test.false, c.in-Space.is) (search rules)

pub returns-in_default : goal.returns-in_default
returns-in_default c =
    rw (← c.loop-byte.invariant, read_end byte_step _ _ _ c.loop-byte-test.false)
    (elim c.in_default.branch [ in_default-via-in-Space+else-read w ↦ search rules | in_default-via-in_default w ↦ search rules ])
