use Rattle.std.proofs.Common.{add-one, rules}
use Rattle.script.specs.Decimal.{number_step}
use Rattle.script.proofs.LineLaws.{read_next, read_end}
use Rattle.script.proofs.numbers_of.Goals as goal
use Rattle.script.proofs.numbers_of.Goals.{else-read-via-then-read+else-not-read, else-read-via-else-read}

pub loop-byte-preserved : goal.loop-byte-preserved
loop-byte-preserved c =
    let items = c.behind-byte-items.result.now in
    rw (add-one, c.number_step-read.ensures, ← read_next number_step c.loop-byte.read items c.loop-byte.byte-index c.loop-byte-test.true) c.loop-byte.invariant

pub returns-then-not-read : goal.returns-then-not-read
returns-then-not-read c =
    rw (← c.loop-byte.invariant, read_end number_step _ _ _ c.loop-byte-test.false) (grind rules)

pub returns : goal.returns
returns c =
    rw (← c.loop-byte.invariant, read_end number_step _ _ _ c.loop-byte-test.false)
    (elim c.else-read.branch [ else-read-via-then-read+else-not-read w ↦ grind rules | else-read-via-else-read w ↦ search rules ])
