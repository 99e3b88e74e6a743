-- What is left of the stores decides as all of them do.
use Rattle.queue.proofs.SourceLaws.{back-unknown, back-matched, back-passed, back_end}
use Rattle.queue.proofs.serving.source_of.Goals as goal

pub returns-then-not-store : goal.returns-then-not-store
returns-then-not-store c =
    back-unknown c.loop-number.invariant _ _ c.in-Some.ensures.steps c.unpack-store.result c.unpack-store.ensures c.if-not-store.true

pub returns-then-store-address : goal.returns-then-store-address
returns-then-store-address c =
    back-matched c.loop-number.invariant _ _ c.in-Some.ensures.steps c.unpack-store.result c.unpack-store.ensures c.if-not-store.false
    c.if-store-address.true c.from_store.ensures

pub loop-number-preserved : goal.loop-number-preserved
loop-number-preserved c =
    back-passed c.loop-number.invariant _ _ c.in-Some.ensures.steps c.unpack-store.result c.unpack-store.ensures c.if-not-store.false
    c.if-store-address.false

pub returns : goal.returns
returns c = back_end _ c.loop-number.invariant c.in-None.ensures.steps.0
