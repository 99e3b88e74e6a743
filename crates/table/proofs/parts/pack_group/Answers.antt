use Rattle.table.specs.Packed.{packed_group}
use Rattle.table.proofs.parts.pack_group.Goals as goal

pub returns : goal.returns
unfolding packed_group
returns c = rw (c.pack_span.ensures.0, c.pack_span-2.ensures.0)
