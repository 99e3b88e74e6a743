use Rattle.table.specs.Packed.{group_in}
use Rattle.table.proofs.parts.unpack_group.Goals as goal

pub returns : goal.returns
unfolding group_in
returns c = rw (c.unpack_span.ensures, c.unpack_span-2.ensures)
