use Rattle.table.specs.Table.{group_at}
use Rattle.table.proofs.Table.group.Goals as goal

pub returns : goal.returns
unfolding group_at
returns c = rw (c.meant.ensures, c.meant-2.ensures, c.unpack_group-group.ensures, c.number_at.ensures)
