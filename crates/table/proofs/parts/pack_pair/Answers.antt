use mathlib.Core.Path.{refl}
use Rattle.table.specs.Packed.{packed_pair}
use Rattle.table.proofs.parts.pack_pair.Goals as goal

pub returns : goal.returns
unfolding packed_pair
returns c = refl
