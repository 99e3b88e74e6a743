use mathlib.Core.Path.{refl}
use Rattle.table.specs.Packed.{pair_in}
use Rattle.table.proofs.parts.unpack_pair.Goals as goal

pub returns : goal.returns
unfolding pair_in
returns c = refl
