use mathlib.Core.List.{map}
use lib.ListN.{take}
use Rattle.number.specs.Basics.{flat_map}
use Rattle.table.specs.Packed.{pair_in}
use Rattle.table.specs.TableBytes.{pair_numbers}
use Rattle.number.proofs.SpliceLaws.{NumbersPut}
use Rattle.table.proofs.write.put_pairs.Given as goal

abbrev pub invariant-loop-number : goal.invariant-loop-number
invariant-loop-number l = NumbersPut l.initial.out l.at (flat_map pair_numbers (take l.number-index (map pair_in l.pairs))) l.out l.place
