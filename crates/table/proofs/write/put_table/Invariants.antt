use lib.ListN.{take}
use Rattle.number.specs.Basics.{flat_map}
use Rattle.table.specs.Table.{groups_of}
use Rattle.table.specs.TableBytes.{group_numbers}
use Rattle.number.proofs.SpliceLaws.{NumbersPut}
use Rattle.table.proofs.write.put_table.Given as goal

abbrev pub invariant-loop-i : goal.invariant-loop-i
invariant-loop-i l = NumbersPut l.initial.out l.initial.place (flat_map group_numbers (take l.i (groups_of l.table))) l.out l.place
