use Prim.Native.Nat.{◌≤◌, ◌*◌}
use mathlib.Core.List.{map}
use Rattle.table.specs.Packed.{pair_in}
use Rattle.table.specs.TableBytes.{pair_numbers}
use Rattle.table.proofs.WriteLaws.{Tallied}
use Rattle.table.proofs.write.pairs_length.Given as goal

abbrev pub invariant-loop-number : goal.invariant-loop-number
invariant-loop-number l = (l.total ≤ 10 * l.number-index) × Tallied pair_numbers (map pair_in l.pairs) l.number-index l.total
