use Rattle.std.proofs.Common.{take}
use Rattle.std.specs.Option.{IfSome}
use Rattle.std.specs.Io.KnownBytes.{Appends}
use Rattle.script.specs.Printed.{all_spaced}
use Rattle.script.proofs.print_all.Given as goal

abbrev pub invariant-loop-value : goal.invariant-loop-value
invariant-loop-value g l = IfSome (all_spaced g.T.Display.output (take l.value-index l.values)) (Appends (g.W.Write.contents l.initial.out) (g.W.Write.contents l.out))
