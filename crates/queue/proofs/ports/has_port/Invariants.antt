use Rattle.table.specs.Table.{groups_of}
use Rattle.queue.specs.Arguments.{names_port}
use Rattle.queue.proofs.WalkLaws.{NoneYet}
use Rattle.queue.proofs.ports.has_port.Given as goal

abbrev pub invariant-loop-i : goal.invariant-loop-i
invariant-loop-i l = NoneYet (names_port l.kind l.port) (groups_of l.table) l.i
