-- i pairs have been read into the array; what is left to read is the rest, with the marks and the last offset so far.
use Rattle.table.specs.Internal.{rule_of}
use Rattle.table.proofs.ReadLaws.{PairsReading}
use Rattle.table.proofs.read.read_pairs.Given as goal

abbrev pub invariant-loop-i : goal.invariant-loop-i
invariant-loop-i l = PairsReading (rule_of l.rule) l.count l.initial.seen l.bytes l.at l.i l.low l.seen l.place l.pairs.places
