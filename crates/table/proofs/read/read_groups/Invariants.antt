-- i groups have been read into the table; what is left to read is the rest, with the ports seen so far.
use Rattle.table.specs.Internal.{seen_of}
use Rattle.table.proofs.ReadLaws.{PairsGathering}
use Rattle.table.proofs.read.read_groups.Given as goal

abbrev pub invariant-loop : goal.invariant-loop
invariant-loop l = PairsGathering l.count l.bytes l.at l.counter (seen_of l.seen) l.place l.gathered
