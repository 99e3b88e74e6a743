use Rattle.std.proofs.Common.{◌≡◌, drop}
use Rattle.script.specs.Decimal.{number_steps, no_numbers}
use Rattle.script.proofs.numbers_of.Given as goal

abbrev pub invariant-loop-byte : goal.invariant-loop-byte
invariant-loop-byte l = number_steps l.read (drop l.byte-index l.byte-items) ≡ number_steps no_numbers (drop l.from l.line)
