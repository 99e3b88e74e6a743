use Rattle.std.proofs.Common.{◌≡◌, drop}
use Rattle.script.specs.Hexadecimal.{byte_steps, no_bytes}
use Rattle.script.proofs.bytes_of.Given as goal

abbrev pub invariant-loop-byte : goal.invariant-loop-byte
invariant-loop-byte l = byte_steps l.read (drop l.byte-index l.byte-items) ≡ byte_steps no_bytes (drop l.from l.line)
