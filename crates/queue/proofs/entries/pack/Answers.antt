use Rattle.std.proofs.Common.{◌≡◌, Bool, true, false, refl}
use mir.Val.{bool_byte}
use Rattle.queue.specs.Entry.{bit, number_of}
use Rattle.queue.proofs.entries.pack.Goals as goal

-- a mark's bit is its byte
bit_is : (b : Bool) → bool_byte b ≡ bit b
bit_is true = refl
bit_is false = refl

pub returns : goal.returns
unfolding number_of
returns c = rw (bit_is c.args.entry.addressed, bit_is c.args.entry.filled, bit_is c.args.entry.finished)
