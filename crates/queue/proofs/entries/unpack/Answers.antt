use Rattle.std.proofs.Common.{refl}
use Rattle.queue.specs.Entry.{unpacked}
use Rattle.queue.proofs.entries.unpack.Goals as goal

pub returns : goal.returns
unfolding unpacked
returns c = refl
