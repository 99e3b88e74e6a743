use Rattle.std.proofs.Common.{sym, ◌∙◌}
use Rattle.queue.specs.Parts.{queue_of}
use Rattle.queue.proofs.PartsLaws.{checked}
use Rattle.queue.proofs.sound.check_parts.Goals as goal

pub returns : goal.returns
returns c =
    checked (queue_of c.args.frame.now c.args.load_entries.now c.args.store_entries.now) (sym c.if-not-sound_in.false ∙ c.sound_in.ensures)
