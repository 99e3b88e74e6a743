use Rattle.std.proofs.Common.{get_or, refl, ap, ◌∙◌, arith}
use Rattle.queue.specs.Entry.{number_of}
use Rattle.queue.specs.Internal.{set_word}
use Rattle.queue.proofs.EntryLaws.{word_number}
use Rattle.queue.proofs.serving.served.Goals as goal

pub returns-clause-entry : goal.returns-clause-entry
returns-clause-entry c = record {
  number = c.pack.result;
  holds = word_number c.args.word (get_or c.args.load_entries.now c.args.at 0) (omega arith)
      (c.pack.ensures ∙ ap number_of (c.set_word.ensures ∙ ap (set_word c.args.word) c.unpack-load.ensures));
  leaves = refl;
}
