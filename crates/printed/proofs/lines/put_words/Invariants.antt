use lib.ListN.{take}
use Rattle.printed.specs.Text.{word_lines}
use Rattle.number.specs.Number.{Puts}
use Rattle.printed.proofs.lines.put_words.Given as goal

abbrev pub invariant-loop-address : goal.invariant-loop-address
invariant-loop-address l = Puts l.initial.out l.at (word_lines 0 (take l.address l.memory)) l.place l.out
