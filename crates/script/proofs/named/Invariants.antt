use Rattle.std.proofs.Common.{◌≡◌, drop}
use Rattle.script.specs.Names.{named_in}
use Rattle.script.proofs.named.Given as goal

abbrev pub invariant-loop-name : goal.invariant-loop-name
invariant-loop-name g l = named_in (λ e. e.0.now) (λ e. e.1) l.word (drop l.name-index l.table) ≡ named_in (λ e. e.0.now) (λ e. e.1) l.word l.table
