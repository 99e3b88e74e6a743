use Rattle.std.proofs.Common.{◌<◌, length, arith, rules, nat_eq, not}
use Rattle.std.proofs.lemmas.List.Sums.{prefix_len-le-length}
use Rattle.script.specs.Lines.{lines_in}
use Rattle.script.proofs.LineLaws.{no_lines, first_line}
use Rattle.script.proofs.LinesIterator.next.Goals as goal

pub returns-then-is_empty-clause-steps : goal.returns-then-is_empty-clause-steps
returns-then-is_empty-clause-steps c =
    let e = no_lines c.args.self.now.text.now (search rules) in
    (e, e)

pub split_at-requires : goal.split_at-requires
split_at-requires c =
    let few = prefix_len-le-length (λ b. not (nat_eq b 10)) c.args.self.now.text.now in
    omega (arith, few, c.until.ensures)

pub returns-clause-steps : goal.returns-clause-steps
returns-clause-steps c =
    let first = first_line c.args.self.now.text.now (search rules) in
    rw (c.split_at.ensures.front, c.behind-self.ensures, c.split_at.ensures.back, c.until.ensures) first

pub returns-clause-goes : goal.returns-clause-goes
returns-clause-goes c =
    let first = first_line c.args.self.now.text.now (search rules) in
    let behind = rw (c.split_at.ensures.back, c.until.ensures) at c.behind-self.ensures in
    let fewer : length (lines_in c.behind-self.result.now) < length (lines_in c.args.self.now.text.now) = rw (first, behind) (omega arith) in
    record { on = λ _. (tt, tt, fewer); keeps = tt; rests = λ _. tt }
