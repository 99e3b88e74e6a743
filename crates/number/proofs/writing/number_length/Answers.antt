-- A number's length is the formula of its significant bits, and so, by `number_length_law`, the length of the bytes that are written.
use native.Mathlib.Omega.{arith}
use borrow.Author.Rules.{rules}
use Rattle.number.proofs.Lengths.{number_length_law}
use Rattle.number.proofs.writing.number_length.Goals as goal

pub returns-then-count-lt1-clause-by_bytes : goal.returns-then-count-lt1-clause-by_bytes
returns-then-count-lt1-clause-by_bytes c = omega (arith, c.if-count-lt1.true, number_length_law c.args.value (search rules))

pub returns-clause-by_bytes : goal.returns-clause-by_bytes
returns-clause-by_bytes c = omega (arith, c.if-count-lt1.false, number_length_law c.args.value (search rules))
