-- A number's digits are those of its tenth, and one more. The measure is how many digits may still stand before.
use Rattle.printed.proofs.put.+put_digits.Given as goal

abbrev pub decreases-put_digits : goal.decreases-put_digits
decreases-put_digits l = l.more
