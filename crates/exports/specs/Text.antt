-- The printed text, as a number of bytes.
use Rattle.std.specs.Prelude.{ℕ}
use Rattle.number.specs.Reply.{Reply, refuse, accept}

-- how many bytes were written; 0 where none were: no text is empty (`TextSome` of the crate `printed`)
abbrev pub text_length : Reply ℕ → ℕ
text_length (accept n) = n
text_length (refuse k) = 0
