-- What the writers and the reader of a table hand to C and Rust.
use Rattle.table.specs.TableBytes.{TableRead}
use Rattle.std.specs.Prelude.{ℕ}
use Rattle.number.specs.Reply.{Reply, refuse, accept}
use Rattle.live.specs.declared.bytes.LiveWritten.{LiveWritten}
use Rattle.live.specs.declared.bytes.TableFound.{TableFound}

-- 0 and how many bytes were written, or the refusal and 0
abbrev pub live_written : Reply ℕ → LiveWritten
live_written (accept n) = record { answer = 0; count = n }
live_written (refuse k) = record { answer = k; count = 0 }

abbrev pub table_found : TableRead → TableFound
table_found r = record { answer = r.answer; table = r.table }
