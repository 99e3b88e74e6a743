-- The bytes of a line in hexadecimal, read one byte of the line after another. Where the line has something else it is wrong for good; the
-- bytes that were read before stay, and the rest is read by the same rules.
use Rattle.std.specs.Prelude.{ℕ, ◌+◌, ◌-◌, ◌*◌, ◌%◌, true, false, List, Option, Some, None, Result, Ok, Err, eqb, ltb, leb, set, drop, replicate}
use Rattle.script.specs.declared.Bytes.{Bytes}
use Rattle.script.specs.declared.BytesRead.{BytesRead}
use Rattle.script.specs.declared.Next.{Next}
use Rattle.script.specs.declared.Next.TheVariants.{Space, First, Second}
use Rattle.script.specs.Lines.{pick, read_all}

-- a digit's value
abbrev pub hexadecimal : ℕ → Option ℕ
hexadecimal b = pick (ltb b 48) None (pick (leb b 57) (Some (b - 48)) (pick (ltb b 65) None (pick (ltb 70 b) None (Some (b - 55)))))

-- the line has something else: the bytes that were read stay, and a space comes next
abbrev pub wrong_bytes : BytesRead → BytesRead
wrong_bytes r = record { bytes = r.bytes; next = Space; right = false }

-- the same bytes, and what comes next
abbrev pub with_next : Next → BytesRead → BytesRead
with_next next r = record { bytes = r.bytes; next = next; right = r.right }

-- a byte begins with a space
abbrev pub byte_begun : BytesRead → ℕ → BytesRead
byte_begun r b = pick (eqb b 32) (with_next First r) (wrong_bytes r)

-- then comes a digit
abbrev pub first_digit : BytesRead → Option ℕ → BytesRead
first_digit r None = wrong_bytes r
first_digit r (Some d) = with_next (Second d) r

-- the bytes and one more
abbrev pub with_byte : Bytes → ℕ → Bytes
with_byte l b = record { count = l.count + 1; values = set l.values l.count b }

-- then a second digit behind the first, if there is room for a byte more
abbrev pub second_digit : BytesRead → ℕ → Option ℕ → BytesRead
second_digit r high None = wrong_bytes r
second_digit r high (Some d) =
    pick (ltb r.bytes.count 128)
    (record { bytes = with_byte r.bytes (high % 16 * 16 + d % 16); next = Space; right = r.right })
    (wrong_bytes r)

-- one byte of the line is taken, by what comes next
abbrev pub step_from : Next → BytesRead → ℕ → BytesRead
step_from Space r b = byte_begun r b
step_from First r b = first_digit r (hexadecimal b)
step_from (Second high) r b = second_digit r high (hexadecimal b)

-- what is read once one byte of the line is taken
abbrev pub byte_step : BytesRead → ℕ → BytesRead
byte_step r b = step_from r.next r b

-- what is read once some bytes of the line are taken, one after another
abbrev pub byte_steps : BytesRead → List ℕ → BytesRead
byte_steps = read_all byte_step

-- nothing is read yet
abbrev pub no_bytes : BytesRead
no_bytes = record { bytes = record { count = 0; values = replicate 128 0 }; next = Space; right = true }

-- a space alone, or a digit alone, is no byte
abbrev pub whole : Next → BytesRead → BytesRead
whole Space r = r
whole First r = wrong_bytes r
whole (Second high) r = wrong_bytes r

-- and so at the end of the line
abbrev pub bytes_end : BytesRead → BytesRead
bytes_end r = whole r.next r

-- the bytes that were read: `Ok` if there was nothing else
abbrev pub bytes_reply : BytesRead → Result Bytes Bytes
bytes_reply r = pick r.right (Ok r.bytes) (Err r.bytes)

-- the bytes of a line from a place on
abbrev pub bytes_from : List ℕ → ℕ → Result Bytes Bytes
bytes_from line from = bytes_reply (bytes_end (byte_steps no_bytes (drop from line)))
