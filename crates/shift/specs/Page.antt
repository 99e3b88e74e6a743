-- "From it print a page of 34 lines, each 40 characters and a line feed: a header, load ports 0 to 31, a footer."
use Rattle.std.specs.Prelude.{ℕ, zero, suc, ◌+◌, ◌-◌, ◌*◌, ◌<◌, ◌^◌, ◌≡◌, Bool, true, ◌&&◌, List, [], ◌∷◌, ◌++◌, map, eqb, leb, length, take, drop, replicate}
use Rattle.number.specs.Basics.{pick, all_of, flat_map, within}
use Rattle.number.specs.Refusal.{page_too_short}
use Rattle.number.specs.Reply.{accept}
use Rattle.number.specs.Number.{Wrote, unwritten}
use Rattle.number.specs.Texts.{bytes, decimal}
use Rattle.shift.specs.declared.ShiftRecord.{ShiftRecord}
use Rattle.shift.specs.Record.{takes_of, last_value_of, StoredRecord}

-- "other columns blank"
abbrev pub blanks : ℕ → List ℕ
blanks n = replicate n 32

-- "padded on the right with spaces"; "right-aligned"
abbrev pub pad_right : ℕ → List ℕ → List ℕ
pad_right width text = text ++ blanks (width - length text)

abbrev pub pad_left : ℕ → List ℕ → List ℕ
pad_left width text = blanks (width - length text) ++ text

-- "The header is `LOAD PORTS` and the footer `END`, padded on the right with spaces."
abbrev pub header : List ℕ
header = pad_right 40 (bytes "LOAD PORTS")

abbrev pub footer : List ℕ
footer = pad_right 40 (bytes "END")

-- "A port line has the port in columns 1 to 2, accepted takes in 7 to 16 and the last value taken in 31 to 40, all right-aligned,
-- other columns blank."
abbrev pub port_line : ℕ → ℕ → ℕ → List ℕ
port_line port takes value = pad_left 2 (decimal port) ++ blanks 4 ++ pad_left 10 (decimal takes) ++ blanks 14 ++ pad_left 10 (decimal value)

-- so many numbers from one on; the load ports
abbrev pub up_from : ℕ → ℕ → List ℕ
up_from n zero = []
up_from n (suc many) = n ∷ up_from (suc n) many

abbrev pub ports : List ℕ
ports = up_from 0 32

-- the lines of a page, whatever gives each port's takes and its last value
abbrev pub port_lines : (ℕ → ℕ) → (ℕ → ℕ) → List (List ℕ)
port_lines takes values = map (λ (port : ℕ). port_line port (takes port) (values port)) ports

abbrev pub page_lines : (ℕ → ℕ) → (ℕ → ℕ) → List (List ℕ)
page_lines takes values = header ∷ (port_lines takes values ++ footer ∷ [])

-- a line and its line feed
abbrev pub with_line_feed : List ℕ → List ℕ
with_line_feed line = line ++ bytes "\n"

abbrev pub page_with : (ℕ → ℕ) → (ℕ → ℕ) → List ℕ
page_with takes values = flat_map with_line_feed (page_lines takes values)

-- "a port with none shows 0 and 0", also of a record from elsewhere that has a value at such a port: 0 where there is no take
abbrev pub value_or_zero : ℕ → ℕ → ℕ
value_or_zero takes value = pick (eqb takes 0) 0 value

abbrev pub value_shown : ShiftRecord → ℕ → ℕ
value_shown r port = value_or_zero (takes_of r port) (last_value_of r port)

-- the page of a record
unfoldable pub page : ShiftRecord → List ℕ
page r = page_with (takes_of r) (value_shown r)

-- "41: page buffer under 1,394 bytes, the only check." Then nothing is written; else the page stands at the buffer's front, and the
-- bytes beyond keep their contents.
abbrev pub page_bytes : ℕ
page_bytes = 1394

unfoldable pub page_written : ShiftRecord → List ℕ → Wrote
page_written r buffer =
    pick (leb page_bytes (length buffer))
    (record { answer = accept page_bytes; buffer = page r ++ drop page_bytes buffer })
    (unwritten page_too_short buffer)

-- ---- what holds of every page; the proofs are proofs/Pages.antt

-- a line of 40 characters, none of which is a line feed
abbrev pub is_character : ℕ → Bool
is_character c = within 32 126 c

abbrev pub is_line : List ℕ → Bool
is_line line = eqb (length line) 40 && all_of is_character line

-- "a page of 34 lines, each 40 characters and a line feed"; "1,394 bytes"
pub record Shaped (r : ShiftRecord) : Type 0 where
  pub lines : length (page_lines (takes_of r) (value_shown r)) ≡ 34
  pub wide : all_of is_line (page_lines (takes_of r) (value_shown r)) ≡ true
  pub long : length (page r) ≡ page_bytes

abbrev pub PagesShaped : Type 0
PagesShaped = (r : ShiftRecord) → StoredRecord r → Shaped r

-- the characters of a line from one column to another, counted from 1
abbrev pub columns : ℕ → ℕ → List ℕ → List ℕ
columns first last line = take (suc last - first) (drop (first - 1) line)

-- Each field stands in its columns, whatever the record holds, and nothing else stands in a line.
pub record InColumns (port takes value : ℕ) (line : List ℕ) : Type 0 where
  pub wide : length line ≡ 40
  pub port_is : columns 1 2 line ≡ pad_left 2 (decimal port)
  pub blank_first : columns 3 6 line ≡ blanks 4
  pub takes_are : columns 7 16 line ≡ pad_left 10 (decimal takes)
  pub blank_next : columns 17 30 line ≡ blanks 14
  pub value_is : columns 31 40 line ≡ pad_left 10 (decimal value)

abbrev pub FieldsInColumns : Type 0
FieldsInColumns = (port takes value : ℕ) → port < 32 → takes < 2 ^ 32 → value < 2 ^ 32 → InColumns port takes value (port_line port takes value)

-- ten digits, as the greatest number of 32 bits has them, fill ten columns
abbrev pub TenDigits : Type 0
TenDigits = (length (decimal 4294967295) ≡ 10) × ((n : ℕ) → length (decimal n) ≡ 10 → pad_left 10 (decimal n) ≡ decimal n)

-- a page's line, by its number from 0, and what stands behind it
abbrev pub line_at : ℕ → List ℕ → List ℕ
line_at i text = take 40 (drop (41 * i) text)

abbrev pub behind_line : ℕ → List ℕ → List ℕ
behind_line i text = take 1 (drop (41 * i + 40) text)

-- Each line stands in its place of the page, each field of a port in its columns, and a line feed behind each line.
pub record LinesStand (r : ShiftRecord) : Type 0 where
  pub header_is : line_at 0 (page r) ≡ header
  pub ports_are : (port : ℕ) → port < 32 → line_at (suc port) (page r) ≡ port_line port (takes_of r port) (value_shown r port)
  pub fields_are : (port : ℕ) → port < 32 → InColumns port (takes_of r port) (value_shown r port) (line_at (suc port) (page r))
  pub footer_is : line_at 33 (page r) ≡ footer
  pub feeds : (i : ℕ) → i < 34 → behind_line i (page r) ≡ bytes "\n"

abbrev pub PagesStand : Type 0
PagesStand = (r : ShiftRecord) → StoredRecord r → LinesStand r

-- the number that stands in columns, digit by digit; blanks are passed over
abbrev pub number_from : ℕ → List ℕ → ℕ
number_from n [] = n
number_from n (c ∷ cs) = number_from (pick (eqb c 32) n (10 * n + (c - 48))) cs

abbrev pub number_in : ℕ → ℕ → List ℕ → ℕ
number_in first last line = number_from 0 (columns first last line)

-- A page is read back by its columns: records that show something else have another page.
abbrev pub record_in : List ℕ → ShiftRecord
record_in text = record {
  takes = map (λ (port : ℕ). number_in 7 16 (line_at (suc port) text)) ports;
  values = map (λ (port : ℕ). number_in 31 40 (line_at (suc port) text)) ports;
}

abbrev pub shown_record : ShiftRecord → ShiftRecord
shown_record r = record { takes = r.takes; values = map (value_shown r) ports }

abbrev pub PagesReadBack : Type 0
PagesReadBack = (r : ShiftRecord) → StoredRecord r → record_in (page r) ≡ shown_record r
