-- What printing hands back. "Here and wherever else bytes are written to a lent buffer, those beyond keep their contents."
use Rattle.std.specs.Prelude.{ℕ, ◌+◌, ◌*◌, ◌≤◌, ◌<◌, List, ◌++◌, leb, length, drop}
use Rattle.number.specs.Basics.{pick}
use Rattle.number.specs.Refusal.{too_short}
use Rattle.number.specs.Reply.{accept}
use Rattle.number.specs.Number.{Wrote, unwritten}
use Rattle.printed.specs.Files.{most_bytes}
use Rattle.printed.specs.Text.{text}

-- No text is longer (`TextFits`): an event's line takes at most 63 bytes and there are no more events than bytes, a word's line takes at
-- most 47, and the last line at most 85.
abbrev pub most_text : ℕ
most_text = 63 * most_bytes + 47 * 4096 + 85

abbrev pub TextFits : Type 0
TextFits = (table trace : List ℕ) → length (text table trace) ≤ most_text

-- no text is empty: a fault's line, or the line of the counts, is always there
abbrev pub TextSome : Type 0
TextSome = (table trace : List ℕ) → 0 < length (text table trace)

-- the text at the front of a buffer that has room for every text; else 10, and nothing is written
unfoldable pub printed : List ℕ → List ℕ → List ℕ → Wrote
printed table trace buffer =
    pick (leb most_text (length buffer))
    (record { answer = accept (length (text table trace)); buffer = text table trace ++ drop (length (text table trace)) buffer })
    (unwritten too_short buffer)
