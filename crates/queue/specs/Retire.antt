-- How finished entries retire: "after each write or take, finished entries (stores written, loads taken) leave each side from
-- its oldest end until an unfinished one is oldest". "Each entry remembers how many queued entries of the other kind come before
-- it. The number falls as those leave and then stays 0."
use Rattle.std.specs.Prelude.{ℕ, ◌-◌, Bool, List, map, length}
use Rattle.number.specs.Basics.{front_while, after_while}
use Rattle.queue.specs.Entry.{Entry, with_before}
use Rattle.queue.specs.Contents.{Side, Contents, with_sides, holding}

-- a taken load, a written store
abbrev pub finished : Entry → Bool
finished e = e.finished

-- how many finished entries stand at the oldest end
abbrev pub retiring : List Entry → ℕ
retiring l = length (front_while finished l)

-- an entry after n of the other kind have retired
abbrev pub after_retiring : ℕ → Entry → Entry
after_retiring n e = with_before (e.before - n) e

-- a side once its finished entries have retired, and those of the other side
abbrev pub retired : Side → Side → Side
retired s other = holding s (map (after_retiring (retiring other.entries)) (after_while finished s.entries))

-- the queue once they have retired
abbrev pub retire : Contents → Contents
retire q = with_sides q (retired q.loads q.stores) (retired q.stores q.loads)
