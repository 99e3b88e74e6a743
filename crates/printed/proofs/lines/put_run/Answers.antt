use Prim.Native.Nat.{ℕ, ◌+◌, ◌*◌, ◌≤◌}
use mathlib.Core.List.{List, ◌++◌}
use mathlib.Core.Path.{◌≡◌, ap}
use native.Mathlib.Omega.{arith}
use lib.ListN.{length, take, length-append}
use lib.Seq.{length-take-le}
use borrow.Author.Rules.{rules}
use Rattle.printed.specs.Text.{event_lines, word_lines, counts_line}
use Rattle.printed.specs.Internal.{rows}
use Rattle.number.proofs.PutLaws.{puts_as, puts-length, puts-puts, both, both_end, both_long}
use Rattle.printed.proofs.LineLaws.{rows_front, rows-text-few, words-few}
use Rattle.printed.proofs.lines.put_run.Goals as goal
use Rattle.printed.proofs.lines.put_run.Goals.{After-put_events-place}

-- the lines of the events, and those of the memory
abbrev events : After-put_events-place → List ℕ
events c =
    let r = c.args.room.now in
    let n = c.args.run.events in
    event_lines 1 (rows (take n r.answers) (take n r.given) (take n r.values))

abbrev words : After-put_events-place → List ℕ
words c = word_lines 0 (take c.args.run.memory_length c.args.room.now.memory)

-- they fit, and the line of the counts behind them
fits : (c : After-put_events-place) → length (events c) + length (words c) + 85 ≤ length c.args.out.now
fits c =
    let r = c.args.room.now in
    let n = c.args.run.events in
    let w = c.requires in
    let a : length r.answers ≡ 16384 = search rules in
    let m : length r.memory ≡ 4096 = search rules in
    let few : length (events c) ≤ 63 * n = rw (rows_front r.answers r.given r.values n)
    (rows-text-few r.answers r.given r.values n w.events_hold w.given_hold w.values_hold n (omega arith)) in
    let long = length-take-le c.args.run.memory_length r.memory w.words_hold in
    omega (arith, few, words-few 0 (take c.args.run.memory_length r.memory), long, w.events_hold, w.words_hold, a, m, w.room)

pub put_events-place-requires : goal.put_events-place-requires
put_events-place-requires c =
    let r = c.args.room.now in
    let n = c.args.run.events in
    let w = c.requires in
    let a : length r.answers ≡ 16384 = search rules in
    let answers = length-take-le n r.answers w.events_hold in (
      omega (arith, answers, length-take-le n r.given w.given_hold),
      omega (arith, answers, length-take-le n r.values w.values_hold),
      omega (arith, answers, w.events_hold, a, w.room),
    )

pub put_words-place-requires : goal.put_words-place-requires
put_words-place-requires c =
    let r = c.args.room.now in
    let w = c.requires in
    let a : length r.answers ≡ 16384 = search rules in
    let m : length r.memory ≡ 4096 = search rules in
    let p = (goal.at.put_words-place-requires c).After-put_events-place in
    let long = length-take-le c.args.run.memory_length r.memory w.words_hold in
    let few : length (events p) ≤ 63 * c.args.run.events = rw (rows_front r.answers r.given r.values c.args.run.events)
    (rows-text-few r.answers r.given r.values c.args.run.events w.events_hold w.given_hold w.values_hold c.args.run.events (omega arith)) in
    let put = c.put_events-place.ensures in
    omega (arith, few, put.ends, puts-length put (omega (arith, fits p)), long, w.events_hold, w.words_hold, a, m, w.room)

pub put_counts-requires : goal.put_counts-requires
put_counts-requires c =
    let h = fits (goal.at.put_counts-requires c).After-put_events-place in
    let v = c.put_events-place.ensures in
    let w = c.put_words-place.ensures in
    omega (arith, h, both_end v w (omega (arith, h)), both_long v w (omega (arith, h)))

pub returns : goal.returns
returns c =
    let p = (goal.at.returns c).After-put_events-place in
    let r = c.args.room.now in
    let h = fits p in
    let lines = both c.put_events-place.ensures c.put_words-place.ensures (omega (arith, h)) in
    puts_as (ap (λ rows. event_lines 1 rows ++ words p ++ counts_line c.args.run.counts) (rows_front r.answers r.given r.values c.args.run.events))
    (puts-puts lines (omega (arith, h, length-append (events p) (words p))) c.put_counts.ensures)
