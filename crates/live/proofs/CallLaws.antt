-- What a call on a queue's parts gives, told as numbers.
use mathlib.Core.Path.{◌≡◌, ap}
use Rattle.counts.specs.declared.Counts.{Counts}
use Rattle.queue.specs.declared.Queue.{Queue}
use Rattle.number.specs.Reply.{Reply, refuse, accept, and_then}
use Rattle.queue.specs.Serve.{Served}
use Rattle.queue.specs.Outcome.{Outcome, Counted, HandedCounts, Serves}
use Rattle.replay.specs.Playing.{given_in, word_in, after_serve}
use Rattle.live.specs.Internal.{told_of, told_served}
use Rattle.live.specs.Calls as Live
use Rattle.live.specs.Calls.{LiveTells, move_gives, take_gives, write_gives, serve_gives, memory_after}

-- what was handed back, as a live call tells it
abbrev told_handed : Outcome → Live.LiveTold
told_handed h = told_of h

pub serves-tell : (q : Queue) (c : Counts) (o : Counted) (rule : Reply Served) → Serves q c rule o
    → LiveTells q (and_then rule serve_gives) (told_served o) × (o.counts ≡ after_serve c rule)
serves-tell q c o (refuse n) e = (ap (λ (x : HandedCounts). told_handed x.outcome) e, ap (λ (x : HandedCounts). x.counts) e)
serves-tell q c o (accept s) a = (
  record { answer = a.answer; given = ap given_in a.gives; value = ap word_in a.gives; holds = a.holds },
  a.counts,
)
