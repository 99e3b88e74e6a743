-- Laws of playing events: what is logged, and the memory's length.
use mathlib.Core.Path.{◌≡◌, refl, ◌∙◌}
use mathlib.Core.List.{List, [], ◌∷◌}
use lib.ListN.{length, length-replicate, length-set}
use Rattle.trace.specs.declared.Event.{Event}
use Rattle.sequential.specs.Calls.{Call}
use Rattle.sequential.specs.Answers.{Machine, Response}
use Rattle.sequential.proofs.Accepted.{Stepped, refused, activated, gave, served, wrote, took, readied, stepped}
use Rattle.replay.specs.Playing.{Playing, call_of, played, played_all}
use Rattle.replay.specs.Replay.{Start}
use Rattle.replay.proofs.ReplayLaws.{log-many}
use Rattle.printed.specs.Files.{run_of}

-- ---- a memory keeps its length
step-long : (m : Machine) {c : Call} {s : Response} → Stepped m c s → length s.machine.memory ≡ length m.memory
step-long m (refused n nonzero low) = refl
step-long m (activated g is fits) = refl
step-long m (gave ranged waited) = refl
step-long m (served l at s) = refl
step-long m (wrote s at w) = length-set m.memory w.put.address w.put.word
step-long m (took l v at has) = refl
step-long m (readied n low) = refl

played-long : (p : Playing) (es : List Event) → length (played_all p es).machine.memory ≡ length p.machine.memory
played-long p [] = refl
played-long p (e ∷ es) = played-long (played p e) es ∙ step-long p.machine (stepped p.machine (call_of p.counts e))

-- ---- a run
pub run-many : (s : Start) → length (run_of s).log ≡ length s.events
run-many s = log-many _ s.events

pub run_long : (s : Start) → length (run_of s).left.machine.memory ≡ s.queue.memory_length
run_long s = played-long _ s.events ∙ length-replicate s.queue.memory_length 0
