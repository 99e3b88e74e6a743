-- Replaying goes by the trace that its bytes are; the statements are specs/Traces.antt.
use mathlib.Core.Path.{◌≡◌, refl, sym, ap, ◌∙◌}
use Rattle.number.specs.Reply.{Reply, refuse, accept, and_then}
use Rattle.trace.specs.Event.{read_header}
use Rattle.trace.specs.Trace.{Trace, read_events, trace_bytes}
use Rattle.trace.proofs.Traces.{trace_of, trace-parts, trace_of_parts, traces_read_back, traces_are_written}
use Rattle.queue.specs.Contents.{Contents}
use Rattle.queue.specs.Open.{opened}
use Rattle.number.proofs.ReplyLaws.{and_then_accepts, then_read_accepts, of_accepted}
use Rattle.sequential.proofs.Run.{limits-opened}
use Rattle.replay.specs.Replay.{open_trace, events_behind, prepare, replay_start, replay}
use Rattle.replay.specs.Traces.{open_for, start_with, replay_on, trace_of_run}
use Rattle.replay.specs.Traces.{TracesPrepared, OnlyTracesPrepared, TracesReplayed, RunsAreWritten, WrittenPrepared, WrittenReplayed}

pub traces_prepared : TracesPrepared
unfolding prepare
traces_prepared gs bytes t e = let w = trace-parts bytes t e in rw (w.header, w.events)

pub only_traces_prepared : OnlyTracesPrepared
unfolding prepare
only_traces_prepared gs bytes s e₀ =
    let (q, opens, e₁) = and_then_accepts (open_trace gs (read_header bytes)) _ e₀ in
    let (h, rest, a, opens₁) = then_read_accepts (read_header bytes) _ opens in
    let (es, behind, e₂) = and_then_accepts (events_behind (read_header bytes)) (λ l. accept (start_with q (trace_of h l))) e₁ in
    let b : read_events rest ≡ accept es = sym (ap events_behind a) ∙ behind in
    (trace_of h es, trace_of_parts bytes rest h es a b, rw opens₁ e₂)

pub runs_are_written : RunsAreWritten
runs_are_written gs bytes s a e =
    let (t, read, starts) = only_traces_prepared gs bytes s e in
    let (q, opens, f) = and_then_accepts (open_for gs t) (λ x. accept (start_with x t)) starts in
    of_accepted (λ x. (x.queue.groups ≡ gs) × (bytes ≡ trace_bytes (trace_of_run x))) f (of-queue t q ((traces_are_written bytes t a).0 read).1
    (limits-opened gs _ _ _ _ q opens).1)
  where
    of-queue : (t : Trace) (q : Contents) → bytes ≡ trace_bytes t
        → opened gs t.header.load_depth t.header.store_depth t.header.first t.header.memory_length ≡ q
        → (q.groups ≡ gs) × (bytes ≡ trace_bytes (trace_of_run (start_with q t)))
    of-queue t q w is = rw (← is) (refl, w)

pub traces_replayed : TracesReplayed
unfolding replay
traces_replayed gs bytes t memory c b e = rw (traces_prepared gs bytes t e) (go (open_for gs t) refl)
  where
    go : (o : Reply Contents) → open_for gs t ≡ o → and_then (and_then o λ q. accept (start_with q t)) (replay_start memory c b) ≡ replay_on gs t memory c b
    go (refuse n) d = rw d
    go (accept q) d = rw (d, sym (ap (λ (x : Contents). x.memory_length) (limits-opened gs _ _ _ _ q d).1))

pub written-prepared : WrittenPrepared
written-prepared gs t f = traces_prepared gs (trace_bytes t) t (traces_read_back t f)

pub written-replayed : WrittenReplayed
written-replayed gs t memory c b f = traces_replayed gs (trace_bytes t) t memory c b (traces_read_back t f)
