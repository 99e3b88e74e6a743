-- Laws of the whole text.
use Prim.Native.Nat.{ℕ, ◌≤◌, ◌<◌}
use mathlib.Core.Path.{◌≡◌, sym, ap, ◌∙◌}
use mathlib.Core.Bool.{Bool, true, false}
use Rattle.std.specs.Prelude.{Ok}
use Rattle.number.specs.Basics.{pick}
use mathlib.Core.List.{List, ◌++◌, map}
use native.Mathlib.Omega.{arith}
use native.Mathlib.Nat.{zero-add}
use lib.ListN.{length, take, drop, length-append, length-map}
use lib.Seq.{take_at}
use borrow.Author.Tests.{lt-leb, le-leb}
use Rattle.number.specs.Refusal.{too_short}
use Rattle.number.specs.Reply.{accept}
use Rattle.number.specs.Number.{unwritten, HasWritten, Puts}
use Rattle.number.proofs.SpliceLaws.{splice_front}
use Rattle.printed.specs.declared.files.FilesRun.{FilesRun}
use Rattle.replay.specs.Playing.{Logged, answer_of, given_of, word_of}
use Rattle.replay.specs.Replay.{Buffers}
use Rattle.replay.specs.Outcome.{at_front}
use Rattle.printed.specs.Files.{Files, run_of}
use Rattle.printed.specs.Text.{run_text, files_text, text}
use Rattle.printed.specs.Played.{zeroed}
use Rattle.printed.specs.Outcome.{most_text, printed}
use Rattle.printed.specs.Internal.{rows}
use Rattle.printed.proofs.LineLaws.{rows_log}
use Rattle.printed.proofs.FilesLaws.{Ran}

-- ---- the text of what was played
-- a list at a buffer's front is no longer than the buffer
front-few : (f : Logged → ℕ) (l : List Logged) (d : List ℕ) → length l ≤ length (at_front (map f l) d)
front-few f l d = omega (arith, length-append (map f l) (drop (length (map f l)) d), length-map l f)

-- a run as it was left: it fits in what was lent, and its lines are the text
pub record RunLeft (f : Files) (r : FilesRun) (memory : List ℕ) (b : Buffers) : Type 0 where
  pub answers : r.events ≤ length b.answers
  pub given : r.events ≤ length b.given
  pub values : r.events ≤ length b.values
  pub words-few : r.memory_length ≤ length memory
  pub text : run_text (take r.events (rows b.answers b.given b.values)) (take r.memory_length memory) r.counts ≡ files_text f

pub run_left : {memory₀ : List ℕ} {b₀ : Buffers} {f : Files} {played : FilesRun} {memory : List ℕ} {b : Buffers}
    → Ran memory₀ b₀ f played memory b → RunLeft f played memory b
run_left {memory₀} {b₀} {played = played} w =
    let r = run_of w.start in
    let m = r.left.machine.memory in
    rw (w.is, w.memory_is, w.buffers_are, w.many, w.counts) (record {
      answers = front-few answer_of r.log b₀.answers;
      given = front-few given_of r.log b₀.given;
      values = front-few word_of r.log b₀.values;
      words-few = omega (arith, length-append m (drop (length m) (zeroed memory₀)), w.long);
      text = rw (rows_log r.log _ _ _, take_at m (drop (length m) (zeroed memory₀)) played.memory_length (sym w.long));
    })

-- ---- what printing hands back
pub printed-short : (table trace out : List ℕ) → length out < most_text → printed table trace out ≡ unwritten too_short out
unfolding printed
printed-short table trace out h = rw (lt-leb most_text (length out) h)

pub printed-fits : (table trace out : List ℕ) → most_text ≤ length out
    → printed table trace out ≡ record {
      answer = accept (length (text table trace));
      buffer =
          text table trace ++ drop (length (text table trace)) out;
    }
unfolding printed
printed-fits table trace out h = rw (le-leb most_text (length out) h)

pub puts-front : {d bytes : List ℕ} {e : ℕ} {out : List ℕ} → Puts d 0 bytes e out → (e ≡ length bytes) × (out ≡ bytes ++ drop (length bytes) d)
puts-front {d} {bytes} w = (w.ends ∙ zero-add (length bytes), w.is ∙ splice_front d bytes)

-- what was written stands in the buffer that it was written into, where that was long enough
pub written-inside : (t : Bool) (text out : List ℕ) (k : ℕ) {n : ℕ} {left : List ℕ}
    → HasWritten (pick t (record { answer = accept (length text); buffer = text ++ drop (length text) out }) (unwritten k out)) (Ok n) left
    → n ≤ length left
written-inside true text out k {n} w =
    let long : n ≡ length text = let e = w.0 in cc in
    omega (arith, long, ap length w.1, length-append text (drop (length text) out))
written-inside false text out k w = let e = w.0 in let z : ◌≡◌ {A = ℕ} 0 1 = cc in absurd (omega arith)
