-- Laws of playing one event: what the contract of its call says is what the definition of playing gives.
use Prim.Native.Nat.{ℕ}
use mathlib.Core.Path.{◌≡◌, refl, sym, ap, ap₂, ◌∙◌}
use mathlib.Core.Bool.{true}
use mathlib.Core.List.{List}
use mathlib.Core.Option.{none}
use Rattle.trace.specs.declared.Event.{Event}
use Rattle.trace.specs.declared.Event.TheVariants.{Activate, LoadAddress, StoreAddress, StoreData, Serve, Write, Take}
use Rattle.counts.specs.declared.Counts.{Counts}
use Rattle.queue.specs.declared.arguments.Argument.{Argument}
use Rattle.queue.specs.declared.Queue.{Queue}
use Rattle.number.specs.Reply.{Reply, refuse, accept}
use Rattle.queue.specs.Contents.{Contents, contents_of}
use Rattle.queue.specs.Activate.{activate}
use Rattle.queue.specs.Arguments.{give}
use Rattle.queue.specs.Serve.{Served, serve}
use Rattle.queue.specs.Write.{Written, write}
use Rattle.queue.specs.Take.{Taken, take_rule}
use Rattle.queue.specs.Outcome.{Outcome, Counted, no_value, HandedCounts, Moves, Takes, Serves, Writes, with_counts}
use Rattle.queue.specs.Parts.{whole, on_parts}
use Rattle.sequential.specs.Answers.{Machine, Response, move_response, serve_response, write_response, take_response, machine}
use Rattle.replay.specs.Playing.{Playing, playing, step_of, counts_after, after_serve}
use Rattle.replay.specs.Internal.{Plays}

abbrev made : Machine → Counts → Playing
made m c = record { machine = m; counts = c }

module _ (q : Queue) (c : Counts) (m : List ℕ) (e : Event) where
  abbrev now : Playing
  now = playing (contents_of q) m c

  -- what a step gives, piece by piece
  from_step : (s : Response) (r : Counted) (left : List ℕ) → step_of now e ≡ s → s.number ≡ r.answer → s.value ≡ r.value
      → s.machine ≡ machine (contents_of r.queue) left → counts_after now e ≡ r.counts → Plays q c m e r left
  from_step s r left is number value next counts = record {
    answer = ap (λ (x : Response). x.number) is ∙ number;
    value = ap (λ (x : Response). x.value) is ∙ value;
    next = ap₂ made (ap (λ (x : Response). x.machine) is ∙ next) counts;
  }

  -- a refused call plays nothing
  refused-plays : {n : ℕ} (o : Outcome) (left : List ℕ) → step_of now e ≡ record { number = n; value = none; machine = machine (contents_of q) m }
      → o ≡ no_value n q → left ≡ m → counts_after now e ≡ c → Plays q c m e (with_counts o c) left
  refused-plays o left is h same counts =
      from_step _ (with_counts o c) left is (sym (ap (λ (x : Outcome). x.answer) h)) (sym (ap (λ (x : Outcome). x.value) h))
      (ap₂ machine (sym (ap (λ (x : Outcome). contents_of x.queue) h)) (sym same)) counts

  moves-play : (rule : Reply Contents) (o : Outcome) → step_of now e ≡ move_response (machine (contents_of q) m) rule → counts_after now e ≡ c
      → Moves q rule o → Plays q c m e (with_counts o c) m
  moves-play (refuse n) o is counts w = refused-plays o m is w refl counts
  moves-play (accept next) o is counts w = from_step _ (with_counts o c) m is (sym w.answer) (sym w.gives)
      (ap (λ (x : Contents). machine x m) (sym w.holds)) counts

  takes-play : (rule : Reply Taken) (o : Outcome) → step_of now e ≡ take_response (machine (contents_of q) m) rule → counts_after now e ≡ c
      → Takes q rule o → Plays q c m e (with_counts o c) m
  takes-play (refuse n) o is counts w = refused-plays o m is w refl counts
  takes-play (accept t) o is counts w = from_step _ (with_counts o c) m is (sym w.answer) (sym w.gives)
      (ap (λ (x : Contents). machine x m) (sym w.holds)) counts

  writes-play : (rule : Reply Written) (o : Outcome) (left : List ℕ) → step_of now e ≡ write_response (machine (contents_of q) m) rule
      → counts_after now e ≡ c → Writes q m rule o left → Plays q c m e (with_counts o c) left
  writes-play (refuse n) o left is counts w = refused-plays o left is w.outcome w.memory_is counts
  writes-play (accept t) o left is counts w = from_step _ (with_counts o c) left is (sym w.outcome.answer) (sym w.outcome.gives)
      (ap₂ machine (sym w.outcome.holds) (sym w.memory_is)) counts

  serves-play : (rule : Reply Served) (r : Counted) → step_of now e ≡ serve_response (machine (contents_of q) m) rule
      → counts_after now e ≡ after_serve c rule → Serves q c rule r → Plays q c m e r m
  serves-play (refuse n) r is counts w =
      let h = ap (λ (x : HandedCounts). x.outcome) w in
      from_step _ r m is (sym (ap (λ (x : Outcome). x.answer) h)) (sym (ap (λ (x : Outcome). x.value) h))
      (sym (ap (λ (x : Outcome). machine (contents_of x.queue) m) h)) (counts ∙ sym (ap (λ (x : HandedCounts). x.counts) w))
  serves-play (accept s) r is counts w = from_step _ r m is (sym w.answer) (sym w.gives) (ap (λ (x : Contents). machine x m) (sym w.holds))
      (counts ∙ sym w.counts)

-- the event that an argument is given by
abbrev pub giving : Argument → ℕ → ℕ → Event
giving Argument.LoadAddress p a = LoadAddress p a
giving Argument.StoreAddress p a = StoreAddress p a
giving Argument.StoreData p w = StoreData p w

-- the same for each kind of event, where the runs of entries are whole
module _ (q : Queue) (c : Counts) (m : List ℕ) (full : whole q.load_entries q.store_entries ≡ true) where
  -- a rule on the parts
  abbrev on_runs : {A : Type 0} → Reply A → Reply A
  on_runs rule = on_parts q.load_entries q.store_entries rule

  pub play-activate : {e : Event} (g : ℕ) (o : Outcome) → e ≡ Activate g → Moves q (on_runs (activate (contents_of q) g)) o
      → Plays q c m e (with_counts o c) m
  play-activate g o is w = rw is (moves-play q c m (Activate g) (activate (contents_of q) g) o refl refl (rw full at w))

  pub play-give : {e : Event} (argument : Argument) (p x : ℕ) (o : Outcome) → e ≡ giving argument p x
      → Moves q (on_runs (give argument (contents_of q) p x)) o → Plays q c m e (with_counts o c) m
  play-give argument p x o is w =
      rw is (moves-play q c m (giving argument p x) (give argument (contents_of q) p x) o (stepped argument) (uncounted argument) (rw full at w))
    where
      stepped : (a : Argument) → step_of (playing (contents_of q) m c) (giving a p x) ≡ move_response (machine (contents_of q) m) (give a (contents_of q) p x)
      stepped Argument.LoadAddress = refl
      stepped Argument.StoreAddress = refl
      stepped Argument.StoreData = refl

      uncounted : (a : Argument) → counts_after (playing (contents_of q) m c) (giving a p x) ≡ c
      uncounted Argument.LoadAddress = refl
      uncounted Argument.StoreAddress = refl
      uncounted Argument.StoreData = refl

  pub play-serve : {e : Event} (s : ℕ) (r : Counted) → e ≡ Serve s → Serves q c (on_runs (serve (contents_of q) m s)) r → Plays q c m e r m
  play-serve s r is w = rw is (serves-play q c m (Serve s) (serve (contents_of q) m s) r refl refl (rw full at w))

  pub play-write : {e : Event} (s : ℕ) (o : Outcome) (left : List ℕ) → e ≡ Write s → Writes q m (on_runs (write (contents_of q) m s)) o left
      → Plays q c m e (with_counts o c) left
  play-write s o left is w = rw is (writes-play q c m (Write s) (write (contents_of q) m s) o left refl refl (rw full at w))

  pub play-take : {e : Event} (p : ℕ) (o : Outcome) → e ≡ Take p → Takes q (on_runs (take_rule (contents_of q) p)) o → Plays q c m e (with_counts o c) m
  play-take p o is w = rw is (takes-play q c m (Take p) (take_rule (contents_of q) p) o refl refl (rw full at w))
