-- The queue as a window of the log. On each side the log's entries are some old ones, all finished, and then the live ones; a
-- side of the queue holds the live ones, each with its remembered number lowered by the number of the OTHER side's old ones.
-- Truncated minus is "falls as those leave and then stays 0", so that the remembered numbers need no proof of their own.
use Prim.Native.Nat.{ℕ, suc, ◌+◌, ◌-◌, ◌≤◌}
use native.Mathlib.Nat.{zero-add}
use native.Mathlib.Omega.{arith}
use mathlib.Core.Path.{◌≡◌, refl, sym, ap, ◌∙◌}
use mathlib.Core.Bool.{Bool, true, false, not}
use mathlib.Core.List.{List, [], ◌∷◌, ◌++◌, map, append_assoc, append_cancel_left, map-append, map-map}
use mathlib.Core.Option.{Option, none, some}
use lib.Dec.{leb}
use lib.ListN.{length, take, length-append, length-map, get_elem?}
use lib.Seq.{take_at}
use borrow.Author.Tests.{le-leb, leb-true}
use Rattle.number.specs.Basics.{all_of, front_while, after_while, is_some}
use Rattle.table.proofs.Order.{front_while-after_while}
use Rattle.queue.specs.Entry.{Entry, with_before}
use Rattle.queue.specs.Contents.{update_at}
use Rattle.queue.specs.Retire.{finished, retiring, after_retiring}
use Rattle.queue.proofs.Lists.{false-true, all_left, all_right, all_join, all_take, all_map, all-weaken, all-weaken₂, take-append, take-map}
use Rattle.queue.proofs.Lists.{get_elem?-map, map_same, failing-behind, get_elem?_split, get_elem?_seam, update_at_seam, all_front_while, after_while-map}
use Rattle.queue.proofs.Lists.{length_front_while_map}
use Rattle.sequential.specs.Plain.{cons_option}
use Rattle.sequential.proofs.Log.{LogEntry, Opposite, Placed, place, placed_entry, side, own_in, own, put, own_put, others, counting}
use Rattle.sequential.proofs.Log.{side-append, map-side, side-length, side_before, side-split}
use Rattle.queue.specs.declared.Kind.{Kind}

-- an entry as the queue shows it, where `gone` of the other side have left
abbrev pub shown : ℕ → Placed → Entry
shown out x = with_before (x.before - out) x.entry

abbrev pub is_over : Placed → Bool
is_over x = finished x.entry

-- one side, where `gone` of its own and `out` of the other side have left
pub record Window (K : Kind) (log : List LogEntry) (gone out : ℕ) (held : List Entry) : Type 0 where
  pub old : List Placed
  pub live : List Placed
  pub parts : side K 0 log ≡ old ++ live
  pub many : length old ≡ gone
  pub ended : all_of is_over old ≡ true
  pub shows : held ≡ map (shown out) live

-- both sides
pub record Windows (K K' : Kind) (log : List LogEntry) (held held' : List Entry) : Type 0 where
  pub gone : ℕ
  pub gone' : ℕ
  pub ours : Window K log gone gone' held
  pub theirs : Window K' log gone' gone held'

pub turned : {K K' : Kind} {log : List LogEntry} {held held' : List Entry} → Windows K K' log held held'
    → Windows K' K log held' held
turned w = record { gone = w.gone'; gone' = w.gone; ours = w.theirs; theirs = w.ours }

-- The entries of a kind in the first part of the log, beside those of them that are still queued: the others are finished.
pub record Before (K : Kind) (queued : List Entry) (pre : List LogEntry) : Type 0 where
  pub out : ℕ
  pub past : List Placed
  pub rest : List Placed
  pub parts : own_in K pre ≡ map placed_entry past ++ map placed_entry rest
  pub ended : all_of is_over past ≡ true
  pub shows : queued ≡ map (shown out) rest

-- A queued entry and its place in the log: all that the calls need of the window.
pub record Located (K K' : Kind) (log : List LogEntry) (held held' : List Entry)
    (i : ℕ) (pre : List LogEntry) (it : Entry) (post : List LogEntry) : Type 0 where
  pub log_is : log ≡ pre ++ put K it ∷ post
  -- the queue shows it with this remembered number
  pub number : ℕ
  pub at : get_elem? held i ≡ some (with_before number it)
  -- as many of its kind come before it in the log as have left and stand before it in the queue
  pub nth : length (own_in K pre) + length held ≡ length (own_in K log) + i
  -- the entries before it, of its own side and of the other
  pub before : Before K (take i held) pre
  pub before' : Before K' (take number held') pre
  -- both sides after it is made anew
  pub anew : (f : Entry → Entry) → ((n : ℕ) (a : Entry) → f (with_before n a) ≡ with_before n (f a))
      → Windows K K' (pre ++ put K (f it) ∷ post) (update_at f i held) held'

-- ---- what a test says of the queue's part it says of the log's, and back

module _ {K : Kind} {queued : List Entry} {pre : List LogEntry} (b : Before K queued pre) (p : Entry → Bool) (blind : (n : ℕ) (a : Entry)
    → p (with_before n a) ≡ p a) where
  -- the queue's part, for a test that does not look at remembered numbers
  queued-all : all_of p queued ≡ all_of (λ x. p x.entry) b.rest
  queued-all = rw b.shows (all_map p (λ x. p x.entry) (shown b.out) (λ x. blind (x.before - b.out) x.entry) b.rest)

  rest_all : all_of p (map placed_entry b.rest) ≡ all_of (λ x. p x.entry) b.rest
  rest_all = all_map p (λ x. p x.entry) placed_entry (λ x. refl) b.rest

  -- from the log to the queue
  pub before-queued : all_of p (own_in K pre) ≡ true → all_of p queued ≡ true
  before-queued h = queued-all ∙ sym rest_all ∙ all_right p (map placed_entry b.past) (map placed_entry b.rest) (rw b.parts at h)

  -- what has left passes since it is finished, and right
  module _ (right : Entry → Bool) (w : (a : Entry) → right a ≡ true → finished a ≡ true → p a ≡ true) (h : all_of right (own_in K pre) ≡ true) where
    pub past-passes : all_of p (map placed_entry b.past) ≡ true
    past-passes =
        all-weaken₂ right finished p w (map placed_entry b.past)
        (all_left right (map placed_entry b.past) (map placed_entry b.rest) (rw b.parts at h))
        (all_map finished is_over placed_entry (λ x. refl) b.past ∙ b.ended)

    -- from the queue to the log
    pub before-log : all_of p queued ≡ true → all_of p (own_in K pre) ≡ true
    before-log k = rw b.parts (all_join p (map placed_entry b.past) (map placed_entry b.rest) past-passes (rest_all ∙ sym queued-all ∙ k))

module _ (K K' : Kind) (opposite : Opposite K K') where
  -- as many others as the other kind has
  pub others-length : (es : List LogEntry) → others K es ≡ length (own_in K' es)
  others-length [] = refl
  others-length (e ∷ es) = go (own K e) (own K' e) (opposite e) (others-length es)
    where
      go : (o : Option Entry) (o' : Option Entry) → is_some o ≡ not (is_some o') → others K es ≡ length (own_in K' es)
          → counting o (others K es) ≡ length (cons_option o' (own_in K' es))
      go none none t h = false-true t
      go none (some b) t h = ap suc h
      go (some a) none t h = h
      go (some a) (some b) t h = false-true (sym t)

  pub put_other : (a : Entry) → own K' (put K a) ≡ none
  put_other a = go (own K' (put K a)) (rw (own_put K a) at (opposite (put K a)))
    where
      go : (o : Option Entry) → true ≡ not (is_some o) → o ≡ none
      go none t = refl
      go (some b) t = false-true (sym t)

  side-put : (n : ℕ) (a : Entry) (es : List LogEntry) → side K n (put K a ∷ es) ≡ place n a ∷ side K n es
  side-put n a es = rw (own_put K a)

  -- the other side does not see which entry of this kind it is
  side'-put : (a a' : Entry) (pre post : List LogEntry) → side K' 0 (pre ++ put K a ∷ post) ≡ side K' 0 (pre ++ put K a' ∷ post)
  side'-put a a' pre post = rw (side-append K' 0 pre (put K a ∷ post), side-append K' 0 pre (put K a' ∷ post), put_other a, put_other a')

  -- ---- a queued entry, located

  module _ {log : List LogEntry} (pre post : List LogEntry) (it : Entry) (log_is : log ≡ pre ++ put K it ∷ post)
      {gone gone' : ℕ} {held held' : List Entry} (w : Window K log gone gone' held) (w' : Window K' log gone' gone held')
      (near : List Placed) (Pre-is : side K 0 pre ≡ w.old ++ near) where
    side-is : (a : Entry) → side K 0 (pre ++ put K a ∷ post) ≡ w.old ++ (near ++ place (others K pre) a ∷ side K (others K pre) post)
    side-is a =
        side-append K 0 pre (put K a ∷ post)
        ∙ rw (zero-add (others K pre), side-put (others K pre) a post, Pre-is)
        (append_assoc w.old near (place (others K pre) a ∷ side K (others K pre) post))

    live-is : w.live ≡ near ++ place (others K pre) it ∷ side K (others K pre) post
    live-is = append_cancel_left w.old w.live (near ++ place (others K pre) it ∷ side K (others K pre) post) (sym w.parts
        ∙ ap (side K 0) log_is ∙ side-is it)

    held-is : held ≡ map (shown gone') near ++ shown gone' (place (others K pre) it) ∷ map (shown gone') (side K (others K pre) post)
    held-is = rw (w.shows, live-is) (map-append (shown gone') near (place (others K pre) it ∷ side K (others K pre) post))

    i-is : length (map (shown gone') near) ≡ length near
    i-is = length-map near (shown gone')

    located-at : get_elem? held (length near) ≡ some (shown gone' (place (others K pre) it))
    located-at = rw (held-is, ← i-is)
        (get_elem?_seam (map (shown gone') near) (shown gone' (place (others K pre) it))
        (map (shown gone') (side K (others K pre) post)))

    located-nth : length (own_in K pre) + length held ≡ length (own_in K log) + length near
    located-nth =
        let first_part = sym (side-length K 0 pre) ∙ ap length Pre-is ∙ length-append w.old near in
        let whole = sym (side-length K 0 log) ∙ ap length w.parts ∙ length-append w.old w.live in
        let queued = ap length w.shows ∙ length-map w.live (shown gone') in
        omega arith

    located-before : Before K (take (length near) held) pre
    located-before = record {
      out = gone';
      past = w.old;
      rest = near;
      parts = sym (map-side K 0 pre) ∙ ap (map placed_entry) Pre-is ∙ map-append placed_entry w.old near;
      ended = w.ended;
      shows = rw held-is (take_at (map (shown gone') near)
          (shown gone' (place (others K pre) it) ∷ map (shown gone') (side K (others K pre) post)) (length near) i-is);
    }

    -- the other side's entries of the first part
    side'-pre : side K' 0 pre ≡ take (others K pre) w'.old ++ take (others K pre - gone') w'.live
    side'-pre =
        sym (take_at (side K' 0 pre) (side K' (0 + others K' pre) (put K it ∷ post)) (others K pre) (side-length K' 0 pre ∙ sym (others-length pre)))
        ∙ ap (take (others K pre)) (sym (side-append K' 0 pre (put K it ∷ post)) ∙ ap (side K' 0) (sym log_is) ∙ w'.parts)
        ∙ take-append (others K pre) w'.old w'.live
        ∙ ap (λ (k : ℕ). take (others K pre) w'.old ++ take (others K pre - k) w'.live) w'.many

    located-before' : Before K' (take (others K pre - gone') held') pre
    located-before' = record {
      out = gone;
      past = take (others K pre) w'.old;
      rest = take (others K pre - gone') w'.live;
      parts = sym (map-side K' 0 pre) ∙ ap (map placed_entry) side'-pre
          ∙ map-append placed_entry (take (others K pre) w'.old) (take (others K pre - gone') w'.live);
      ended = all_take is_over (others K pre) w'.old w'.ended;
      shows = rw w'.shows (take-map (shown gone) (others K pre - gone') w'.live);
    }

    updated : (f : Entry → Entry) → ((n : ℕ) (a : Entry) → f (with_before n a) ≡ with_before n (f a))
        → update_at f (length (map (shown gone') near))
        (map (shown gone') near ++ shown gone' (place (others K pre) it) ∷ map (shown gone') (side K (others K pre) post))
        ≡ map (shown gone') near ++ shown gone' (place (others K pre) (f it)) ∷ map (shown gone') (side K (others K pre) post)
    updated f blind =
        update_at_seam f (map (shown gone') near) (shown gone' (place (others K pre) it))
        (map (shown gone') (side K (others K pre) post))
        ∙ rw (blind (others K pre - gone') it)

    located-anew : (f : Entry → Entry) → ((n : ℕ) (a : Entry) → f (with_before n a) ≡ with_before n (f a))
        → Windows K K' (pre ++ put K (f it) ∷ post) (update_at f (length near) held) held'
    located-anew f blind = record {
      gone = gone;
      gone' = gone';
      ours = record {
        old = w.old;
        live = near ++ place (others K pre) (f it) ∷ side K (others K pre) post;
        parts = side-is (f it);
        many = w.many;
        ended = w.ended;
        shows = rw (held-is, map-append (shown gone') near (place (others K pre) (f it) ∷ side K (others K pre) post), ← i-is) (updated f blind);
      };
      theirs = record {
        old = w'.old;
        live = w'.live;
        parts = side'-put (f it) it pre post ∙ ap (side K' 0) (sym log_is) ∙ w'.parts;
        many = w'.many;
        ended = w'.ended;
        shows = w'.shows;
      };
    }

    pub located : Located K K' log held held' (length near) pre it post
    located = record {
      log_is = log_is;
      number = others K pre - gone';
      at = located-at;
      nth = located-nth;
      before = located-before;
      before' = located-before';
      anew = located-anew;
    }

  -- the entry at a place of the queue
  pub locate : {log : List LogEntry} {held held' : List Entry} → Windows K K' log held held' → (i : ℕ) {x : Entry} → get_elem? held i ≡ some x
      → (pre : List LogEntry) × (it : Entry) × (post : List LogEntry) × Located K K' log held held' i pre it post
  locate {log} {held} {held'} w i {x} h = at-live (get_elem?-map (shown w.gone') w.ours.live i (rw w.ours.shows at h))
    where
      at-log : (near far : List Placed) (y : Placed) → w.ours.live ≡ near ++ y ∷ far → length near ≡ i
          → ((pre post : List LogEntry) × (log ≡ pre ++ put K y.entry ∷ post) × (side K 0 pre ≡ w.ours.old ++ near))
          → (pre : List LogEntry) × (it : Entry) × (post : List LogEntry) × Located K K' log held held' i pre it post
      at-log near far y e l (pre, post, log_is, Pre-is) = (pre, y.entry, post, rw l at (located pre post y.entry log_is w.ours w.theirs near Pre-is))

      at_place : (y : Placed) → ((near far : List Placed) × (w.ours.live ≡ near ++ y ∷ far) × (length near ≡ i))
          → (pre : List LogEntry) × (it : Entry) × (post : List LogEntry) × Located K K' log held held' i pre it post
      at_place y (near, far, e, l) =
          at-log near far y e l (side-split K 0 log (w.ours.old ++ near) y far (w.ours.parts ∙ rw e (sym (append_assoc w.ours.old near (y ∷ far)))))

      at-live : (y : Placed) × (get_elem? w.ours.live i ≡ some y) → (pre : List LogEntry) × (it : Entry) × (post : List LogEntry)
          × Located K K' log held held' i pre it post
      at-live (y, e) = at_place y (get_elem?_split w.ours.live i e)

  -- an unfinished entry of the log has a place in the queue
  pub unfinished-queued : {log : List LogEntry} {held held' : List Entry} → Windows K K' log held held'
      → (pre : List LogEntry) (it : Entry) (post : List LogEntry)
      → log ≡ pre ++ put K it ∷ post → finished it ≡ false → (i : ℕ) × Located K K' log held held' i pre it post
  unfinished-queued {log} {held} {held'} w pre it post log_is f =
      go (failing-behind is_over (side K 0 pre) (place (others K pre) it) (side K (others K pre) post) w.ours.old w.ours.live parts
      w.ours.ended f)
    where
      parts : side K 0 pre ++ place (others K pre) it ∷ side K (others K pre) post ≡ w.ours.old ++ w.ours.live
      parts = sym (side-append K 0 pre (put K it ∷ post) ∙ rw (zero-add (others K pre), side-put (others K pre) it post))
          ∙ ap (side K 0) (sym log_is) ∙ w.ours.parts

      go : (near : List Placed) × (side K 0 pre ≡ w.ours.old ++ near) → (i : ℕ) × Located K K' log held held' i pre it post
      go (near, Pre-is) = (length near, located pre post it log_is w.ours w.theirs near Pre-is)

  -- ---- the whole window

  -- all of the log, beside all that is queued
  pub window-before : {log : List LogEntry} {gone out : ℕ} {held : List Entry} → Window K log gone out held → Before K held log
  window-before {log} {out = out} w = record {
    out = out;
    past = w.old;
    rest = w.live;
    parts = sym (map-side K 0 log) ∙ ap (map placed_entry) w.parts ∙ map-append placed_entry w.old w.live;
    ended = w.ended;
    shows = w.shows;
  }

  -- of the other side `gone` have left, and the others are queued
  pub others-queued : (log : List LogEntry) {gone gone' : ℕ} {held' : List Entry} → Window K' log gone' gone held'
      → others K log ≡ gone' + length held'
  others-queued log {gone} {gone'} {held'} w =
      others-length log ∙ sym (side-length K' 0 log) ∙ ap length w.parts ∙ length-append w.old w.live
      ∙ rw (w.many, w.shows, length-map w.live (shown gone))

  -- no entry remembers more of the other kind than are held
  pub remembered-held : (log : List LogEntry) {gone gone' : ℕ} {held held' : List Entry} → Window K log gone gone' held
      → Window K' log gone' gone held'
      → all_of (λ a. leb a.before (length held')) held ≡ true
  remembered-held log {gone} {gone'} {held} {held'} w w' =
      rw w.shows
      (all_map (λ a. leb a.before (length held')) (λ x. leb (x.before - gone') (length held')) (shown gone')
      (λ x. refl) w.live
      ∙ all-weaken (λ x. leb x.before (others K log)) (λ x. leb (x.before - gone') (length held')) lower w.live
      (all_right (λ x. leb x.before (others K log)) w.old w.live known))
    where
      known : all_of (λ x. leb x.before (others K log)) (w.old ++ w.live) ≡ true
      known = rw (← w.parts, ← zero-add (others K log)) (side_before K 0 log)

      lower : (x : Placed) → leb x.before (others K log) ≡ true → leb (x.before - gone') (length held') ≡ true
      lower x h =
          let some-are : x.before ≤ others K log = leb-true x.before (others K log) h in
          let all_are : others K log ≡ gone' + length held' = others-queued log w' in
          le-leb (x.before - gone') (length held') (omega arith)

  -- new entries at the end of the log
  pub window-append : (log : List LogEntry) {gone gone' : ℕ} {held held' : List Entry} → Window K log gone gone' held
      → Window K' log gone' gone held'
      → (new : List LogEntry) → Window K (log ++ new) gone gone' (held ++ map (shown gone') (side K (gone' + length held') new))
  window-append log {gone} {gone'} {held} {held'} w w' new = record {
    old = w.old;
    live = w.live ++ side K (gone' + length held') new;
    parts = side-append K 0 log new
        ∙ rw (zero-add (others K log), others-queued log w', w.parts) (append_assoc w.old w.live (side K (gone' + length held') new));
    many = w.many;
    ended = w.ended;
    shows = rw w.shows (sym (map-append (shown gone') w.live (side K (gone' + length held') new)));
  }

  -- finished entries leave this side, and j the other
  pub window-leave : {log : List LogEntry} {gone out : ℕ} {held : List Entry} → Window K log gone out held → (j : ℕ)
      → Window K log (gone + retiring held) (out + j) (map (after_retiring j) (after_while finished held))
  window-leave {log} {gone} {out} {held} w j = record {
    old = w.old ++ front_while is_over w.live;
    live = after_while is_over w.live;
    parts =
        w.parts ∙ ap (λ (l : List Placed). w.old ++ l) (sym (front_while-after_while is_over w.live))
        ∙ sym (append_assoc w.old (front_while is_over w.live) (after_while is_over w.live));
    many =
        length-append w.old (front_while is_over w.live)
        ∙ rw (w.many, w.shows, length_front_while_map finished is_over (shown out) (λ x. refl) w.live);
    ended = all_join is_over w.old (front_while is_over w.live) w.ended (all_front_while is_over w.live);
    shows =
        rw (w.shows, after_while-map finished is_over (shown out) (λ x. refl) w.live)
        (map-map (after_retiring j) (shown out) (after_while is_over w.live)
        ∙ map_same (λ x. after_retiring j (shown out x)) (shown (out + j)) lower (after_while is_over w.live));
  }
    where
      lower : (x : Placed) → after_retiring j (shown out x) ≡ shown (out + j) x
      lower x = ap (λ (n : ℕ). with_before n x.entry) (omega arith)
