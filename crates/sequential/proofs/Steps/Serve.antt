-- An accepted serve keeps the invariant: the value given is what memory would hold with every earlier store done.
use Prim.Native.Nat.{ℕ}
use mathlib.Core.Path.{◌≡◌, refl, sym, ◌∙◌, subst}
use mathlib.Core.Bool.{true, false, not, ◌&&◌}
use mathlib.Core.List.{List, [], ◌∷◌, ◌++◌, map}
use mathlib.Core.Option.{none, some}
use lib.ListN.{take, get_elem?}
use Rattle.number.specs.Basics.{all_of, is_some}
use Rattle.table.specs.Group.{GroupPairs}
use Rattle.counts.specs.declared.Counts.{Counts}
use Rattle.queue.specs.Entry.{Entry, with_word, with_before}
use Rattle.queue.specs.Contents.{Contents, place_of, others_before}
use Rattle.queue.specs.Sound.{address_right}
use Rattle.queue.specs.Serve.{source, served_with}
use Rattle.number.proofs.Both.{and_left}
use Rattle.queue.proofs.Lists.{is_none, and_both, or_right, implied, all_left, all_middle}
use Rattle.queue.proofs.SourceLaws.{loaded_word, source-alike, source-written, has_address}
use Rattle.queue.proofs.Accepted.{MayServe, Serving}
use Rattle.sequential.specs.Calls.{Serve}
use Rattle.queue.specs.declared.arguments.Argument.{Argument}
use Rattle.queue.specs.declared.arguments.Argument.TheVariants.{LoadAddress, StoreAddress, StoreData}
use Rattle.sequential.specs.Answers.{Machine, Answered}
use Rattle.sequential.specs.Plain.{Rows, rows_of}
use Rattle.sequential.specs.Demand3.{told, taken_at}
use Rattle.sequential.proofs.Log.{LogEntry, of_load, loads, stores, own_in, loads-stores, placed_entry, own_in_append}
use Rattle.sequential.proofs.Window.{Located, Before, locate, past-passes, shown}
use Rattle.sequential.proofs.Views.{load_view}
use Rattle.sequential.proofs.CellLog.{CellsHold, cells-served}
use Rattle.sequential.proofs.Rows.{given, value_taken, AllRows, row_same}
use Rattle.sequential.proofs.Invariant.{Invariant, Holds, LogSeen, right_load, right_store, written-full, load_in_range, untaken-unserved}
use Rattle.sequential.proofs.Anew.{holds-anew, row_kept, seen-anew}

-- ---- the queue's stores before the load give it the source that the log's do

source-log : {queued : List Entry} {pre : List LogEntry} → Before stores queued pre → (words : ℕ) → all_of (right_store words) (own_in stores pre) ≡ true
    → (a : ℕ) → source a queued ≡ source a (own_in stores pre)
source-log {queued} {pre} b words right a =
    rw (b.shows, b.parts)
    (source-alike (shown b.out) placed_entry (λ x. refl) (λ x. refl) (λ x. refl) a b.rest
    ∙ sym (source-written a (map placed_entry b.past) (map placed_entry b.rest)
    (past-passes b (λ s. s.finished) (λ n s. refl) (right_store words) (λ s t f. f) right)
    (past-passes b has_address (λ n s. refl) (right_store words) addressed right)))
  where
    addressed : (s : Entry) → right_store words s ≡ true → s.finished ≡ true → has_address s ≡ true
    addressed s t f =
        and_left (is_some s.address) (is_some s.word) (implied s.finished (is_some s.address && is_some s.word) (written-full words s t) f)

-- ---- the step

serve_given : (v : ℕ) (l : Entry) (kind : Argument) (port : ℕ) → given kind port (of_load l) ≡ given kind port (of_load (with_word v l))
serve_given v l LoadAddress port = refl
serve_given v l StoreAddress port = refl
serve_given v l StoreData port = refl

serve-taken : (v : ℕ) (l : Entry) (port : ℕ) → l.finished ≡ false → value_taken port (of_load l) ≡ value_taken port (of_load (with_word v l))
serve-taken v l port e = rw e

-- a queued load, at its place in the log
module _ {q : Contents} {m memory : List ℕ} {log : List LogEntry} (h : Holds q m memory log) {i : ℕ} {pre : List LogEntry} {it : Entry}
    {post : List LogEntry} (l : Located loads stores log q.loads.entries q.stores.entries i pre it post) where
  right-it : right_load q.memory_length it ≡ true
  right-it =
      all_middle (right_load q.memory_length) (own_in loads pre) (own_in loads post) it
      (rw (l.log_is, own_in_append loads pre (of_load it ∷ post)) at (h.right loads))

  pub queued-in-range : address_right q.memory_length it.address ≡ true
  queued-in-range = load_in_range q.memory_length it right-it

  -- its source, by the queue, is that by the log
  pub queued-source : (a : ℕ) → source a (take l.number q.stores.entries) ≡ source a (own_in stores pre)
  queued-source a =
      source-log l.before' q.memory_length
      (all_left (right_store q.memory_length) (own_in stores pre) (own_in stores post)
      (rw (l.log_is, own_in_append stores pre (of_load it ∷ post)) at (h.right stores))) a

  module _ (s : Serving q m (with_before l.number it)) where
    abbrev a : ℕ
    a = s.may.address

    unserved : it.word ≡ none
    unserved = is_none it.word s.may.unserved

    untaken : it.finished ≡ false
    untaken = untaken-unserved q.memory_length it right-it unserved

    pub right-served : right_load q.memory_length (with_word s.loaded.value it) ≡ true
    right-served = and_both (or_right (not it.finished) true refl) (and_both {a = is_some it.address} (rw s.may.addressed) queued-in-range)

    -- the cells hold of the log in which it has its value
    pub served-cells : CellsHold m memory (pre ++ of_load (with_word s.loaded.value it) ∷ post)
    served-cells =
        cells-served m memory pre (of_load it) (of_load (with_word s.loaded.value it)) post a s.loaded.value
        (λ b j. load_view b j it s.may.addressed unserved)
        (λ b j. load_view b j (with_word s.loaded.value it) s.may.addressed refl)
        (rw (← queued-source a) (loaded_word m a (source a (take l.number q.stores.entries)) s.loaded s.may.gives))
        (rw l.log_is at h.cells)

    -- and the rows are beside it as before
    pub served-rows : (rows : Rows) → AllRows (pre ++ of_load it ∷ post) rows → AllRows (pre ++ of_load (with_word s.loaded.value it) ∷ post) rows
    served-rows rows k kind port =
        row_same (given kind port) (of_load it) (of_load (with_word s.loaded.value it)) (serve_given s.loaded.value it kind port) post pre
        (rows kind port) (k kind port)

module _ (groups : List GroupPairs) (memory : List ℕ) (answered : List Answered) (q : Contents) (m : List ℕ) (log : List LogEntry)
    (table : q.groups ≡ groups) (h : Holds q m memory log) (seen : LogSeen groups answered log) where
  serve-at : (counts : Counts) (serial i : ℕ) (pre : List LogEntry) (it : Entry) (post : List LogEntry)
      (l : Located loads stores log q.loads.entries q.stores.entries i pre it post) (s : Serving q m (with_before l.number it))
      → Invariant groups memory (answered ++ record { call = Serve counts serial; number = 0; value = some s.loaded.value } ∷ [])
      (record { queue = (served_with q i s.loaded).queue; memory = m })
  serve-at counts serial i pre it post l s = record {
    log = pre ++ of_load (with_word v it) ∷ post;
    table = table;
    holds = holds-anew h (with_word v) (λ n k. refl) m refl loads l (right-served h l s) (served-cells h l s);
    seen =
        seen-anew groups answered (record { call = Serve counts serial; number = 0; value = some v }) pre (of_load it) (of_load (with_word v it))
        post seen' refl refl
        (λ kind port. row_kept (given kind port) (of_load it) (of_load (with_word v it)) (serve_given v it kind port) post pre
        (rows_of (told answered) kind port) (seen'.rows kind port))
        (λ port. row_kept (value_taken port) (of_load it) (of_load (with_word v it)) (serve-taken v it port (untaken h l s)) post pre
        (taken_at port answered) (seen'.takes port))
        (rw (unserved h l s))
        refl;
  }
    where
      v : ℕ
      v = s.loaded.value

      seen' : LogSeen groups answered (pre ++ of_load it ∷ post)
      seen' = subst (LogSeen groups answered) l.log_is seen

-- An accepted serve keeps the invariant.
pub serve-keeps : (groups : List GroupPairs) (memory : List ℕ) (answered : List Answered) (m : Machine) → Invariant groups memory answered m
    → (counts : Counts) (serial : ℕ) (l : Entry) → get_elem? m.queue.loads.entries (place_of m.queue.loads serial) ≡ some l
    → (s : Serving m.queue m.memory l)
    → Invariant groups memory (answered ++ record { call = Serve counts serial; number = 0; value = some s.loaded.value } ∷ [])
    (record { queue = (served_with m.queue (place_of m.queue.loads serial) s.loaded).queue; memory = m.memory })
serve-keeps groups memory answered m st counts serial l at s =
    let (pre, it, post, place) = locate loads stores loads-stores st.holds.windows (place_of q.loads serial) at in
    let same : l ≡ with_before place.number it = cc place.at in
    serve-at groups memory answered q m.memory st.log st.table st.holds st.seen counts serial (place_of q.loads serial) pre it post place
    (record { loaded = s.loaded; may = subst (λ (x : Entry). MayServe m.memory (others_before q.stores x) x s.loaded) same s.may })
  where
    q : Contents
    q = m.queue
