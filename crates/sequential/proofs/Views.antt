-- What a cell sees of an entry of the log, and that the queue's tests of entries are the cell's.
use Prim.Native.Nat.{ℕ}
use mathlib.Core.Path.{◌≡◌, refl, sym, ap, ◌∙◌}
use mathlib.Core.Bool.{Bool, true, false, ◌||◌}
use mathlib.Core.List.{List, [], ◌∷◌, map}
use mathlib.Core.Option.{Option, none, some}
use lib.Dec.{eqb}
use Rattle.number.specs.Basics.{pick, all_of, is_some}
use Rattle.number.proofs.Both.{and_left, and_right}
use Rattle.table.specs.RightTables.{Each}
use Rattle.queue.specs.Entry.{Entry, served, written}
use Rattle.queue.specs.Touch.{Touch, unknown, same, apart, touch, is_apart}
use Rattle.queue.specs.Serve.{Source as Word, unsettled as unsettled_word, from_store, from_memory, decided, source as word_source}
use Rattle.queue.specs.Write.{no_conflict}
use Rattle.queue.proofs.Lists.{and_both}
use Rattle.queue.proofs.SourceLaws.{past_store, source_from, source_from_lem}
use Rattle.sequential.proofs.Log.{LogEntry, of_load, of_store, loads, stores, own_in}
use Rattle.sequential.proofs.Lanes.{lane_of}
use Rattle.sequential.proofs.Cells.{Stage, waiting, ended, is_ended, Seen, load, store, CellSource, unsettled, supplied, in_memory}
use Rattle.sequential.proofs.Cells.{after, source}
use Rattle.sequential.proofs.CellInvariant.{passed}

-- Serves and writes begin and end in one call, so the queue shows no entry begun.
abbrev pub stage_of : Bool → Stage
stage_of false = waiting
stage_of true = ended

-- a lane of a word, where there is one
abbrev pub lane_in : ℕ → Option ℕ → Option ℕ
lane_in j none = none
lane_in j (some w) = some (lane_of w j)

-- seen from lane j of address b
abbrev pub view : ℕ → ℕ → LogEntry → Seen ℕ
view b j (of_load l) = load (touch b l.address) (stage_of (is_some l.word)) (lane_in j l.word)
view b j (of_store s) = store (touch b s.address) (stage_of s.finished) (lane_in j s.word)

-- an entry by what it has
pub load_view : (b j : ℕ) (l : Entry) {address value : Option ℕ} → l.address ≡ address → l.word ≡ value
    → view b j (of_load l) ≡ load (touch b address) (stage_of (is_some value)) (lane_in j value)
load_view b j l has got = rw (has, got)

pub store_view : (b j : ℕ) (s : Entry) {address word : Option ℕ} {written : Bool} → s.address ≡ address → s.word ≡ word
    → s.finished ≡ written → view b j (of_store s) ≡ store (touch b address) (stage_of written) (lane_in j word)
store_view b j s has filled done = rw (has, filled, done)

-- ---- a load's source

-- where a load's word comes from, seen from a cell of its address
abbrev pub source_in : ℕ → Word → CellSource ℕ
source_in j unsettled_word = unsettled
source_in j (from_store word) = supplied (lane_in j word)
source_in j from_memory = in_memory

-- one store is to the cell what it is to the load
past_view : (a j : ℕ) (s : Entry) (found : Word)
    → after (touch a s.address) (stage_of s.finished) (lane_in j s.word) (source_in j found) ≡ source_in j (past_store a s found)
past_view a j s found = go (touch a s.address) s.finished
  where
    go : (t : Touch) (written : Bool) → after t (stage_of written) (lane_in j s.word) (source_in j found)
        ≡ source_in j (decided t written s.word found)
    go apart written = refl
    go unknown written = refl
    go same true = refl
    go same false = refl

view_from : (a j : ℕ) (found : Word) (pre : List LogEntry)
    → source (source_in j found) (map (view a j) pre) ≡ source_in j (source_from a found (own_in stores pre))
view_from a j found [] = refl
view_from a j found (of_load l ∷ pre) = view_from a j found pre
view_from a j found (of_store s ∷ pre) = rw (past_view a j s found) (view_from a j (past_store a s found) pre)

-- The cell's source is the queue's.
pub source-view : (a j : ℕ) (pre : List LogEntry) → source in_memory (map (view a j) pre) ≡ source_in j (word_source a (own_in stores pre))
source-view a j pre = view_from a j from_memory pre ∙ ap (source_in j) (sym (source_from_lem a (own_in stores pre)))

-- ---- 31 and 32

-- let past: ended, or at a known other address
passed-view : (a : ℕ) (ended? : Bool) (address : Option ℕ) → ended? || is_apart (touch a address) ≡ true
    → is_apart (touch a address) || is_ended (stage_of ended?) ≡ true
passed-view a true none h = refl
passed-view a false none h = h
passed-view a e (some b) h = go (eqb b a) e h
  where
    go : (t e : Bool) → e || is_apart (pick t same apart) ≡ true → is_apart (pick t same apart) || is_ended (stage_of e) ≡ true
    go true true h = refl
    go true false h = h
    go false e h = refl

-- What comes before a store and does not conflict with it has passed, as the cell sees it.
pub conflicts_view : (a j : ℕ) (pre : List LogEntry) → all_of (no_conflict served a) (own_in loads pre) ≡ true
    → all_of (no_conflict written a) (own_in stores pre) ≡ true → Each (λ x. passed x ≡ true) (map (view a j) pre)
conflicts_view a j [] h k = tt
conflicts_view a j (of_load l ∷ pre) h k = (
  and_both (passed-view a (is_some l.word) l.address (and_left (no_conflict served a l) (all_of (no_conflict served a) (own_in loads pre)) h)) refl,
  conflicts_view a j pre (and_right (no_conflict served a l) (all_of (no_conflict served a) (own_in loads pre)) h) k,
)
conflicts_view a j (of_store s ∷ pre) h k = (
  passed-view a s.finished s.address (and_left (no_conflict written a s) (all_of (no_conflict written a) (own_in stores pre)) k),
  conflicts_view a j pre h (and_right (no_conflict written a s) (all_of (no_conflict written a) (own_in stores pre)) k),
)
