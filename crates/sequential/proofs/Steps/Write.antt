-- An accepted write keeps the invariant: the store may go ahead of everything before it that still waits.
use Prim.Native.Nat.{ℕ}
use mathlib.Core.Path.{◌≡◌, refl, sym, ◌∙◌, subst}
use mathlib.Core.Bool.{true, false, ◌&&◌}
use mathlib.Core.List.{List, [], ◌∷◌, ◌++◌}
use mathlib.Core.Option.{none, some}
use lib.ListN.{take, set, length-set, get_elem?}
use borrow.Author.Tests.{not-true}
use Rattle.number.specs.Basics.{all_of, is_some}
use Rattle.table.specs.Group.{GroupPairs}
use Rattle.queue.specs.Entry.{Entry, mark_finished, with_before, served, written}
use Rattle.queue.specs.Contents.{Contents, place_of, others_before}
use Rattle.queue.specs.Touch.{is_apart, touch}
use Rattle.queue.specs.Write.{Written, no_conflict, written_with}
use Rattle.queue.specs.declared.arguments.Argument.{Argument}
use Rattle.queue.specs.declared.arguments.Argument.TheVariants.{LoadAddress, StoreAddress, StoreData}
use Rattle.queue.proofs.Lists.{and_both, or_left, implied, all_left, all_middle}
use Rattle.queue.proofs.Accepted.{MayWrite, Writing}
use Rattle.sequential.specs.Calls.{Write}
use Rattle.sequential.specs.Answers.{Machine, Answered}
use Rattle.sequential.specs.Plain.{rows_of}
use Rattle.sequential.specs.Demand3.{told, taken_at}
use Rattle.sequential.proofs.Log.{LogEntry, of_store, loads, stores, own_in, stores-loads, own_in_append}
use Rattle.sequential.proofs.Window.{Located, turned, locate, before-log}
use Rattle.sequential.proofs.Views.{store_view}
use Rattle.sequential.proofs.CellLog.{CellsHold, cells-written}
use Rattle.sequential.proofs.Rows.{given, value_taken}
use Rattle.sequential.proofs.Invariant.{Invariant, Holds, LogSeen, right_load, right_store, taken-served, store_in_range}
use Rattle.sequential.proofs.Anew.{holds-anew, holds-retired, row_kept, seen-anew}

write_given : (s : Entry) (kind : Argument) (port : ℕ) → given kind port (of_store s) ≡ given kind port (of_store (mark_finished s))
write_given s LoadAddress port = refl
write_given s StoreAddress port = refl
write_given s StoreData port = refl

module _ (groups : List GroupPairs) (memory : List ℕ) (answered : List Answered) (q : Contents) (m : List ℕ) (log : List LogEntry)
    (table : q.groups ≡ groups) (h : Holds q m memory log) (seen : LogSeen groups answered log) where
  write-at : (serial i : ℕ) (pre : List LogEntry) (it : Entry) (post : List LogEntry)
      (l : Located stores loads log q.stores.entries q.loads.entries i pre it post) (s : Writing q i (with_before l.number it))
      → Invariant groups memory (answered ++ record { call = Write serial; number = 0; value = none } ∷ [])
      (record { queue = (written_with q m i s.put).queue; memory = (written_with q m i s.put).memory })
  write-at serial i pre it post l s = record {
    log = pre ++ of_store (mark_finished it) ∷ post;
    table = table;
    holds = holds-retired (holds-anew h mark_finished (λ n k. refl) (set m a w) (length-set m a w) stores l right cells);
    seen =
        seen-anew groups answered (record { call = Write serial; number = 0; value = none }) pre (of_store it) (of_store (mark_finished it)) post seen' refl refl
        (λ kind port. row_kept (given kind port) (of_store it) (of_store (mark_finished it)) (write_given it kind port) post pre
        (rows_of (told answered) kind port) (seen'.rows kind port))
        (λ port. row_kept (value_taken port) (of_store it) (of_store (mark_finished it)) refl post pre (taken_at port answered) (seen'.takes port))
        refl
        (rw unwritten);
  }
    where
      a : ℕ
      a = s.put.address

      w : ℕ
      w = s.put.word

      seen' : LogSeen groups answered (pre ++ of_store it ∷ post)
      seen' = subst (LogSeen groups answered) l.log_is seen

      unwritten : it.finished ≡ false
      unwritten = not-true it.finished s.may.unwritten

      right_stores : all_of (right_store q.memory_length) (own_in stores pre ++ it ∷ own_in stores post) ≡ true
      right_stores = rw (l.log_is, own_in_append stores pre (of_store it ∷ post)) at (h.right stores)

      right_loads : all_of (right_load q.memory_length) (own_in loads pre ++ own_in loads post) ≡ true
      right_loads = rw (l.log_is, own_in_append loads pre (of_store it ∷ post)) at (h.right loads)

      right : right_store q.memory_length (mark_finished it) ≡ true
      right =
          and_both {a = is_some it.address && is_some it.word} (rw (s.may.addressed, s.may.worded))
          (store_in_range q.memory_length it (all_middle (right_store q.memory_length) (own_in stores pre) (own_in stores post) it right_stores))

      loads_apart : all_of (no_conflict served a) (own_in loads pre) ≡ true
      loads_apart =
          before-log l.before' (no_conflict served a) (λ n x. refl) (right_load q.memory_length)
          (λ x t f. or_left (is_some x.word) (is_apart (touch a x.address))
          (implied x.finished (is_some x.word) (taken-served q.memory_length x t) f))
          (all_left (right_load q.memory_length) (own_in loads pre) (own_in loads post) right_loads) s.may.loads_apart

      stores_apart : all_of (no_conflict written a) (own_in stores pre) ≡ true
      stores_apart =
          before-log l.before (no_conflict written a) (λ n x. refl) (right_store q.memory_length)
          (λ x t f. or_left x.finished (is_apart (touch a x.address)) f)
          (all_left (right_store q.memory_length) (own_in stores pre) (it ∷ own_in stores post) right_stores) s.may.stores_apart

      cells : CellsHold (set m a w) memory (pre ++ of_store (mark_finished it) ∷ post)
      cells =
          cells-written m memory pre (of_store it) (of_store (mark_finished it)) post a w (h.long ∙ sym h.opened)
          (λ b j. store_view b j it s.may.addressed s.may.worded unwritten)
          (λ b j. store_view b j (mark_finished it) s.may.addressed s.may.worded refl) loads_apart stores_apart (rw l.log_is at h.cells)

-- An accepted write keeps the invariant.
pub write_keeps : (groups : List GroupPairs) (memory : List ℕ) (answered : List Answered) (m : Machine) → Invariant groups memory answered m
    → (serial : ℕ) (s : Entry) → get_elem? m.queue.stores.entries (place_of m.queue.stores serial) ≡ some s
    → (w : Writing m.queue (place_of m.queue.stores serial) s)
    → let r : Written = written_with m.queue m.memory (place_of m.queue.stores serial) w.put in
    Invariant groups memory (answered ++ record { call = Write serial; number = 0; value = none } ∷ []) (record { queue = r.queue; memory = r.memory })
write_keeps groups memory answered m st serial s at w =
    let (pre, it, post, place) = locate stores loads stores-loads (turned st.holds.windows) (place_of q.stores serial) at in
    let same : s ≡ with_before place.number it = cc place.at in
    write-at groups memory answered q m.memory st.log st.table st.holds st.seen serial (place_of q.stores serial) pre it post place
    (record {
      put = w.put;
      may =
          subst (λ (x : Entry). MayWrite (others_before q.loads x) (take (place_of q.stores serial) q.stores.entries) x w.put) same
          w.may;
    })
  where
    q : Contents
    q = m.queue
