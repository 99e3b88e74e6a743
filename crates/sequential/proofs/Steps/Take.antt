-- An accepted take keeps the invariant: the value joins the port's row of values taken.
use Prim.Native.Nat.{ℕ}
use native.Mathlib.Nat.{add-zero}
use mathlib.Core.Path.{◌≡◌, refl, sym, ap, ◌∙◌, subst}
use mathlib.Core.Bool.{Bool, true, false, not, ◌&&◌}
use mathlib.Core.List.{List, [], ◌∷◌, ◌++◌}
use mathlib.Core.Option.{Option, none, some}
use lib.Dec.{eqb}
use borrow.Author.Tests.{not-true, eqb-true}
use lib.ListN.{get_elem?}
use Rattle.number.specs.Basics.{pick, all_of, count_where, is_some}
use Rattle.table.specs.Group.{GroupPairs}
use Rattle.queue.specs.declared.arguments.Argument.{Argument}
use Rattle.queue.specs.declared.arguments.Argument.TheVariants.{LoadAddress, StoreAddress, StoreData}
use Rattle.queue.specs.Entry.{Entry, mark_finished, with_before}
use Rattle.queue.specs.Contents.{Contents}
use Rattle.queue.specs.Take.{untaken, take_place, taken_with}
use Rattle.number.proofs.Both.{and_left, and_right}
use Rattle.queue.proofs.Lists.{false-true, and_both, implies, all_left, all_middle, all-weaken₂, first_passes, first-before}
use Rattle.sequential.specs.Calls.{Take}
use Rattle.sequential.specs.Answers.{Machine, Answered}
use Rattle.sequential.specs.Plain.{rows_of}
use Rattle.sequential.specs.Demand3.{told, taken_at}
use Rattle.sequential.proofs.Log.{LogEntry, of_load, of_store, loads, stores, own_in, loads-stores, own_in_append, own}
use Rattle.sequential.proofs.Window.{Located, locate, before-log}
use Rattle.sequential.proofs.CellLog.{cells_same}
use Rattle.sequential.proofs.Rows.{given, value_taken, place_for, lacking, row_of_port, none_waits_lem}
use Rattle.sequential.proofs.Invariant.{Invariant, Holds, LogSeen, right_load, taken-served, served-addressed, load_in_range, is_served}
use Rattle.sequential.proofs.Anew.{holds-anew, holds-retired, row_kept, seen-anew}

take_given : (l : Entry) (kind : Argument) (port : ℕ) → given kind port (of_load l) ≡ given kind port (of_load (mark_finished l))
take_given l LoadAddress port = refl
take_given l StoreAddress port = refl
take_given l StoreData port = refl

taken_place : (l : Entry) (port v : ℕ) → eqb l.port port ≡ true → l.word ≡ some v → value_taken port (of_load (mark_finished l)) ≡ some (some v)
taken_place l port v e f = rw (e, f)

-- a load that is taken, or of another port, does not wait to be taken
waits_not : (words port : ℕ) (l : Entry) → not (untaken port l) ≡ true → right_load words l ≡ true
    → not (lacking (value_taken port (of_load l))) ≡ true
waits_not words port l t r = go (eqb l.port port) l.finished l.word t (taken-served words l r)
  where
    go : (same taken : Bool) (value : Option ℕ) → not (same && not taken) ≡ true → implies taken (is_some value) ≡ true
        → not (lacking (place_for same (pick taken value none))) ≡ true
    go false taken value t₁ t₂ = refl
    go true false value t₁ t₂ = false-true t₁
    go true true none t₁ t₂ = false-true t₂
    go true true (some v) t₁ t₂ = refl

module _ (groups : List GroupPairs) (memory : List ℕ) (answered : List Answered) (q : Contents) (m : List ℕ) (log : List LogEntry)
    (table : q.groups ≡ groups) (h : Holds q m memory log) (seen : LogSeen groups answered log) where
  take_at : (port i v : ℕ) (pre : List LogEntry) (it : Entry) (post : List LogEntry)
      (l : Located loads stores log q.loads.entries q.stores.entries i pre it post)
      → untaken port it ≡ true → all_of (λ x. not (untaken port x)) (lib.ListN.take i q.loads.entries) ≡ true
      → it.word ≡ some v
      → Invariant groups memory (answered ++ record { call = Take port; number = 0; value = some v } ∷ [])
      (record { queue = (taken_with q i v).queue; memory = m })
  take_at port i v pre it post l first earlier has = record {
    log = pre ++ of_load (mark_finished it) ∷ post;
    table = table;
    holds = holds-retired
        (holds-anew h mark_finished (λ n k. refl) m refl loads l right
        (cells_same m memory pre (of_load it) (of_load (mark_finished it)) post (λ b j. refl) (rw l.log_is at h.cells)));
    seen =
        seen-anew groups answered (record { call = Take port; number = 0; value = some v }) pre (of_load it) (of_load (mark_finished it)) post seen' refl refl
        (λ kind p. row_kept (given kind p) (of_load it) (of_load (mark_finished it)) (take_given it kind p) post pre (rows_of (told answered) kind p)
        (seen'.rows kind p))
        (row_of_port value_taken (of_load it) (of_load (mark_finished it)) v port pre post waits filled none-waiting other (λ p. taken_at p answered) seen'.takes)
        (sym (add-zero (count_where is_served (of_load it ∷ []))))
        refl;
  }
    where
      seen' : LogSeen groups answered (pre ++ of_load it ∷ post)
      seen' = subst (LogSeen groups answered) l.log_is seen

      same-port : eqb it.port port ≡ true
      same-port = and_left (eqb it.port port) (not it.finished) first

      fresh : it.finished ≡ false
      fresh = not-true it.finished (and_right (eqb it.port port) (not it.finished) first)

      right_loads : all_of (right_load q.memory_length) (own_in loads pre ++ it ∷ own_in loads post) ≡ true
      right_loads = rw (l.log_is, own_in_append loads pre (of_load it ∷ post)) at (h.right loads)

      right-it : right_load q.memory_length it ≡ true
      right-it = all_middle (right_load q.memory_length) (own_in loads pre) (own_in loads post) it right_loads

      right : right_load q.memory_length (mark_finished it) ≡ true
      right = and_both {a = is_some it.word} (rw has)
          (and_both (served-addressed q.memory_length it right-it) (load_in_range q.memory_length it right-it))

      waits : value_taken port (of_load it) ≡ some none
      waits = rw (same-port, fresh)

      filled : value_taken port (of_load (mark_finished it)) ≡ some (some v)
      filled = taken_place it port v same-port has

      right_before : all_of (right_load q.memory_length) (own_in loads pre) ≡ true
      right_before = all_left (right_load q.memory_length) (own_in loads pre) (it ∷ own_in loads post) right_loads

      none-waiting : all_of (λ d. not (lacking (value_taken port d))) pre ≡ true
      none-waiting =
          none_waits_lem loads (value_taken port) store-waits-not pre
          (all-weaken₂ (λ x. not (untaken port x)) (right_load q.memory_length) (λ x. not (lacking (value_taken port (of_load x))))
          (waits_not q.memory_length port) (own_in loads pre)
          (before-log l.before (λ x. not (untaken port x)) (λ n x. refl) (right_load q.memory_length) (λ x t f. finished-taken x f) right_before
          earlier) right_before)
        where
          store-waits-not : (e : LogEntry) → own loads e ≡ none → not (lacking (value_taken port e)) ≡ true
          store-waits-not (of_load x) e = let z : false ≡ true = cc in false-true z
          store-waits-not (of_store x) e = refl

          finished-taken : (x : Entry) → x.finished ≡ true → not (untaken port x) ≡ true
          finished-taken x f = rw f (go (eqb x.port port))
            where
              go : (b : Bool) → not (b && false) ≡ true
              go true = refl
              go false = refl

      other : (p : ℕ) → eqb port p ≡ false → value_taken p (of_load it) ≡ value_taken p (of_load (mark_finished it))
      other p e = let f : eqb it.port p ≡ false = ap (λ (k : ℕ). eqb k p) (eqb-true it.port port same-port) ∙ e in rw f

-- An accepted take keeps the invariant.
pub take-keeps : (groups : List GroupPairs) (memory : List ℕ) (answered : List Answered) (m : Machine) → Invariant groups memory answered m
    → (port : ℕ) (l : Entry) (v : ℕ) → get_elem? m.queue.loads.entries (take_place m.queue port) ≡ some l → l.word ≡ some v
    → Invariant groups memory (answered ++ record { call = Take port; number = 0; value = some v } ∷ [])
    (record { queue = (taken_with m.queue (take_place m.queue port) v).queue; memory = m.memory })
take-keeps groups memory answered m st port l v at has =
    let (pre, it, post, place) = locate loads stores loads-stores st.holds.windows i at in
    let same : l ≡ with_before place.number it = cc place.at in
    take_at groups memory answered q m.memory st.log st.table st.holds st.seen port i v pre it post place
    (rw same at (first_passes (untaken port) q.loads.entries at)) (first-before (untaken port) q.loads.entries) (rw same at has)
  where
    q : Contents
    q = m.queue

    i : ℕ
    i = take_place q port
