-- An accepted activation keeps the invariant: the group's accesses join the log with nothing given yet.
use Prim.Native.Nat.{ℕ, suc, ◌+◌, ◌≤◌}
use native.Mathlib.Nat.{add-suc, add-sub_cancel_left}
use mathlib.Core.Path.{◌≡◌, refl, ap, ◌∙◌}
use mathlib.Core.Bool.{Bool, true, false}
use mathlib.Core.List.{List, [], ◌∷◌, ◌++◌, map, map-append, append-nil}
use mathlib.Core.Option.{none, some}
use lib.Dec.{eqb}
use lib.ListN.{length, length-append, get_elem?}
use borrow.Author.Tests.{leb-true}
use Rattle.number.specs.Basics.{pick, all_of, count_where, keep_where}
use Rattle.table.specs.Group.{GroupPairs, Access, load, store, pair_of, pairs_where, order, at_offset, uncounted}
use Rattle.table.proofs.Order.{order-pairs}
use Rattle.queue.specs.Entry.{new_entry, Entry}
use Rattle.queue.specs.Contents.{Contents, Side}
use Rattle.queue.specs.Activate.{new_entries, room, with_group, side_has_room, is_of}
use Rattle.queue.specs.declared.Kind.{Kind}
use Rattle.queue.specs.declared.Kind.TheVariants.{Load, Store}
use Rattle.queue.specs.declared.arguments.Argument.{Argument}
use Rattle.queue.specs.declared.arguments.Argument.TheVariants.{LoadAddress, StoreAddress, StoreData}
use Rattle.number.proofs.Both.{and_left, and_right}
use Rattle.queue.proofs.Lists.{all_join, count-append}
use Rattle.sequential.specs.Calls.{Activate}
use Rattle.sequential.specs.Answers.{Machine, Answered}
use Rattle.sequential.specs.Plain.{rows_of}
use Rattle.sequential.specs.Demand3.{told, taken_at}
use Rattle.sequential.proofs.Log.{LogEntry, access_of, fresh, loads, stores, side, own_in, loads-stores, stores-loads, own_in_append}
use Rattle.sequential.proofs.Window.{shown, window-append}
use Rattle.sequential.proofs.CellLog.{cells_added}
use Rattle.sequential.proofs.Rows.{given, value_taken, has_none, place_for, row-append}
use Rattle.sequential.proofs.Invariant.{Invariant, Holds, LogSeen, right_entry, is_served, is_written, seen_more}

-- the new entries that the queue shows are those of the log
new_shown : (K : Kind) (out n : ℕ) (new : List Access) → new_entries K n new ≡ map (shown out) (side K (out + n) (map fresh new))
new_shown K out n [] = refl
new_shown Load out n (load p ∷ new) = rw (add-sub_cancel_left out n, new_shown Load out n new)
new_shown Load out n (store p ∷ new) = new_shown Load out (suc n) new ∙ ap (λ (k : ℕ). map (shown out) (side Load k (map fresh new))) (add-suc out n)
new_shown Store out n (load p ∷ new) = new_shown Store out (suc n) new ∙ ap (λ (k : ℕ). map (shown out) (side Store k (map fresh new))) (add-suc out n)
new_shown Store out n (store p ∷ new) = rw (add-sub_cancel_left out n, new_shown Store out n new)

pub new_length : (K : Kind) (n : ℕ) (new : List Access) → length (new_entries K n new) ≡ length (pairs_where (is_of K) new)
new_length K n [] = refl
new_length K n (a ∷ new) = go (is_of K a) (new_length K n new) (new_length K (suc n) new)
  where
    go : (t : Bool) → length (new_entries K n new) ≡ length (pairs_where (is_of K) new)
        → length (new_entries K (suc n) new) ≡ length (pairs_where (is_of K) new)
        → length (pick t (new_entry (pair_of a) n ∷ new_entries K n new) (new_entries K (suc n) new))
        ≡ length (map pair_of (pick t (a ∷ keep_where (is_of K) new) (keep_where (is_of K) new)))
    go true h k = ap suc h
    go false h k = k

-- new entries are right, have nothing, and are of their accesses
fresh_right : (K : Kind) (words : ℕ) (new : List Access) → all_of (right_entry K words) (own_in K (map fresh new)) ≡ true
fresh_right K words [] = refl
fresh_right Load words (load p ∷ new) = fresh_right Load words new
fresh_right Load words (store p ∷ new) = fresh_right Load words new
fresh_right Store words (load p ∷ new) = fresh_right Store words new
fresh_right Store words (store p ∷ new) = fresh_right Store words new

fresh_all : (p : LogEntry → Bool) → ((a : Access) → p (fresh a) ≡ true) → (new : List Access) → all_of p (map fresh new) ≡ true
fresh_all p h [] = refl
fresh_all p h (a ∷ new) = rw (h a) (fresh_all p h new)

fresh_none : (p : LogEntry → Bool) → ((a : Access) → p (fresh a) ≡ false) → (new : List Access) → count_where p (map fresh new) ≡ 0
fresh_none p h [] = refl
fresh_none p h (a ∷ new) = rw (h a) (fresh_none p h new)

fresh-access : (new : List Access) → map access_of (map fresh new) ≡ map uncounted new
fresh-access [] = refl
fresh-access (load p ∷ new) = ap (λ (l : List Access). load (at_offset 0 p) ∷ l) (fresh-access new)
fresh-access (store p ∷ new) = ap (λ (l : List Access). store (at_offset 0 p) ∷ l) (fresh-access new)

empty_place : (b : Bool) → has_none (place_for b none) ≡ true
empty_place true = refl
empty_place false = refl

fresh_given : (kind : Argument) (port : ℕ) (a : Access) → has_none (given kind port (fresh a)) ≡ true
fresh_given LoadAddress port (load p) = empty_place (eqb p.port port)
fresh_given LoadAddress port (store p) = refl
fresh_given StoreAddress port (load p) = refl
fresh_given StoreAddress port (store p) = empty_place (eqb p.port port)
fresh_given StoreData port (load p) = refl
fresh_given StoreData port (store p) = empty_place (eqb p.port port)

fresh-value : (port : ℕ) (a : Access) → has_none (value_taken port (fresh a)) ≡ true
fresh-value port (load p) = empty_place (eqb p.port port)
fresh-value port (store p) = refl

module _ (groups : List GroupPairs) (memory : List ℕ) (answered : List Answered) (q : Contents) (m : List ℕ) (log : List LogEntry)
    (table : q.groups ≡ groups) (h : Holds q m memory log) (seen : LogSeen groups answered log) (group : ℕ) (g : GroupPairs)
    (is : get_elem? q.groups group ≡ some g) (fits : room q g ≡ true) where
  grown : (s : Side) (more : List Entry) (n : ℕ) → length more ≡ n → side_has_room s n ≡ true → length (s.entries ++ more) ≤ s.depth
  grown s more n e r = rw (length-append s.entries more, e) (leb-true (length s.entries + n) s.depth r)

  holds-group : Holds (with_group q g) m memory (log ++ map fresh (order g))
  holds-group = record {
    limits = h.limits;
    room = elim [
      | Load ↦ grown q.loads _ (length g.loads) (new_length Load _ (order g) ∙ ap length (order-pairs g).0)
          (and_left (side_has_room q.loads _) _ fits)
      | Store ↦ grown q.stores _ (length g.stores) (new_length Store _ (order g) ∙ ap length (order-pairs g).1)
          (and_right (side_has_room q.loads _) _ fits)
    ];
    long = h.long;
    opened = h.opened;
    windows = record {
      gone = h.windows.gone;
      gone' = h.windows.gone';
      ours =
          rw (new_shown Load h.windows.gone' (length q.stores.entries) (order g))
          (window-append loads stores loads-stores log h.windows.ours h.windows.theirs (map fresh (order g)));
      theirs =
          rw (new_shown Store h.windows.gone (length q.loads.entries) (order g))
          (window-append stores loads stores-loads log h.windows.theirs h.windows.ours (map fresh (order g)));
    };
    right = λ K.
        rw (own_in_append K log (map fresh (order g)))
        (all_join (right_entry K q.memory_length) (own_in K log) (own_in K (map fresh (order g))) (h.right K) (fresh_right K q.memory_length (order g)));
    cells = cells_added m memory log (order g) h.cells;
  }

  seen-group : LogSeen groups (answered ++ record { call = Activate group; number = 0; value = none } ∷ []) (log ++ map fresh (order g))
  seen-group =
      seen_more groups answered (record { call = Activate group; number = 0; value = none }) (log ++ map fresh (order g))
      (map-append access_of log (map fresh (order g)) ∙ rw (seen.shape, fresh-access (order g), ← table, is, append-nil (order g)))
      (λ kind port. rw (append-nil (rows_of (told answered) kind port))
      (row-append (given kind port) (map fresh (order g)) (fresh_all (λ d. has_none (given kind port d)) (fresh_given kind port) (order g)) log
      (rows_of (told answered) kind port) (seen.rows kind port)))
      (λ port. rw (append-nil (taken_at port answered))
      (row-append (value_taken port) (map fresh (order g)) (fresh_all (λ d. has_none (value_taken port d)) (fresh-value port) (order g)) log
      (taken_at port answered) (seen.takes port)))
      (count-append is_served log (map fresh (order g)) ∙ rw (seen.serves, fresh_none is_served unserved (order g)))
      (count-append is_written log (map fresh (order g)) ∙ rw (seen.writes, fresh_none is_written unwritten (order g)))
    where
      unserved : (a : Access) → is_served (fresh a) ≡ false
      unserved (load p) = refl
      unserved (store p) = refl

      unwritten : (a : Access) → is_written (fresh a) ≡ false
      unwritten (load p) = refl
      unwritten (store p) = refl

-- An accepted activation keeps the invariant.
pub activate-keeps : (groups : List GroupPairs) (memory : List ℕ) (answered : List Answered) (m : Machine) → Invariant groups memory answered m
    → (group : ℕ) (g : GroupPairs) → get_elem? m.queue.groups group ≡ some g → room m.queue g ≡ true
    → Invariant groups memory (answered ++ record { call = Activate group; number = 0; value = none } ∷ [])
    (record { queue = with_group m.queue g; memory = m.memory })
activate-keeps groups memory answered m st group g is fits = record {
  log = st.log ++ map fresh (order g);
  table = st.table;
  holds = holds-group groups memory answered m.queue m.memory st.log st.table st.holds st.seen group g is fits;
  seen = seen-group groups memory answered m.queue m.memory st.log st.table st.holds st.seen group g is fits;
}
