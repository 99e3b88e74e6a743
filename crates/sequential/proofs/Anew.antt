-- One entry of the log made anew: what follows for the invariant's parts. And finished entries that leave.
use Prim.Native.Nat.{ℕ, suc, ◌+◌, ◌≤◌}
use native.Mathlib.Omega.{arith}
use mathlib.Core.Path.{◌≡◌, sym, ap, ◌∙◌}
use mathlib.Core.Bool.{Bool, true, false}
use mathlib.Core.List.{List, [], ◌∷◌, ◌++◌, map, map-append, append-nil}
use lib.ListN.{length, length-map}
use Rattle.number.specs.Basics.{pick, count_where, after_while, all_of}
use Rattle.table.specs.Group.{GroupPairs, Access, uncounted}
use Rattle.queue.specs.declared.Kind.{Kind}
use Rattle.queue.specs.declared.Kind.TheVariants.{Load, Store}
use Rattle.queue.proofs.ContentsLaws.{opposite}
use Rattle.queue.specs.declared.arguments.Argument.{Argument}
use Rattle.queue.specs.Entry.{Entry, with_before}
use Rattle.queue.specs.Contents.{Contents, with_entries, update_at, side_of}
use Rattle.queue.specs.Retire.{retire, retiring, finished, after_retiring}
use Rattle.queue.proofs.Lists.{all-replace, count-append, length-update_at, length-after_while}
use Rattle.sequential.specs.Answers.{Answered}
use Rattle.sequential.specs.Plain.{gather, rows_of, accesses}
use Rattle.sequential.specs.Demand3.{tell, told, taken_at, serve_of, write_of}
use Rattle.sequential.proofs.Log.{LogEntry, access_of, loads, stores, own_in, loads-stores, stores-loads, own_in_append, Opposite, put, own_put}
use Rattle.sequential.proofs.Window.{Located, turned, window-leave, Windows, put_other}
use Rattle.sequential.proofs.CellLog.{CellsHold}
use Rattle.sequential.proofs.Rows.{Row, RowPlace, given, value_taken, row_same}
use Rattle.sequential.proofs.Invariant.{Holds, LogSeen, right_entry, is_served, is_written, seen_more}

-- ---- the queue's part

-- both sides of the queue, from a kind's
pub windows_of : {q : Contents} {m memory : List ℕ} {log : List LogEntry} → Holds q m memory log → (K : Kind)
    → Windows K (opposite K) log (side_of K q).entries (side_of (opposite K) q).entries
windows_of h Load = h.windows
windows_of h Store = turned h.windows

module _ (K : Kind) (words : ℕ) (pre post : List LogEntry) (it x : Entry) where
  own-replaced : all_of (right_entry K words) (own_in K (pre ++ put K it ∷ post)) ≡ true → right_entry K words x ≡ true
      → all_of (right_entry K words) (own_in K (pre ++ put K x ∷ post)) ≡ true
  own-replaced h right =
      rw (own_in_append K pre (put K x ∷ post), own_put K x)
      (all-replace (right_entry K words) (own_in K pre) (own_in K post) it x (rw (own_in_append K pre (put K it ∷ post), own_put K it) at h) right)

  others-replaced : (K' : Kind) → Opposite K K' → (p : Entry → Bool) → all_of p (own_in K' (pre ++ put K it ∷ post)) ≡ true
      → all_of p (own_in K' (pre ++ put K x ∷ post)) ≡ true
  others-replaced K' opposed p h =
      rw (own_in_append K' pre (put K x ∷ post), put_other K K' opposed x)
      (rw (own_in_append K' pre (put K it ∷ post), put_other K K' opposed it) at h)

module _ {q : Contents} {m memory : List ℕ} {log : List LogEntry} (h : Holds q m memory log)
    {i : ℕ} {pre : List LogEntry} {it : Entry} {post : List LogEntry} (f : Entry → Entry)
    (blind : (n : ℕ) (e : Entry) → f (with_before n e) ≡ with_before n (f e)) (m' : List ℕ) (long : length m' ≡ length m) where
  -- one entry made anew, with another memory of that length
  pub holds-anew : (K : Kind) → Located K (opposite K) log (side_of K q).entries (side_of (opposite K) q).entries i pre it post
      → right_entry K q.memory_length (f it) ≡ true → CellsHold m' memory (pre ++ put K (f it) ∷ post)
      → Holds (with_entries K q (update_at f i (side_of K q).entries)) m' memory (pre ++ put K (f it) ∷ post)
  holds-anew Load l right cells = record {
    limits = h.limits;
    room = elim [ Load ↦ rw (length-update_at f i q.loads.entries) (h.room Load) | Store ↦ h.room Store ];
    long = long ∙ h.long;
    opened = h.opened;
    windows = l.anew f blind;
    right = elim [
      | Load ↦ own-replaced Load q.memory_length pre post it (f it) (rw l.log_is at (h.right Load)) right
      | Store ↦ others-replaced Load q.memory_length pre post it (f it) Store loads-stores _ (rw l.log_is at (h.right Store))
    ];
    cells = cells;
  }
  holds-anew Store l right cells = record {
    limits = h.limits;
    room = elim [ Load ↦ h.room Load | Store ↦ rw (length-update_at f i q.stores.entries) (h.room Store) ];
    long = long ∙ h.long;
    opened = h.opened;
    windows = turned (l.anew f blind);
    right = elim [
      | Load ↦ others-replaced Store q.memory_length pre post it (f it) Load stores-loads _ (rw l.log_is at (h.right Load))
      | Store ↦ own-replaced Store q.memory_length pre post it (f it) (rw l.log_is at (h.right Store)) right
    ];
    cells = cells;
  }

-- "finished entries leave each side from its oldest end"
pub holds-retired : {q : Contents} {m memory : List ℕ} {log : List LogEntry} → Holds q m memory log → Holds (retire q) m memory log
holds-retired {q} {m} {memory} {log} h = record {
  limits = h.limits;
  room = elim [
    | Load ↦ shorter q.stores.entries q.loads.entries (h.room Load)
    | Store ↦ shorter q.loads.entries q.stores.entries (h.room Store)
  ];
  long = h.long;
  opened = h.opened;
  windows = record {
    gone = h.windows.gone + retiring q.loads.entries;
    gone' = h.windows.gone' + retiring q.stores.entries;
    ours = window-leave loads stores loads-stores h.windows.ours (retiring q.stores.entries);
    theirs = window-leave stores loads stores-loads h.windows.theirs (retiring q.loads.entries);
  };
  right = h.right;
  cells = h.cells;
}
  where
    shorter : (others l : List Entry) {n : ℕ} → length l ≤ n → length (map (after_retiring (retiring others)) (after_while finished l)) ≤ n
    shorter others l {n} k =
        rw (length-map (after_while finished l) (after_retiring (retiring others)))
        (let d : length (after_while finished l) ≤ length l = length-after_while finished l in omega arith)

-- ---- the answers' part

-- a row to which nothing is added, and whose places are as they were
pub row_kept : (place : LogEntry → RowPlace) (e e' : LogEntry) → place e ≡ place e' → (post pre : List LogEntry) (row : List ℕ)
    → Row place (pre ++ e ∷ post) row → Row place (pre ++ e' ∷ post) (row ++ [])
row_kept place e e' same post pre row h = rw (append-nil row) (row_same place e e' same post pre row h)

count-anew : (p : LogEntry → Bool) (e e' : LogEntry) (n : ℕ) → count_where p (e' ∷ []) ≡ count_where p (e ∷ []) + n → (pre post : List LogEntry)
    → count_where p (pre ++ e' ∷ post) ≡ count_where p (pre ++ e ∷ post) + n
count-anew p e e' n h pre post = rw (count-append p pre (e' ∷ post), count-append p pre (e ∷ post)) (go (p e) (p e') (count_where p post) h)
  where
    go : (b b' : Bool) (c : ℕ) → pick b' 1 0 ≡ pick b 1 0 + n → count_where p pre + pick b' (suc c) c ≡ count_where p pre + pick b (suc c) c + n
    go true true c k = omega arith
    go true false c k = omega arith
    go false true c k = omega arith
    go false false c k = omega arith

module _ (groups : List GroupPairs) (answered : List Answered) (a : Answered) (pre : List LogEntry) (e e' : LogEntry) (post : List LogEntry) where
  pub seen-anew : LogSeen groups answered (pre ++ e ∷ post) → access_of e' ≡ access_of e → accesses groups (tell a ∷ []) ≡ []
      → ((kind : Argument) (port : ℕ)
      → Row (given kind port) (pre ++ e' ∷ post) (rows_of (told answered) kind port ++ rows_of (tell a ∷ []) kind port))
      → ((port : ℕ) → Row (value_taken port) (pre ++ e' ∷ post) (taken_at port answered ++ taken_at port (a ∷ [])))
      → count_where is_served (e' ∷ []) ≡ count_where is_served (e ∷ []) + length (gather serve_of (tell a ∷ []))
      → count_where is_written (e' ∷ []) ≡ count_where is_written (e ∷ []) + length (gather write_of (tell a ∷ []))
      → LogSeen groups (answered ++ a ∷ []) (pre ++ e' ∷ post)
  seen-anew s same no_access rows takes serves writes =
      seen_more groups answered a (pre ++ e' ∷ post) shape rows takes
      (count-anew is_served e e' (length (gather serve_of (tell a ∷ []))) serves pre post
      ∙ ap (λ (n : ℕ). n + length (gather serve_of (tell a ∷ []))) s.serves)
      (count-anew is_written e e' (length (gather write_of (tell a ∷ []))) writes pre post
      ∙ ap (λ (n : ℕ). n + length (gather write_of (tell a ∷ []))) s.writes)
    where
      shape : map access_of (pre ++ e' ∷ post) ≡ map uncounted (accesses groups (told answered)) ++ map uncounted (accesses groups (tell a ∷ []))
      shape =
          map-append access_of pre (e' ∷ post) ∙ ap (λ (x : Access). map access_of pre ++ x ∷ map access_of post) same
          ∙ sym (map-append access_of pre (e ∷ post)) ∙ s.shape
          ∙ sym (append-nil (map uncounted (accesses groups (told answered))))
          ∙ ap (λ (l : List Access). map uncounted (accesses groups (told answered)) ++ map uncounted l) (sym no_access)
