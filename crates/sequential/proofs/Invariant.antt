-- The invariant of a list of calls: one record of named parts. `Holds` is about the queue and the memory, `LogSeen` about what
-- the list was answered; both speak of the same log.
use Prim.Native.Nat.{ℕ, ◌+◌, ◌≤◌}
use native.Mathlib.Nat.{add-zero}
use mathlib.Core.Path.{◌≡◌, refl, sym, ap, ◌∙◌}
use mathlib.Core.Bool.{Bool, true, false, ◌&&◌}
use mathlib.Core.List.{List, [], ◌∷◌, ◌++◌, map, map-append, append-nil, append_assoc}
use mathlib.Core.Option.{Option, none, some}
use lib.Dec.{eqb}
use lib.ListN.{length, length-append, get_elem?}
use Rattle.number.specs.Basics.{pick, all_of, count_where, is_some}
use Rattle.table.specs.Group.{GroupPairs, uncounted}
use Rattle.table.specs.Table.{check_table}
use Rattle.queue.specs.declared.arguments.Argument.{Argument}
use Rattle.queue.specs.declared.Kind.{Kind}
use Rattle.queue.specs.declared.Kind.TheVariants.{Load, Store}
use Rattle.queue.specs.Entry.{Entry}
use Rattle.queue.specs.Contents.{Contents, side_of}
use Rattle.queue.specs.Sound.{depth_right, memory_right, address_right}
use Rattle.number.proofs.Both.{and_left, and_right}
use Rattle.queue.proofs.Lists.{implies}
use Rattle.sequential.specs.Calls.{Call, Ready}
use Rattle.sequential.specs.Answers.{Machine, Answered}
use Rattle.sequential.specs.Plain.{Told, cons_option, gather, activation_of, argument_of, rows_of, accesses_of, in_order, accesses}
use Rattle.sequential.specs.Demand3.{tell, told, take_of, taken_at, serve_of, write_of}
use Rattle.sequential.proofs.Log.{LogEntry, of_load, of_store, access_of, loads, stores, own_in}
use Rattle.sequential.proofs.Window.{Windows}
use Rattle.sequential.proofs.CellLog.{CellsHold}
use Rattle.sequential.proofs.Rows.{Row, given, value_taken, AllRows}
use Rattle.number.specs.Reply.{accepted}

-- what is true of every entry: what is taken was served, what is served or written has its arguments, addresses are in range
abbrev pub right_load : ℕ → Entry → Bool
right_load words l = implies l.finished (is_some l.word) && (implies (is_some l.word) (is_some l.address) && address_right words l.address)

abbrev pub right_store : ℕ → Entry → Bool
right_store words s = implies s.finished (is_some s.address && is_some s.word) && address_right words s.address

pub taken-served : (words : ℕ) (l : Entry) → right_load words l ≡ true → implies l.finished (is_some l.word) ≡ true
taken-served words l h = and_left (implies l.finished (is_some l.word)) _ h

pub served-addressed : (words : ℕ) (l : Entry) → right_load words l ≡ true → implies (is_some l.word) (is_some l.address) ≡ true
served-addressed words l h = and_left (implies (is_some l.word) (is_some l.address)) _ (and_right (implies l.finished (is_some l.word)) _ h)

pub load_in_range : (words : ℕ) (l : Entry) → right_load words l ≡ true → address_right words l.address ≡ true
load_in_range words l h = and_right (implies (is_some l.word) (is_some l.address)) _ (and_right (implies l.finished (is_some l.word)) _ h)

pub written-full : (words : ℕ) (s : Entry) → right_store words s ≡ true → implies s.finished (is_some s.address && is_some s.word) ≡ true
written-full words s h = and_left (implies s.finished (is_some s.address && is_some s.word)) _ h

pub store_in_range : (words : ℕ) (s : Entry) → right_store words s ≡ true → address_right words s.address ≡ true
store_in_range words s h = and_right (implies s.finished (is_some s.address && is_some s.word)) _ h

abbrev pub right_entry : Kind → ℕ → Entry → Bool
right_entry Load words e = right_load words e
right_entry Store words e = right_store words e

pub in_range_lem : (K : Kind) (words : ℕ) (e : Entry) → right_entry K words e ≡ true → address_right words e.address ≡ true
in_range_lem Load words e h = load_in_range words e h
in_range_lem Store words e h = store_in_range words e h

-- what is not served is not taken
pub untaken-unserved : (words : ℕ) (l : Entry) → right_load words l ≡ true → l.word ≡ none → l.finished ≡ false
untaken-unserved words l h e = go l.finished (rw e at (taken-served words l h))
  where
    go : (taken : Bool) → implies taken false ≡ true → taken ≡ false
    go false t = refl
    go true t = sym t

-- what no call changes
pub record Limits (groups : List GroupPairs) (words load_depth store_depth : ℕ) : Type 0 where
  pub load_depth_right : depth_right load_depth ≡ true
  pub store_depth_right : depth_right store_depth ≡ true
  pub words_right : memory_right words ≡ true
  pub table_right : accepted (check_table groups) ≡ true

-- a queue and a memory that the log led to from the opening memory
pub record Holds (q : Contents) (m memory : List ℕ) (log : List LogEntry) : Type 0 where
  pub limits : Limits q.groups q.memory_length q.loads.depth q.stores.depth
  pub room : (K : Kind) → length (side_of K q).entries ≤ (side_of K q).depth
  pub long : length m ≡ q.memory_length
  pub opened : length memory ≡ q.memory_length
  pub windows : Windows loads stores log q.loads.entries q.stores.entries
  pub right : (K : Kind) → all_of (right_entry K q.memory_length) (own_in K log) ≡ true
  pub cells : CellsHold m memory log

-- served loads, written stores
abbrev pub is_served : LogEntry → Bool
is_served (of_load l) = is_some l.word
is_served (of_store s) = false

abbrev pub is_written : LogEntry → Bool
is_written (of_load l) = false
is_written (of_store s) = s.finished

-- the answers so far, counted over the log
pub record LogSeen (groups : List GroupPairs) (answered : List Answered) (log : List LogEntry) : Type 0 where
  pub shape : map access_of log ≡ map uncounted (accesses groups (told answered))
  pub rows : AllRows log (rows_of (told answered))
  pub takes : (port : ℕ) → Row (value_taken port) log (taken_at port answered)
  pub serves : count_where is_served log ≡ length (gather serve_of (told answered))
  pub writes : count_where is_written log ≡ length (gather write_of (told answered))

pub record Invariant (groups : List GroupPairs) (memory : List ℕ) (answered : List Answered) (m : Machine) : Type 0 where
  pub log : List LogEntry
  pub table : m.queue.groups ≡ groups
  pub holds : Holds m.queue m.memory memory log
  pub seen : LogSeen groups answered log

-- ---- one more answer

pub gather_append : {A : Type 0} (f : Call → Option A) (xs ys : List Told) → gather f (xs ++ ys) ≡ gather f xs ++ gather f ys
gather_append f [] ys = refl
gather_append {A} f (t ∷ xs) ys = go t.accepted (f t.call) (gather_append f xs ys)
  where
    go : (b : Bool) (o : Option A) → gather f (xs ++ ys) ≡ gather f xs ++ gather f ys
        → pick b (cons_option o (gather f (xs ++ ys))) (gather f (xs ++ ys)) ≡ pick b (cons_option o (gather f xs)) (gather f xs) ++ gather f ys
    go true none h = h
    go true (some a) h = ap (λ (l : List A). a ∷ l) h
    go false o h = h

pub in_order_append : (groups : List GroupPairs) (xs ys : List ℕ) → in_order groups (xs ++ ys) ≡ in_order groups xs ++ in_order groups ys
in_order_append groups [] ys = refl
in_order_append groups (g ∷ xs) ys =
    rw (in_order_append groups xs ys) (sym (append_assoc (accesses_of (get_elem? groups g)) (in_order groups xs) (in_order groups ys)))

taken_at_append : (port : ℕ) (xs ys : List Answered) → taken_at port (xs ++ ys) ≡ taken_at port xs ++ taken_at port ys
taken_at_append port [] ys = refl
taken_at_append port (a ∷ xs) ys = go (take_of port a.call) (eqb a.number 0) a.value (taken_at_append port xs ys)
  where
    go : (b c : Bool) (o : Option ℕ) → taken_at port (xs ++ ys) ≡ taken_at port xs ++ taken_at port ys
        → pick b (pick c (cons_option o (taken_at port (xs ++ ys))) (taken_at port (xs ++ ys))) (taken_at port (xs ++ ys))
        ≡ pick b (pick c (cons_option o (taken_at port xs)) (taken_at port xs)) (taken_at port xs) ++ taken_at port ys
    go false c o h = h
    go true false o h = h
    go true true none h = h
    go true true (some v) h = ap (λ (l : List ℕ). v ∷ l) h

module _ (groups : List GroupPairs) (answered : List Answered) (a : Answered) where
  gather-told : {A : Type 0} (f : Call → Option A) → gather f (told (answered ++ a ∷ [])) ≡ gather f (told answered) ++ gather f (tell a ∷ [])
  gather-told f = ap (gather f) (map-append tell answered (a ∷ [])) ∙ gather_append f (told answered) (tell a ∷ [])

  -- the log as it is after one more answer, which adds what it adds
  pub seen_more : (log : List LogEntry)
      → map access_of log ≡ map uncounted (accesses groups (told answered)) ++ map uncounted (accesses groups (tell a ∷ []))
      → ((kind : Argument) (port : ℕ) → Row (given kind port) log (rows_of (told answered) kind port ++ rows_of (tell a ∷ []) kind port))
      → ((port : ℕ) → Row (value_taken port) log (taken_at port answered ++ taken_at port (a ∷ [])))
      → count_where is_served log ≡ length (gather serve_of (told answered)) + length (gather serve_of (tell a ∷ []))
      → count_where is_written log ≡ length (gather write_of (told answered)) + length (gather write_of (tell a ∷ []))
      → LogSeen groups (answered ++ a ∷ []) log
  seen_more log shape rows takes serves writes = record {
    shape = shape ∙ sym (ap (map uncounted) (ap (in_order groups) (gather-told activation_of)
        ∙ in_order_append groups (gather activation_of (told answered)) (gather activation_of (tell a ∷ [])))
        ∙ map-append uncounted (accesses groups (told answered)) (accesses groups (tell a ∷ [])));
    rows = λ kind port. rw (gather-told (argument_of kind port)) (rows kind port);
    takes = λ port. rw (taken_at_append port answered (a ∷ [])) (takes port);
    serves = serves ∙ sym (ap length (gather-told serve_of) ∙ length-append (gather serve_of (told answered)) (gather serve_of (tell a ∷ [])));
    writes = writes ∙ sym (ap length (gather-told write_of) ∙ length-append (gather write_of (told answered)) (gather write_of (tell a ∷ [])));
  }

  -- an answer that adds nothing
  silent : (log : List LogEntry) → LogSeen groups answered log → gather activation_of (tell a ∷ []) ≡ []
      → ((kind : Argument) (port : ℕ) → rows_of (tell a ∷ []) kind port ≡ [])
      → ((port : ℕ) → taken_at port (a ∷ []) ≡ []) → gather serve_of (tell a ∷ []) ≡ [] → gather write_of (tell a ∷ []) ≡ []
      → LogSeen groups (answered ++ a ∷ []) log
  silent log s no-group no_row no-take no-serve no_write =
      seen_more log
      (rw (no-group, append-nil (map uncounted (accesses groups (told answered)))) s.shape)
      (λ kind port. rw (no_row kind port, append-nil (rows_of (told answered) kind port)) (s.rows kind port))
      (λ port. rw (no-take port, append-nil (taken_at port answered)) (s.takes port))
      (rw (no-serve, add-zero (length (gather serve_of (told answered)))) s.serves)
      (rw (no_write, add-zero (length (gather write_of (told answered)))) s.writes)

-- a refused call adds nothing
pub seen-refused : (groups : List GroupPairs) (answered : List Answered) (c : Call) (n : ℕ) (o : Option ℕ) → eqb n 0 ≡ false → (log : List LogEntry)
    → LogSeen groups answered log → LogSeen groups (answered ++ record { call = c; number = n; value = o } ∷ []) log
seen-refused groups answered c n o e log s =
    silent groups answered (record { call = c; number = n; value = o }) log s (rw e) (λ kind port. rw e) (λ port. rw e (go (take_of port c))) (rw e) (rw e)
  where
    go : (b : Bool) → ◌≡◌ {A = List ℕ} (pick b [] []) []
    go true = refl
    go false = refl

-- a ready call adds nothing
pub seen-ready : (groups : List GroupPairs) (answered : List Answered) (kind : Kind) (run : List ℕ) (n : ℕ) (log : List LogEntry)
    → LogSeen groups answered log → LogSeen groups (answered ++ record { call = Ready kind run; number = n; value = none } ∷ []) log
seen-ready groups answered kind run n log s =
    silent groups answered (record { call = Ready kind run; number = n; value = none }) log s (go (eqb n 0)) (λ kind port. go (eqb n 0))
    (λ port. refl) (go (eqb n 0)) (go (eqb n 0))
  where
    go : (b : Bool) → ◌≡◌ {A = List ℕ} (pick b [] []) []
    go true = refl
    go false = refl
