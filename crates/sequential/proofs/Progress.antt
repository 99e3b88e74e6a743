-- Progress: where every access has its arguments and some load is unserved or some store unwritten, the oldest such access of
-- the log stands in the queue, and a serve or write of it is accepted.
use Prim.Native.Nat.{ℕ, suc, ◌^◌, ◌≤◌, ◌<◌}
use native.Mathlib.Omega.{arith}
use mathlib.Core.Path.{◌≡◌, refl, sym, ap, ◌∙◌}
use mathlib.Core.Logic.{◌⊎◌, inl, inr}
use mathlib.Core.Bool.{Bool, true, false, not, ◌&&◌}
use mathlib.Core.List.{List, [], ◌∷◌, ◌++◌, map}
use mathlib.Core.Option.{Option, none, some}
use lib.Dec.{leb, eqb}
use lib.ListN.{length, take, get_elem?}
use borrow.Author.Tests.{eq-eqb, leb-true}
use Rattle.number.specs.Basics.{all_of, count_where, is_some}
use Rattle.table.specs.Group.{GroupPairs, is_load, is_store}
use Rattle.queue.specs.Entry.{Entry, with_before, served, written}
use Rattle.queue.specs.Contents.{Contents, Side, after, oldest, place_of}
use Rattle.queue.specs.Touch.{is_apart, touch}
use Rattle.queue.specs.Sound.{sound, depth_right}
use Rattle.queue.specs.Serve.{from_memory, source, serve}
use Rattle.queue.specs.Write.{no_conflict, write}
use Rattle.queue.specs.Retire.{finished}
use Rattle.queue.specs.declared.Kind.{Kind}
use Rattle.queue.specs.declared.arguments.Argument.{Argument}
use Rattle.queue.specs.declared.arguments.Argument.TheVariants.{LoadAddress, StoreAddress, StoreData}
use Rattle.number.specs.Reply.{number}
use Rattle.number.proofs.Both.{and_left, and_right}
use Rattle.queue.proofs.Lists.{false-true, is_none, and_both, or_left, all_left, all_middle, get_elem?-short}
use Rattle.queue.proofs.SourceLaws.{source-memory, has_address}
use Rattle.queue.proofs.Serials.{place_of_serial, oldest-small, after_small}
use Rattle.sequential.specs.Answers.{Machine, Answered}
use Rattle.sequential.specs.Plain.{rows_of, accesses, cons_option}
use Rattle.sequential.specs.Demand3.{told, uses, some_unserved, some_unwritten, all_arguments, would_move}
use Rattle.sequential.proofs.Log.{LogEntry, of_load, of_store, access_of, loads, stores, own_in, loads-stores, stores-loads, own_in_append, put}
use Rattle.sequential.proofs.Log.{own, put_own}
use Rattle.sequential.proofs.Window.{Located, turned, unfinished-queued, before-queued}
use Rattle.sequential.proofs.PlainRun.{seen-count, loads-uncounted, stores-uncounted, uses-uncounted}
use Rattle.sequential.proofs.Rows.{given, place_for, lacking, row-full, eqb_self}
use Rattle.sequential.proofs.Invariant.{Holds, Invariant, right_load, untaken-unserved, is_served, is_written}
use Rattle.sequential.proofs.ReachedSound.{holds-sound}

-- ---- what is accepted

serve-accepted : (q : Contents) (m : List ℕ) (serial : ℕ) (l : Entry) (a : ℕ) → sound q ≡ true → length m ≡ q.memory_length
    → get_elem? q.loads.entries (place_of q.loads serial) ≡ some l
    → l.word ≡ none → l.address ≡ some a → source a (take l.before q.stores.entries) ≡ from_memory
    → number (serve q m serial) ≡ 0
unfolding serve
serve-accepted q m serial l a right long at unserved address sourced =
    rw (right, eq-eqb (length m) q.memory_length long, at, unserved, address, sourced)

write-accepted : (q : Contents) (m : List ℕ) (serial : ℕ) (s : Entry) (a w : ℕ) → sound q ≡ true → length m ≡ q.memory_length
    → get_elem? q.stores.entries (place_of q.stores serial) ≡ some s
    → s.finished ≡ false → s.address ≡ some a → s.word ≡ some w → all_of (no_conflict served a) (take s.before q.loads.entries) ≡ true
    → all_of (no_conflict written a) (take (place_of q.stores serial) q.stores.entries) ≡ true → number (write q m serial) ≡ 0
unfolding write
write-accepted q m serial s a w right long at unwritten address word loads_apart stores_apart =
    rw (right, eq-eqb (length m) q.memory_length long, at, unwritten, address, word, loads_apart, stores_apart)

-- ---- complete and done entries

abbrev complete : LogEntry → Bool
complete (of_load l) = is_some l.address
complete (of_store s) = is_some s.address && is_some s.word

abbrev is_done : LogEntry → Bool
is_done (of_load l) = is_some l.word
is_done (of_store s) = s.finished

-- a test of entries, read for one kind
all_own : (K : Kind) (p : LogEntry → Bool) (r : Entry → Bool) → ((a : Entry) → p (put K a) ≡ true → r a ≡ true)
    → (es : List LogEntry)
    → all_of p es ≡ true → all_of r (own_in K es) ≡ true
all_own K p r w [] h = refl
all_own K p r w (e ∷ es) h = go (own K e) refl (all_own K p r w es (and_right (p e) (all_of p es) h))
  where
    go : (o : Option Entry) → own K e ≡ o → all_of r (own_in K es) ≡ true → all_of r (cons_option o (own_in K es)) ≡ true
    go none own k = k
    go (some a) own k = let is : e ≡ put K a = put_own K e a own in and_both (w a (rw is at (and_left (p e) (all_of p es) h))) k

filled_some : (port : ℕ) (o : Option ℕ) → not (lacking (place_for (eqb port port) o)) ≡ true → is_some o ≡ true
filled_some port o h = go o (rw (eqb_self port) at h)
  where
    go : (o : Option ℕ) → not (lacking (some o)) ≡ true → is_some o ≡ true
    go none k = k
    go (some x) k = refl

-- where no place waits, every entry is complete
all_complete : (es : List LogEntry) → ((kind : Argument) (port : ℕ) → all_of (λ d. not (lacking (given kind port d))) es ≡ true)
    → all_of complete es ≡ true
all_complete [] h = refl
all_complete (of_load l ∷ es) h =
    and_both (filled_some l.port l.address (and_left (not (lacking (given LoadAddress l.port (of_load l)))) _ (h LoadAddress l.port)))
    (all_complete es (λ kind port. and_right (not (lacking (given kind port (of_load l)))) _ (h kind port)))
all_complete (of_store s ∷ es) h =
    and_both
    (and_both (filled_some s.port s.address (and_left (not (lacking (given StoreAddress s.port (of_store s)))) _ (h StoreAddress s.port)))
    (filled_some s.port s.word (and_left (not (lacking (given StoreData s.port (of_store s)))) _ (h StoreData s.port))))
    (all_complete es (λ kind port. and_right (not (lacking (given kind port (of_store s)))) _ (h kind port)))

place_there : (b : Bool) (o : Option ℕ) → is_some (place_for b o) ≡ b
place_there true o = refl
place_there false o = refl

-- an entry has a place in the row of what its access uses
given_uses : (kind : Argument) (port : ℕ) (e : LogEntry) → is_some (given kind port e) ≡ uses kind port (access_of e)
given_uses LoadAddress port (of_load l) = place_there (eqb l.port port) l.address
given_uses LoadAddress port (of_store s) = refl
given_uses StoreAddress port (of_load l) = refl
given_uses StoreAddress port (of_store s) = place_there (eqb s.port port) s.address
given_uses StoreData port (of_load l) = refl
given_uses StoreData port (of_store s) = place_there (eqb s.port port) s.word

count-uses : (kind : Argument) (port : ℕ) (es : List LogEntry)
    → count_where (λ d. is_some (given kind port d)) es ≡ count_where (uses kind port) (map access_of es)
count-uses kind port [] = refl
count-uses kind port (e ∷ es) = rw (given_uses kind port e, count-uses kind port es)

-- all is done, or there is an oldest entry that is not
first_undone : (es : List LogEntry)
    → (all_of is_done es ≡ true)
    ⊎ ((pre : List LogEntry) × (e : LogEntry) × (post : List LogEntry) × (es ≡ pre ++ e ∷ post) × (all_of is_done pre ≡ true)
    × (is_done e ≡ false))
first_undone [] = inl refl
first_undone (e ∷ es) = go (is_done e) refl (first_undone es)
  where
    Undone : List LogEntry → Type 0
    Undone l = (all_of is_done l ≡ true)
        ⊎ ((pre : List LogEntry) × (d : LogEntry) × (post : List LogEntry) × (l ≡ pre ++ d ∷ post) × (all_of is_done pre ≡ true)
        × (is_done d ≡ false))

    go : (b : Bool) → is_done e ≡ b → Undone es → Undone (e ∷ es)
    go false t rest = inr ([], e, es, refl, refl, t)
    go true t (inl h) = inl (and_both t h)
    go true t (inr (pre, d, post, is, h, f)) = inr (e ∷ pre, d, post, ap (λ (l : List LogEntry). e ∷ l) is, and_both t h, f)

done_served : (es : List LogEntry) → all_of is_done es ≡ true → count_where is_served es ≡ count_where is_load (map access_of es)
done_served [] h = refl
done_served (of_load l ∷ es) h =
    rw (and_left (is_some l.word) (all_of is_done es) h) (ap suc (done_served es (and_right (is_some l.word) (all_of is_done es) h)))
done_served (of_store s ∷ es) h = done_served es (and_right s.finished (all_of is_done es) h)

done_written : (es : List LogEntry) → all_of is_done es ≡ true → count_where is_written es ≡ count_where is_store (map access_of es)
done_written [] h = refl
done_written (of_load l ∷ es) h = done_written es (and_right (is_some l.word) (all_of is_done es) h)
done_written (of_store s ∷ es) h = rw (and_left s.finished (all_of is_done es) h) (ap suc (done_written es (and_right s.finished (all_of is_done es) h)))

is_some_lem : (o : Option ℕ) → is_some o ≡ true → (x : ℕ) × (o ≡ some x)
is_some_lem none h = false-true h
is_some_lem (some x) h = (x, refl)

-- a queued entry's serial: its place is found again by it, since a place is far below the number of serials
serial_of : (s : Side) → depth_right s.depth ≡ true → length s.entries ≤ s.depth → (i : ℕ) {e : Entry} → get_elem? s.entries i ≡ some e
    → (serial : ℕ) × (serial < 2 ^ 32) × (place_of s serial ≡ i)
serial_of s right few i at = (after from i, after_small from i, place_of_serial from i (oldest-small s.next (length s.entries)) small)
  where
    from : ℕ
    from = oldest s.next (length s.entries)

    small : i < 2 ^ 32
    small =
        let short : i < length s.entries = get_elem?-short s.entries i at in
        let depth : s.depth ≤ 64 = leb-true s.depth 64 (and_right (leb 1 s.depth) _ right) in
        omega (arith, few)

-- ---- the oldest undone entry moves

module _ (q : Contents) (m memory : List ℕ) (log : List LogEntry) (h : Holds q m memory log) (filled : all_of complete log ≡ true) where
  right : sound q ≡ true
  right = holds-sound q m memory log h

  load_moves : (pre : List LogEntry) (l : Entry) (post : List LogEntry) → log ≡ pre ++ of_load l ∷ post → all_of is_done pre ≡ true
      → is_some l.word ≡ false
      → would_move (record { queue = q; memory = m })
  load_moves pre l post log_is before unserved =
      go (unfinished-queued loads stores loads-stores h.windows pre l post log_is untaken)
      (is_some_lem l.address (all_middle complete pre post (of_load l) (rw log_is at filled)))
    where
      value : l.word ≡ none
      value = is_none l.word (rw unserved)

      untaken : l.finished ≡ false
      untaken =
          untaken-unserved q.memory_length l
          (all_middle (right_load q.memory_length) (own_in loads pre) (own_in loads post) l
          (rw (log_is, own_in_append loads pre (of_load l ∷ post)) at (h.right loads))) value

      stores_written : all_of finished (own_in stores pre) ≡ true
      stores_written = all_own stores is_done finished (λ s t. t) pre before

      stores_addressed : all_of has_address (own_in stores pre) ≡ true
      stores_addressed = all_own stores complete has_address (λ s t. and_left (is_some s.address) _ t) pre
          (all_left complete pre (of_load l ∷ post) (rw log_is at filled))

      go : (i : ℕ) × Located loads stores log q.loads.entries q.stores.entries i pre l post → (a : ℕ) × (l.address ≡ some a)
          → would_move (record { queue = q; memory = m })
      go (i, place) (a, address) = found (serial_of q.loads h.limits.load_depth_right (h.room loads) i place.at)
        where
          found : (serial : ℕ) × (serial < 2 ^ 32) × (place_of q.loads serial ≡ i) → would_move (record { queue = q; memory = m })
          found (serial, small, is) = (
            serial,
            small,
            inl
                (serve-accepted q m serial (with_before place.number l) a right h.long (ap (get_elem? q.loads.entries) is ∙ place.at) value address
                (source-memory a (take place.number q.stores.entries) (before-queued place.before' finished (λ n s. refl) stores_written)
                (before-queued place.before' has_address (λ n s. refl) stores_addressed))),
          )

  store-moves : (pre : List LogEntry) (s : Entry) (post : List LogEntry) → log ≡ pre ++ of_store s ∷ post → all_of is_done pre ≡ true
      → s.finished ≡ false
      → would_move (record { queue = q; memory = m })
  store-moves pre s post log_is before unwritten =
      go (unfinished-queued stores loads stores-loads (turned h.windows) pre s post log_is unwritten)
      (is_some_lem s.address (and_left (is_some s.address) (is_some s.word) filled-it))
      (is_some_lem s.word (and_right (is_some s.address) (is_some s.word) filled-it))
    where
      filled-it : is_some s.address && is_some s.word ≡ true
      filled-it = all_middle complete pre post (of_store s) (rw log_is at filled)

      loads_apart : (a : ℕ) → all_of (no_conflict served a) (own_in loads pre) ≡ true
      loads_apart a = all_own loads is_done (no_conflict served a) (λ l t. or_left (is_some l.word) (is_apart (touch a l.address)) t) pre before

      stores_apart : (a : ℕ) → all_of (no_conflict written a) (own_in stores pre) ≡ true
      stores_apart a = all_own stores is_done (no_conflict written a) (λ r t. or_left r.finished (is_apart (touch a r.address)) t) pre before

      go : (i : ℕ) × Located stores loads log q.stores.entries q.loads.entries i pre s post → (a : ℕ) × (s.address ≡ some a)
          → (w : ℕ) × (s.word ≡ some w)
          → would_move (record { queue = q; memory = m })
      go (i, place) (a, address) (w, word) = found (serial_of q.stores h.limits.store_depth_right (h.room stores) i place.at)
        where
          found : (serial : ℕ) × (serial < 2 ^ 32) × (place_of q.stores serial ≡ i) → would_move (record { queue = q; memory = m })
          found (serial, small, is) = (
            serial,
            small,
            inr
                (write-accepted q m serial (with_before place.number s) a w right h.long (ap (get_elem? q.stores.entries) is ∙ place.at)
                unwritten address word
                (before-queued place.before' (no_conflict served a) (λ n l. refl) (loads_apart a))
                (rw is (before-queued place.before (no_conflict written a) (λ n r. refl) (stores_apart a)))),
          )

  -- some serve or write would be accepted, unless all is done
  pub undone-moves : (all_of is_done log ≡ true) ⊎ would_move (record { queue = q; memory = m })
  undone-moves = go (first_undone log)
    where
      at : (pre : List LogEntry) (e : LogEntry) (post : List LogEntry) → log ≡ pre ++ e ∷ post → all_of is_done pre ≡ true → is_done e ≡ false
          → would_move (record { queue = q; memory = m })
      at pre (of_load l) post is before undone = load_moves pre l post is before undone
      at pre (of_store s) post is before undone = store-moves pre s post is before undone

      go : (all_of is_done log ≡ true)
          ⊎ ((pre : List LogEntry) × (e : LogEntry) × (post : List LogEntry) × (log ≡ pre ++ e ∷ post) × (all_of is_done pre ≡ true)
          × (is_done e ≡ false))
          → (all_of is_done log ≡ true) ⊎ would_move (record { queue = q; memory = m })
      go (inl h₁) = inl h₁
      go (inr (pre, e, post, is, before, undone)) = inr (at pre e post is before undone)

-- Progress, of a state that calls led to.
pub state-moves : (groups : List GroupPairs) (memory : List ℕ) (answered : List Answered) (m : Machine) → Invariant groups memory answered m
    → (some_unserved groups (told answered) ⊎ some_unwritten groups (told answered)) → all_arguments groups (told answered) → would_move m
state-moves groups memory answered m st undone full = go (undone-moves m.queue m.memory memory st.log st.holds filled) undone
  where
    filled : all_of complete st.log ≡ true
    filled =
        all_complete st.log (λ kind port. row-full (given kind port) st.log (rows_of (told answered) kind port) (st.seen.rows kind port)
        (full kind port ∙ sym (seen-count st.seen (uses kind port) (uses-uncounted kind port)) ∙ sym (count-uses kind port st.log)))

    go : (all_of is_done st.log ≡ true) ⊎ would_move m → (some_unserved groups (told answered) ⊎ some_unwritten groups (told answered)) → would_move m
    go (inr moves) u = moves
    go (inl h) (inl fewer) =
        let e : count_where is_served st.log ≡ count_where is_load (accesses groups (told answered)) = done_served st.log h
        ∙ seen-count st.seen is_load loads-uncounted in
        absurd (omega (arith, st.seen.serves))
    go (inl h) (inr fewer) =
        let e : count_where is_written st.log ≡ count_where is_store (accesses groups (told answered)) = done_written st.log h
        ∙ seen-count st.seen is_store stores-uncounted in
        absurd (omega (arith, st.seen.writes))
