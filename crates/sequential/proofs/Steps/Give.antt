-- An accepted argument keeps the invariant: it joins the row of its kind and port, and the first entry that waits has it.
use Prim.Native.Nat.{ℕ}
use native.Mathlib.Nat.{add-zero}
use mathlib.Core.Path.{◌≡◌, refl, sym, ap, ◌∙◌, subst}
use mathlib.Core.Logic.{◌⊎◌, inl, inr}
use mathlib.Core.Bool.{Bool, true, false, not, ◌&&◌}
use mathlib.Core.List.{List, [], ◌∷◌, ◌++◌, map}
use mathlib.Core.Option.{Option, none, some}
use lib.Dec.{eqb}
use lib.ListN.{get_elem?}
use borrow.Author.Tests.{eqb-true}
use Rattle.number.specs.Basics.{pick, any_of, all_of, count_where, is_some}
use Rattle.number.proofs.Both.{and_left, and_right}
use Rattle.table.specs.Group.{GroupPairs}
use Rattle.queue.specs.declared.Kind.{Kind}
use Rattle.queue.specs.declared.Kind.TheVariants.{Load, Store}
use Rattle.queue.specs.declared.arguments.Argument.{Argument}
use Rattle.queue.specs.declared.arguments.Argument.TheVariants.{LoadAddress, StoreAddress, StoreData}
use Rattle.queue.specs.Entry.{Entry, with_before}
use Rattle.queue.specs.Contents.{Contents, side_of, with_entries, first_place}
use Rattle.queue.specs.Arguments.{kind_of, in_range, argument_in, with_argument, lacks, asked_of, argument_given}
use Rattle.queue.specs.Retire.{finished}
use Rattle.queue.proofs.ContentsLaws.{opposite}
use Rattle.queue.proofs.Lists.{is_none, and_both, or_right, implies, implied, all_left, all_middle, all-weaken, any-first, first_passes, first-before}
use Rattle.sequential.specs.Calls.{Give}
use Rattle.sequential.specs.Answers.{Machine, Answered}
use Rattle.sequential.specs.Plain.{cons_option, same_kind, rows_of}
use Rattle.sequential.specs.Demand3.{told, taken_at}
use Rattle.sequential.proofs.Log.{LogEntry, put, opposed, own_in, own_in_append, own_put}
use Rattle.sequential.proofs.Window.{Located, locate, before-log}
use Rattle.sequential.proofs.Lanes.{cell_at}
use Rattle.sequential.proofs.Views.{view}
use Rattle.sequential.proofs.CellLog.{cells-moved}
use Rattle.sequential.proofs.Rows.{Row, given, value_taken, place_for, lacking, row_of_port, none_waits_lem}
use Rattle.sequential.proofs.ArgumentLaws.{place_is, place_filled, place_other, same_kind_lem, rows-kept, others-kept, given_moves, remembered_kept}
use Rattle.sequential.proofs.ArgumentLaws.{before-kept}
use Rattle.sequential.proofs.Invariant.{Invariant, Holds, LogSeen, right_entry, right_store, taken-served, served-addressed, written-full}
use Rattle.sequential.proofs.Invariant.{store_in_range, is_served, is_written}
use Rattle.sequential.proofs.Anew.{windows_of, holds-anew, row_kept, seen-anew}

same_groups : (K : Kind) (q : Contents) (l : List Entry) → (with_entries K q l).groups ≡ q.groups
same_groups Load q l = refl
same_groups Store q l = refl

-- ---- what is right of an entry, with an argument more

right_store_addressed : (words x : ℕ) (s : Entry) → in_range StoreAddress words x ≡ true → right_store words s ≡ true
    → right_store words (with_argument StoreAddress x s) ≡ true
right_store_addressed words x s low h = and_both (go s.finished (is_some s.address) (is_some s.word) (written-full words s h)) low
  where
    go : (w a d : Bool) → implies w (a && d) ≡ true → implies w (true && d) ≡ true
    go false a d k = refl
    go true a d k = and_right a d k

right_store_filled : (words x : ℕ) (s : Entry) → right_store words s ≡ true → right_store words (with_argument StoreData x s) ≡ true
right_store_filled words x s h =
    and_both (go s.finished (is_some s.address) (is_some s.word) (written-full words s h))
    (store_in_range words s h)
  where
    go : (w a d : Bool) → implies w (a && d) ≡ true → implies w (a && true) ≡ true
    go false a d k = refl
    go true a d k = rw (and_left a d k)

right_given : (argument : Argument) (words x : ℕ) (e : Entry) → in_range argument words x ≡ true → right_entry (kind_of argument) words e ≡ true
    → right_entry (kind_of argument) words (with_argument argument x e) ≡ true
right_given LoadAddress words x l low h = and_both (taken-served words l h) (and_both (or_right (not (is_some l.word)) true refl) low)
right_given StoreAddress words x s low h = right_store_addressed words x s low h
right_given StoreData words x s low h = right_store_filled words x s h

-- finished entries lack nothing
nothing-lacking : (argument : Argument) (words : ℕ) (e : Entry) → right_entry (kind_of argument) words e ≡ true → finished e ≡ true
    → is_some (argument_in argument e) ≡ true
nothing-lacking LoadAddress words l r t =
    implied (is_some l.word) (is_some l.address) (served-addressed words l r) (implied l.finished (is_some l.word) (taken-served words l r) t)
nothing-lacking StoreAddress words s r t =
    and_left (is_some s.address) _ (implied s.finished (is_some s.address && is_some s.word) (written-full words s r) t)
nothing-lacking StoreData words s r t =
    and_right (is_some s.address) _ (implied s.finished (is_some s.address && is_some s.word) (written-full words s r) t)

-- ---- the first entry that waits, in the log: no earlier one waits

module _ (argument : Argument) (p x : ℕ) where
  abbrev K : Kind
  K = kind_of argument

  record Waiting (q : Contents) (log : List LogEntry) : Type 0 where
    pre : List LogEntry
    it : Entry
    post : List LogEntry
    place : Located K (opposite K) log (side_of K q).entries (side_of (opposite K) q).entries
        (first_place (lacks argument p) (side_of K q).entries) pre it post
    same_port : eqb it.port p ≡ true
    empty : argument_in argument it ≡ none
    earlier : all_of (λ e. not (lacks argument p e)) (own_in K pre) ≡ true

  lacks-blind : (n : ℕ) (e : Entry) → lacks argument p (with_before n e) ≡ lacks argument p e
  lacks-blind n e = rw (remembered_kept argument n e)

  module _ (q : Contents) (m memory : List ℕ) (log : List LogEntry) (h : Holds q m memory log) where
    abbrev held : List Entry
    held = (side_of K q).entries

    rights : all_of (right_entry K q.memory_length) (own_in K log) ≡ true
    rights = h.right K

    waiting : any_of (lacks argument p) held ≡ true → Waiting q log
    waiting any = found (any-first (lacks argument p) held any)
      where
        at : (y : Entry) → get_elem? held (first_place (lacks argument p) held) ≡ some y
            → (pre : List LogEntry) × (it : Entry) × (post : List LogEntry)
            × Located K (opposite K) log held (side_of (opposite K) q).entries (first_place (lacks argument p) held) pre it post
            → Waiting q log
        at y e (pre, it, post, l) = record {
          pre = pre;
          it = it;
          post = post;
          place = l;
          same_port = and_left (eqb it.port p) (not (is_some (argument_in argument it))) passes;
          empty = is_none (argument_in argument it) (and_right (eqb it.port p) (not (is_some (argument_in argument it))) passes);
          earlier =
              before-log l.before (λ d. not (lacks argument p d)) (λ n d. rw (lacks-blind n d)) (right_entry K q.memory_length)
              (λ d r f. over d (nothing-lacking argument q.memory_length d r f))
              (all_left (right_entry K q.memory_length) (own_in K pre) (own_in K (put K it ∷ post))
              (rw (l.log_is, own_in_append K pre (put K it ∷ post)) at rights))
              (first-before (lacks argument p) held);
        }
          where
            passes : lacks argument p it ≡ true
            passes = let same : y ≡ with_before l.number it = cc l.at in sym (lacks-blind l.number it)
                ∙ (rw same at (first_passes (lacks argument p) held e))

            over : (d : Entry) → is_some (argument_in argument d) ≡ true → not (lacks argument p d) ≡ true
            over d k = rw k (go (eqb d.port p))
              where
                go : (b : Bool) → not (b && false) ≡ true
                go true = refl
                go false = refl

        found : (y : Entry) × (get_elem? held (first_place (lacks argument p) held) ≡ some y) → Waiting q log
        found (y, e) = at y e (locate K (opposite K) (opposed K) (windows_of h K) (first_place (lacks argument p) held) e)

  -- ---- the answers' part
  module _ (groups : List GroupPairs) (answered : List Answered) (pre : List LogEntry) (it : Entry) (post : List LogEntry)
      (same : eqb it.port p ≡ true) (empty : argument_in argument it ≡ none) (earlier : all_of (λ e. not (lacks argument p e)) (own_in K pre) ≡ true)
      (seen : LogSeen groups answered (pre ++ put K it ∷ post)) where
    abbrev after : LogEntry
    after = put K (with_argument argument x it)

    own_row : (port : ℕ) → Row (given argument port) (pre ++ after ∷ post) (rows_of (told answered) argument port ++ pick (eqb p port) (x ∷ []) [])
    own_row =
        row_of_port (given argument) (put K it) after x p pre post
        (place_is argument p it ∙ rw (same, empty)) (place_filled argument p x it ∙ rw same)
        (none_waits_lem K (given argument p) (λ e h. rw (place_other argument p e h)) pre
        (all-weaken (λ e. not (lacks argument p e)) (λ e. not (lacking (given argument p (put K e))))
        (λ e h. rw (place_is argument p e) (go (eqb e.port p) (argument_in argument e) h)) (own_in K pre) earlier))
        (λ port e. let f : eqb it.port port ≡ false = ap (λ (k : ℕ). eqb k port) (eqb-true it.port p same) ∙ e in place_is argument port it
        ∙ rw f (sym (place_filled argument port x it ∙ rw f)))
        (rows_of (told answered) argument) (seen.rows argument)
      where
        go : (b : Bool) (o : Option ℕ) → not (b && not (is_some o)) ≡ true → not (lacking (place_for b o)) ≡ true
        go true none h = h
        go true (some y) h = refl
        go false o h = refl

    row : (k : Argument) (port : ℕ) → Row (given k port) (pre ++ after ∷ post)
        (rows_of (told answered) k port ++ cons_option (pick (same_kind argument k && eqb p port) (some x) none) [])
    row k port = go (rows-kept argument k)
      where
        joins : (b : Bool) → cons_option (pick b (some x) none) [] ≡ pick b (x ∷ []) []
        joins true = refl
        joins false = refl

        go : (k ≡ argument) ⊎ ((same_kind argument k ≡ false)
            × ((p₁ x₁ : ℕ) (e : Entry) → given k p₁ (put K e) ≡ given k p₁ (put K (with_argument argument x₁ e))))
            → Row (given k port) (pre ++ after ∷ post)
            (rows_of (told answered) k port ++ cons_option (pick (same_kind argument k && eqb p port) (some x) none) [])
        go (inl is) = rw (is, same_kind_lem argument, joins (eqb p port)) (own_row port)
        go (inr (differs, cells)) =
            rw differs (row_kept (given k port) (put K it) after (cells port x it) post pre (rows_of (told answered) k port) (seen.rows k port))

    seen-given : LogSeen groups (answered ++ record { call = Give argument p x; number = 0; value = none } ∷ []) (pre ++ after ∷ post)
    seen-given =
        let kept = others-kept argument x it in
        seen-anew groups answered (record { call = Give argument p x; number = 0; value = none }) pre (put K it) after post seen
        kept.access refl
        row
        (λ port. row_kept (value_taken port) (put K it) after (kept.value port) post pre (taken_at port answered) (seen.takes port))
        (rw kept.served (sym (add-zero (count_where is_served (put K it ∷ [])))))
        (rw kept.written (sym (add-zero (count_where is_written (put K it ∷ [])))))

-- An accepted argument keeps the invariant.
pub give-keeps : (groups : List GroupPairs) (memory : List ℕ) (answered : List Answered) (m : Machine) → Invariant groups memory answered m
    → (argument : Argument) (port x : ℕ) → in_range argument m.queue.memory_length x ≡ true
    → any_of (lacks argument port) (asked_of argument m.queue) ≡ true
    → Invariant groups memory (answered ++ record { call = Give argument port x; number = 0; value = none } ∷ [])
    (record { queue = argument_given argument port x m.queue; memory = m.memory })
give-keeps groups memory answered m st argument port x low any =
    joined (waiting argument port x m.queue m.memory memory st.log st.holds any)
  where
    joined : Waiting argument port x m.queue st.log
        → Invariant groups memory (answered ++ record { call = Give argument port x; number = 0; value = none } ∷ [])
        (record { queue = argument_given argument port x m.queue; memory = m.memory })
    joined w = record {
      log = w.pre ++ put (kind_of argument) (with_argument argument x w.it) ∷ w.post;
      table = same_groups (kind_of argument) m.queue _ ∙ st.table;
      holds =
          holds-anew st.holds (with_argument argument x) (before-kept argument x) m.memory refl (kind_of argument) w.place
          (right_given argument m.queue.memory_length x w.it low
          (all_middle (right_entry (kind_of argument) m.queue.memory_length) (own_in (kind_of argument) w.pre) (own_in (kind_of argument) w.post) w.it
          (rw (w.place.log_is, own_in_append (kind_of argument) w.pre (put (kind_of argument) w.it ∷ w.post), own_put (kind_of argument) w.it) at
          (st.holds.right (kind_of argument)))))
          (cells-moved m.memory memory w.pre (put (kind_of argument) w.it) (put (kind_of argument) (with_argument argument x w.it)) w.post
          (λ b j. given_moves argument x w.it w.empty (cell_at m.memory b j) b j (map (view b j) w.pre))
          (rw w.place.log_is at st.holds.cells));
      seen =
          seen-given argument port x groups answered w.pre w.it w.post w.same_port w.empty w.earlier
          (subst (LogSeen groups answered) w.place.log_is st.seen);
    }
