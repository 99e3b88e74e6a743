-- A queued load, at its place in the log: what the plain run loads there, and its origin in every filling.
use Prim.Native.Nat.{ℕ, suc, ◌≤◌, ◌<◌}
use native.Mathlib.Omega.{arith}
use mathlib.Core.Path.{◌≡◌, refl, sym, ap, ◌∙◌}
use mathlib.Core.Bool.{Bool, true, false}
use mathlib.Core.List.{List, [], ◌∷◌, map, map-append}
use mathlib.Core.Option.{Option, some}
use lib.Dec.{eqb}
use lib.ListN.{length, get_or, get_elem?}
use borrow.Author.Tests.{eqb-true, eqb-false, eq-eqb, ne_eqb, ltb-true}
use Rattle.number.specs.Basics.{pick, count_where}
use Rattle.table.specs.Group.{GroupPairs, is_load}
use Rattle.queue.specs.declared.arguments.Argument.TheVariants.{LoadAddress}
use Rattle.queue.specs.Entry.{Entry}
use Rattle.queue.specs.Serve.{from_memory, source}
use Rattle.queue.proofs.Lists.{false-true}
use Rattle.queue.proofs.SourceLaws.{source_from_lem}
use Rattle.sequential.specs.Answers.{Machine, Answered}
use Rattle.sequential.specs.Plain.{rows_of, accesses, Filling, Reading, plain_start, values_from, memory_from}
use Rattle.sequential.specs.Demand3.{told}
use Rattle.sequential.proofs.Log.{LogEntry, of_load, of_store, pair_for, access_of, loads, stores, own_in}
use Rattle.sequential.proofs.Window.{Located}
use Rattle.sequential.proofs.PlainRun.{values-uncounted}
use Rattle.sequential.proofs.Rows.{load_fits}
use Rattle.sequential.proofs.Invariant.{Invariant}
use Rattle.sequential.proofs.Steps.Serve.{queued-in-range}
use Rattle.origins.specs.Origins.{opening, origin_reading, openings, origin_of, used_by, loaded}
use Rattle.origins.specs.Exactly.{TwoOrigins}
use Rattle.origins.proofs.Past.{rows_past, left_past, nth-loads}
use Rattle.origins.proofs.Last.{openings_at, openings-length}
use Rattle.origins.proofs.Fillings.{is_settled, rows_past_lem, left, Under, settled-one, unsettled-two}

pub some_same : {A : Type 0} {x y : A} → ◌≡◌ {A = Option A} (some x) (some y) → x ≡ y
some_same e = cc

pub count-loads : (es : List LogEntry) → count_where is_load (map access_of es) ≡ length (own_in loads es)
count-loads [] = refl
count-loads (of_load l ∷ es) = ap suc (count-loads es)
count-loads (of_store s ∷ es) = count-loads es

-- ---- a queued load of the log, and what the plain run loads there

module _ {groups : List GroupPairs} {memory : List ℕ} {answered : List Answered} {m : Machine} (st : Invariant groups memory answered m)
    {i : ℕ} {pre : List LogEntry} {it : Entry} {post : List LogEntry}
    (l : Located loads stores st.log m.queue.loads.entries m.queue.stores.entries i pre it post) {a : ℕ} (is : it.address ≡ some a) where
  -- its address is in memory
  pub address-low : a < length memory
  address-low = rw (← st.holds.opened) at (ltb-true a m.queue.memory_length (rw is at (queued-in-range st.holds l)))

  -- however missing arguments are filled in, it is the next address that the run finds for it
  address-used : (filled : ℕ) → used_by (rows_of (told answered)) (map access_of pre) LoadAddress it.port filled ≡ a
  address-used filled =
      let past = rows_past_lem pre (of_load it ∷ post) (rows_of (told answered)) (rw l.log_is at st.seen.rows) in
      rw (← left_past (rows_of (told answered)) (map access_of pre) LoadAddress it.port)
      (sym (rw is at (load_fits it post (rows_past (map access_of pre) (rows_of (told answered))) filled past)))

  -- what it loads, as any reading of the run has it
  pub loads-there : {A : Type 0} (reading : Reading A) (s : List A) (fill : Filling)
      → get_elem? (map loaded (values_from reading fill 0 (plain_start s (told answered)) (accesses groups (told answered)))) (length (own_in loads pre))
      ≡ some (get_or (memory_from reading fill 0 (plain_start s (told answered)) (map access_of pre)) a reading.beyond)
  loads-there {A} reading s fill =
      rw (
        ← values-uncounted reading fill 0 (plain_start s (told answered)) (accesses groups (told answered)),
        ← st.seen.shape,
        l.log_is,
        map-append access_of pre (of_load it ∷ post),
        ← count-loads pre,
      )
      (nth-loads reading fill s (rows_of (told answered)) (map access_of pre) (pair_for it) (map access_of post)
      ∙ ap (λ (x : ℕ). some (get_or (memory_from reading fill 0 (plain_start s (told answered)) (map access_of pre)) x reading.beyond))
      (address-used (fill.address (length (map access_of pre)))))

  -- its origin, in a filling
  pub origin-there : (fill : Filling) → origin_of groups memory (told answered) fill (length (own_in loads pre))
      ≡ some (left a (length memory) fill 0 (openings 0 memory) (rows_of (told answered)) pre)
  unfolding origin_of
  origin-there fill = loads-there (origin_reading (length memory)) (openings 0 memory) fill

  opening-low : a < length (openings 0 memory)
  opening-low = rw (openings-length 0 memory) address-low

  -- ---- settled, and not

  pub settled_same : is_settled (source a (own_in stores pre)) ≡ true → (one other : Filling)
      → origin_of groups memory (told answered) one (length (own_in loads pre)) ≡ origin_of groups memory (told answered) other (length (own_in loads pre))
  settled_same e one other =
      origin-there one
      ∙ ap some
      (settled-one a (length memory) one other 0 from_memory (openings 0 memory) (openings 0 memory) (rows_of (told answered)) pre (of_load it ∷ post)
      (rw l.log_is at st.seen.rows) opening-low opening-low (λ k. refl) (rw (← source_from_lem a (own_in stores pre)) e))
      ∙ sym (origin-there other)

  -- every missing address is the load's; none is
  everywhere : Filling
  everywhere = record { address = λ k. a; word = λ k. 0 }

  nowhere : Filling
  nowhere = record { address = λ k. pick (eqb a 0) 1 0; word = λ k. 0 }

  pub unsettled-differ : is_settled (source a (own_in stores pre)) ≡ false → 2 ≤ length memory
      → TwoOrigins groups memory (told answered) (length (own_in loads pre))
  unfolding everywhere nowhere
  unsettled-differ e two = record {
    one = everywhere;
    other = nowhere;
    one_below = λ k. address-low;
    other_below = λ k. other-low (eqb a 0);
    differ = λ same-origin. two-left (some_same (sym (origin-there everywhere) ∙ same-origin ∙ origin-there nowhere));
  }
    where
      under : Under a (length memory) 0 (get_or (openings 0 memory) a (opening (length memory)))
      under = rw (openings_at 0 memory a (opening (length memory)) address-low) tt

      missed : (t : Bool) → eqb a 0 ≡ t → eqb (pick t 1 0) a ≡ false
      missed true z = let zero : a ≡ 0 = eqb-true a 0 z in ne_eqb 1 a (λ p. omega arith)
      missed false z = ne_eqb 0 a (λ p. eqb-false a 0 z (sym p))

      two-left : ¬ (left a (length memory) everywhere 0 (openings 0 memory) (rows_of (told answered)) pre
          ≡ left a (length memory) nowhere 0 (openings 0 memory) (rows_of (told answered)) pre)
      two-left =
          unsettled-two a (length memory) everywhere nowhere (λ k. eq-eqb a a refl) (λ k. missed (eqb a 0) refl) 0 from_memory (openings 0 memory)
          (openings 0 memory) (rows_of (told answered)) pre (of_load it ∷ post) (rw l.log_is at st.seen.rows) opening-low opening-low under
          (λ k. false-true (sym k)) (rw (← source_from_lem a (own_in stores pre)) e)

      other-low : (t : Bool) → pick t 1 0 < length memory
      other-low true = two
      other-low false = omega arith
