-- Two fillings and one load: where its walk is settled both give it one origin; where it is not, a filling with the load's address
-- everywhere and one with it nowhere give it two. The accesses before it are here those of the log.
use Prim.Native.Nat.{ℕ, suc, ◌<◌}
use native.Mathlib.Omega.{arith}
use mathlib.Core.Path.{◌≡◌, refl, sym, ◌∙◌}
use mathlib.Core.Bool.{Bool, true, false}
use mathlib.Core.List.{List, [], ◌∷◌, ◌++◌, map}
use mathlib.Core.Option.{Option, none, some}
use lib.Dec.{eqb}
use lib.ListN.{length, get_or, set, length-set}
use Rattle.number.specs.Basics.{pick}
use Rattle.queue.specs.declared.arguments.Argument.{Argument}
use Rattle.queue.specs.declared.arguments.Argument.TheVariants.{StoreAddress}
use Rattle.queue.specs.Entry.{Entry}
use Rattle.queue.specs.Touch.{same, apart, touch}
use Rattle.queue.specs.Serve.{Source, unsettled, from_store, from_memory, decided}
use Rattle.queue.proofs.Lists.{false-true}
use Rattle.queue.proofs.SourceLaws.{past_store, source_from}
use Rattle.sequential.specs.Plain.{Rows, Filling, next_of, memory_from}
use Rattle.sequential.proofs.Log.{LogEntry, of_load, of_store, access_of, stores, own_in}
use Rattle.sequential.proofs.Rows.{Row, given, fed, AllRows, rows_after_load, rows_after_store, store-fits, eqb_self}
use Rattle.origins.specs.Origins.{Origin, opening, by, origin_reading}
use Rattle.origins.proofs.Past.{state, rows_after, rows_past}
use Rattle.origins.proofs.Last.{get_d_put}

abbrev pub is_settled : Source → Bool
is_settled unsettled = false
is_settled (from_store word) = true
is_settled from_memory = true

-- ---- the rows at an entry of the log

pub rows_past_lem : (pre rest : List LogEntry) (rows : Rows) → AllRows (pre ++ rest) rows → AllRows rest (rows_past (map access_of pre) rows)
rows_past_lem [] rest rows h = h
rows_past_lem (of_load l ∷ pre) rest rows h = rows_past_lem pre rest (rows_after (access_of (of_load l)) rows) (rows_after_load l (pre ++ rest) rows h)
rows_past_lem (of_store s ∷ pre) rest rows h = rows_past_lem pre rest (rows_after (access_of (of_store s)) rows) (rows_after_store s (pre ++ rest) rows h)

-- where an entry lacks an argument the row has run out, so that it is filled in
pub none_given : (argument : Argument) (port : ℕ) (e : LogEntry) (es : List LogEntry) (rows : Rows) (filled : ℕ) → AllRows (e ∷ es) rows
    → given argument port e ≡ some none → next_of (rows argument port) filled ≡ filled
none_given argument port e es rows filled h is = go (rows argument port) (rw is at (h argument port))
  where
    go : (row : List ℕ) → fed (some none) (Row (given argument port) es) row → next_of row filled ≡ filled
    go row k = rw k.0

-- a store's address is what its entry has, or what is filled in
store_given : (s : Entry) (es : List LogEntry) (rows : Rows) (filled b : ℕ) → AllRows (of_store s ∷ es) rows → s.address ≡ some b
    → next_of (rows StoreAddress s.port) filled ≡ b
store_given s es rows filled b h is = sym (rw is at (store-fits s es rows filled h))

store-filled : (s : Entry) (es : List LogEntry) (rows : Rows) (filled : ℕ) → AllRows (of_store s ∷ es) rows → s.address ≡ none
    → next_of (rows StoreAddress s.port) filled ≡ filled
store-filled s es rows filled h is = none_given StoreAddress s.port (of_store s) es rows filled h (rw (eqb_self s.port, is))

module _ (a end : ℕ) where
  -- what the run leaves at the address
  abbrev pub left : Filling → ℕ → List Origin → Rows → List LogEntry → Origin
  left fill k s rows pre = get_or (memory_from (origin_reading end) fill k (state s rows) (map access_of pre)) a (opening end)

  -- ---- settled: one origin

  pub settled-one : (f g : Filling) (k : ℕ) (found : Source) (s t : List Origin) (rows : Rows) (pre rest : List LogEntry) → AllRows (pre ++ rest) rows
      → a < length s → a < length t → (is_settled found ≡ true → get_or s a (opening end) ≡ get_or t a (opening end))
      → is_settled (source_from a found (own_in stores pre)) ≡ true → left f k s rows pre ≡ left g k t rows pre
  settled-one f g k found s t rows [] rest h ls lt equal is-settled = equal is-settled
  settled-one f g k found s t rows (of_load l ∷ pre) rest h ls lt equal is-settled =
      settled-one f g (suc k) found s t (rows_after (access_of (of_load l)) rows) pre rest (rows_after_load l (pre ++ rest) rows h) ls lt equal is-settled
  settled-one f g k found s t rows (of_store r ∷ pre) rest h ls lt equal is-settled =
      settled-one f g (suc k) (past_store a r found) (set s (at f) (by k)) (set t (at g) (by k)) (rows_after (access_of (of_store r)) rows) pre rest
      (rows_after_store r (pre ++ rest) rows h) (rw (length-set s (at f) (by k)) ls) (rw (length-set t (at g) (by k)) lt)
      (λ e. rw (get_d_put s (at f) a (by k) (opening end) ls, get_d_put t (at g) a (by k) (opening end) lt) (next r.address refl e)) is-settled
    where
      at : Filling → ℕ
      at fill = next_of (rows StoreAddress r.port) (fill.address k)

      next : (o : Option ℕ) → r.address ≡ o → is_settled (decided (touch a o) r.finished r.word found) ≡ true
          → pick (eqb (at f) a) (by k) (get_or s a (opening end)) ≡ pick (eqb (at g) a) (by k) (get_or t a (opening end))
      next none is e = false-true e
      next (some b) is e =
          rw (store_given r (pre ++ rest) rows (f.address k) b h is, store_given r (pre ++ rest) rows (g.address k) b h is) (go (eqb b a) e)
        where
          go : (y : Bool) → is_settled (decided (pick y same apart) r.finished r.word found) ≡ true
              → pick y (by k) (get_or s a (opening end)) ≡ pick y (by k) (get_or t a (opening end))
          go true e = refl
          go false e = equal e

  -- ---- not settled: two origins

  -- an origin before the kth access
  abbrev pub Under : ℕ → Origin → Type 0
  Under k (opening b) = Unit {0}
  Under k (by j) = j < k

  under_more : (k : ℕ) (x : Origin) → Under k x → Under (suc k) x
  under_more k (opening b) h = record {}
  under_more k (by j) h = omega arith

  not-under : (k : ℕ) (y : Origin) → Under k y → ¬ (by k ≡ y)
  not-under k (opening b) h e = let z : ◌≡◌ {A = ℕ} 0 1 = cc in omega arith
  not-under k (by j) h e = let z : k ≡ j = cc in omega arith

  under-pick : (k : ℕ) (y : Bool) (x : Origin) → Under k x → Under (suc k) (pick y (by k) x)
  under-pick k true x h = omega arith
  under-pick k false x h = under_more k x h

  pub unsettled-two : (f g : Filling) → ((k : ℕ) → eqb (f.address k) a ≡ true) → ((k : ℕ) → eqb (g.address k) a ≡ false)
      → (k : ℕ) (found : Source) (s t : List Origin) (rows : Rows) (pre rest : List LogEntry) → AllRows (pre ++ rest) rows
      → a < length s → a < length t → Under k (get_or t a (opening end))
      → (is_settled found ≡ false → ¬ (get_or s a (opening end) ≡ get_or t a (opening end)))
      → is_settled (source_from a found (own_in stores pre)) ≡ false → ¬ (left f k s rows pre ≡ left g k t rows pre)
  unsettled-two f g hit miss k found s t rows [] rest h ls lt low differ unclear = differ unclear
  unsettled-two f g hit miss k found s t rows (of_load l ∷ pre) rest h ls lt low differ unclear =
      unsettled-two f g hit miss (suc k) found s t (rows_after (access_of (of_load l)) rows) pre rest (rows_after_load l (pre ++ rest) rows h) ls lt
      (under_more k (get_or t a (opening end)) low) differ unclear
  unsettled-two f g hit miss k found s t rows (of_store r ∷ pre) rest h ls lt low differ unclear =
      unsettled-two f g hit miss (suc k) (past_store a r found) (set s (at f) (by k)) (set t (at g) (by k)) (rows_after (access_of (of_store r)) rows) pre rest
      (rows_after_store r (pre ++ rest) rows h) (rw (length-set s (at f) (by k)) ls) (rw (length-set t (at g) (by k)) lt)
      (rw (get_d_put t (at g) a (by k) (opening end) lt) (under-pick k (eqb (at g) a) (get_or t a (opening end)) low))
      (λ e. rw (get_d_put s (at f) a (by k) (opening end) ls, get_d_put t (at g) a (by k) (opening end) lt) (next r.address refl e)) unclear
    where
      at : Filling → ℕ
      at fill = next_of (rows StoreAddress r.port) (fill.address k)

      next : (o : Option ℕ) → r.address ≡ o → is_settled (decided (touch a o) r.finished r.word found) ≡ false
          → ¬ (pick (eqb (at f) a) (by k) (get_or s a (opening end)) ≡ pick (eqb (at g) a) (by k) (get_or t a (opening end)))
      next none is e =
          rw (store-filled r (pre ++ rest) rows (f.address k) h is, store-filled r (pre ++ rest) rows (g.address k) h is, hit k, miss k)
          (not-under k (get_or t a (opening end)) low)
      next (some b) is e =
          rw (store_given r (pre ++ rest) rows (f.address k) b h is, store_given r (pre ++ rest) rows (g.address k) b h is) (go (eqb b a) e)
        where
          known : (written : Bool) → is_settled (decided same written r.word found) ≡ true
          known true = refl
          known false = refl

          go : (y : Bool) → is_settled (decided (pick y same apart) r.finished r.word found) ≡ false
              → ¬ (pick y (by k) (get_or s a (opening end)) ≡ pick y (by k) (get_or t a (opening end)))
          go true e = false-true (sym e ∙ known r.finished)
          go false e = differ e
