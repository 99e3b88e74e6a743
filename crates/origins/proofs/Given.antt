-- What an accepted serve gives is the word that the plain run loads there, and so the word of the load's origin.
use Prim.Native.Nat.{ℕ, zero, suc}
use native.Mathlib.Omega.{arith}
use mathlib.Core.Path.{◌≡◌, refl, sym, ap, ◌∙◌, subst}
use mathlib.Core.List.{List, [], ◌∷◌, ◌++◌, map}
use mathlib.Core.Option.{Option, some}
use lib.ListN.{length, get_or, set, get_elem?}
use Rattle.table.specs.Group.{GroupPairs}
use Rattle.queue.specs.declared.arguments.Argument.TheVariants.{StoreAddress, StoreData}
use Rattle.queue.specs.Entry.{Entry, with_word, with_before}
use Rattle.queue.specs.Contents.{after, place_of, others_before}
use Rattle.queue.specs.Serve.{Served}
use Rattle.queue.proofs.Accepted.{MayServe, Serving, serve_accepts}
use Rattle.sequential.specs.Answers.{Machine, Answered, answers, machine_after}
use Rattle.sequential.specs.Plain.{Rows, rows_of, Filling, next_of, word_reading, plain_start, memory_from}
use Rattle.sequential.specs.Demand3.{told}
use Rattle.sequential.proofs.Log.{LogEntry, of_load, of_store, access_of, loads, stores, own_in, loads-stores}
use Rattle.sequential.proofs.Lanes.{cell_at}
use Rattle.sequential.proofs.Window.{Located, locate}
use Rattle.sequential.proofs.PlainRun.{Cellwise, virtually, cellwise-store, cellwise-load, memory-long}
use Rattle.sequential.proofs.Rows.{AllRows, rows_after_load, rows_after_store, store-fits, word_fits_lem}
use Rattle.sequential.proofs.Invariant.{Invariant}
use Rattle.sequential.proofs.Run.{reached}
use Rattle.sequential.proofs.Steps.Serve.{right-served, served-cells, served-rows}
use Rattle.origins.specs.Origins.{Origin, origin_of, origins_loaded, loaded, word_of}
use Rattle.origins.specs.Exactly.{ServesGiveWords}
use Rattle.origins.proofs.Past.{state, rows_after}
use Rattle.origins.proofs.Words.{words_loaded, loads-give-words}
use Rattle.origins.proofs.Loaded.{some_same, loads-there, origin-there}
use Rattle.origins.proofs.Exactly.{is-nth}

-- ---- every cell agrees at an entry of the log too

cellwise_past : (fill : Filling) (pre rest : List LogEntry) (k : ℕ) (v : ℕ → ℕ → ℕ) (n : List ℕ) (rows : Rows) → AllRows (pre ++ rest) rows
    → Cellwise v n (pre ++ rest) → (v' : ℕ → ℕ → ℕ) × Cellwise v' (memory_from word_reading fill k (state n rows) (map access_of pre)) rest
cellwise_past fill [] rest k v n rows h g = (v, g)
cellwise_past fill (of_load l ∷ pre) rest k v n rows h g =
    cellwise_past fill pre rest (suc k) v n (rows_after (access_of (of_load l)) rows) (rows_after_load l (pre ++ rest) rows h) (λ b j low lane. (g b j low lane).1)
cellwise_past fill (of_store s ∷ pre) rest k v n rows h g =
    cellwise_past fill pre rest (suc k) (virtually s.finished address word v) (set n address word) (rows_after (access_of (of_store s)) rows)
    (rows_after_store s (pre ++ rest) rows h)
    (cellwise-store s address word (store-fits s (pre ++ rest) rows (fill.address k) h) (word_fits_lem s (pre ++ rest) rows (fill.word k) h) v n (pre ++ rest) g)
  where
    address : ℕ
    address = next_of (rows StoreAddress s.port) (fill.address k)

    word : ℕ
    word = next_of (rows StoreData s.port) (fill.word k)

-- ---- the load that is served

nth-map : {A B : Type 0} (f : A → B) (l : List A) (i : ℕ) {x : A} → get_elem? l i ≡ some x → get_elem? (map f l) i ≡ some (f x)
nth-map f [] i e = let z : ◌≡◌ {A = ℕ} 0 1 = cc in absurd (omega arith)
nth-map f (y ∷ l) zero e = cc
nth-map f (y ∷ l) (suc i) e = nth-map f l i e

module _ {groups : List GroupPairs} {memory : List ℕ} {answered : List Answered} {m : Machine} (inv : Invariant groups memory answered m)
    {i : ℕ} {pre : List LogEntry} {it : Entry} {post : List LogEntry}
    (l : Located loads stores inv.log m.queue.loads.entries m.queue.stores.entries i pre it post)
    (s : Serving m.queue m.memory (with_before l.number it)) (fill : Filling) where
  abbrev memory-there : List ℕ
  memory-there = memory_from word_reading fill 0 (plain_start memory (told answered)) (map access_of pre)

  -- it gets the word that the plain run has there
  given-there : s.loaded.value ≡ get_or memory-there s.may.address 0
  given-there =
      go (cellwise_past fill pre rest 0 (cell_at m.memory) memory (rows_of (told answered))
      (served-rows inv.holds l s (rows_of (told answered)) (rw l.log_is at inv.seen.rows))
      (λ b j low lane. (served-cells inv.holds l s b j low lane).agree))
    where
      rest : List LogEntry
      rest = of_load (with_word s.loaded.value it) ∷ post

      long : length memory-there ≡ m.queue.memory_length
      long = memory-long fill 0 (plain_start memory (told answered)) (map access_of pre) ∙ inv.holds.opened

      go : (v : ℕ → ℕ → ℕ) × Cellwise v memory-there rest → s.loaded.value ≡ get_or memory-there s.may.address 0
      go (v, g) =
          cellwise-load (with_word s.loaded.value it) s.may.address s.loaded.value v memory-there post
          (rw long (right-served inv.holds l s)) (rw s.may.addressed) refl g

  word-there : (x : Origin) → origin_of groups memory (told answered) fill (length (own_in loads pre)) ≡ some x
      → word_of groups memory (told answered) fill x ≡ some s.loaded.value
  unfolding origin_of
  word-there x e =
      let n = length (own_in loads pre) in
      let origin = nth-map (word_of groups memory (told answered) fill) (map loaded (origins_loaded groups memory (told answered) fill)) n e in
      let word = nth-map (λ (w : ℕ). some w) (map loaded (words_loaded groups memory (told answered) fill)) n
      (loads-there inv l s.may.addressed word_reading memory fill) in
      some_same (sym origin ∙ ap (λ (r : List (Option ℕ)). get_elem? r n) (loads-give-words groups memory (told answered) fill) ∙ word)
      ∙ ap some (sym given-there)

pub serves_give_words : ServesGiveWords
serves_give_words groups memory m o calls n named r accepted fill low =
    let (right, l, at, s, is) = serve_accepts left.queue left.memory (after o.first n) accepted in
    let (pre, it, post, place) = locate loads stores loads-stores inv.holds.windows (place_of left.queue.loads (after o.first n)) at in
    let same : l ≡ with_before place.number it = cc (at, place.at) in
    let s' : Serving left.queue left.memory (with_before place.number it) =
    record { loaded = s.loaded; may = subst (λ (x : Entry). MayServe left.memory (others_before left.queue.stores x) x s.loaded) same s.may } in
    let nth : length (own_in loads pre) ≡ n = is-nth o calls n named refl at place in
    let origin = origin-there inv place s'.may.addressed fill in (
      _,
      rw nth at origin,
      word-there inv place s' fill _ origin ∙ ap (λ (x : Served). some x.value) is,
    )
  where
    left : Machine
    left = machine_after m calls

    inv : Invariant groups memory (answers m calls) left
    inv = reached o calls
