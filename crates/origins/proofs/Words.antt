-- The plain run read by origins and read by words goes through the same addresses, so every word in it stays the word of its origin.
use Prim.Native.Nat.{ℕ, suc, ◌+◌}
use native.Mathlib.Nat.{zero-add, add-zero, add-suc, suc-add}
use mathlib.Core.Path.{◌≡◌, refl, sym, ap, ap₂, ◌∙◌}
use mathlib.Core.Bool.{Bool, true, false}
use mathlib.Core.List.{List, [], ◌∷◌, map, map-map}
use mathlib.Core.Option.{Option, some}
use lib.Dec.{eqb}
use lib.ListN.{length, take, get_or, set, get_elem?, get_or-map}
use Rattle.number.specs.Basics.{pick}
use Rattle.table.specs.Group.{GroupPairs, Access, load, store}
use Rattle.queue.specs.declared.arguments.Argument.TheVariants.{LoadAddress, StoreAddress, StoreData}
use Rattle.queue.proofs.ContentsLaws.{map-set}
use Rattle.sequential.specs.Plain.{Told, Rows, rows_of, accesses, Filling, next_of, word_reading, PortValue, plain_start, values_from, values_at, plain_loads}
use Rattle.origins.specs.Origins.{Origin, opening, by, origin_reading, openings, origins_loaded, plain_origins, loaded, store_uses, word_of}
use Rattle.origins.specs.Origins.{OriginsGiveWords}
use Rattle.origins.proofs.Past.{state, rows_after, store-after}

-- what f gives of a value, at the same port
abbrev under : {A B : Type 0} → (A → B) → PortValue A → PortValue B
under f v = record { port = v.port; value = f v.value }

-- ---- the run

-- `word` is the word of each origin: of the accesses that are left, the kth and those after it, and of what is past the memory's end.
module _ (fill : Filling) (word : Origin → Option ℕ) (end : ℕ) (past : word (opening end) ≡ some 0) where
  words-from : (k : ℕ) (m : List ℕ) (s : List Origin) (rows : Rows) (rest : List Access) → map word s ≡ map some m
      → ((i : ℕ) → word (by (k + i)) ≡ store_uses rows (take i rest) StoreData (fill.word (k + i)) (get_elem? rest i))
      → map (under word) (values_from (origin_reading end) fill k (state s rows) rest) ≡ map (under some) (values_from word_reading fill k (state m rows) rest)
  words-from k m s rows [] h d = refl
  words-from k m s rows (load p ∷ rest) h d =
      ap₂ (λ (x : Option ℕ) (xs : List (PortValue (Option ℕ))). record { port = p.port; value = x } ∷ xs) here
      (words-from (suc k) m s (rows_after (load p) rows) rest h
      (λ i. rw (suc-add k i, ← add-suc k i) (d (suc i) ∙ store-after rows (load p) (take i rest) StoreData (fill.word (k + suc i)) (get_elem? rest i))))
    where
      a : ℕ
      a = next_of (rows LoadAddress p.port) (fill.address k)

      here : word (get_or s a (opening end)) ≡ some (get_or m a 0)
      here = sym (get_or-map word s a (opening end)) ∙ rw (h, past) (get_or-map some m a 0)
  words-from k m s rows (store p ∷ rest) h d =
      words-from (suc k) (set m a w) (set s a (by k)) (rows_after (store p) rows) rest
      (map-set word s a (by k) ∙ rw (h, stored) (sym (map-set some m a w)))
      (λ i. rw (suc-add k i, ← add-suc k i) (d (suc i) ∙ store-after rows (store p) (take i rest) StoreData (fill.word (k + suc i)) (get_elem? rest i)))
    where
      a : ℕ
      a = next_of (rows StoreAddress p.port) (fill.address k)

      w : ℕ
      w = next_of (rows StoreData p.port) (fill.word k)

      stored : word (by k) ≡ some w
      stored = rw (add-zero k) at (d 0)

-- ---- the opening

openings-words : (word : Origin → Option ℕ) (a : ℕ) (m : List ℕ) → ((i : ℕ) → word (opening (a + i)) ≡ some (get_or m i 0))
    → map word (openings a m) ≡ map some m
openings-words word a [] h = refl
openings-words word a (w ∷ m) h =
    ap₂ (λ (x : Option ℕ) (xs : List (Option ℕ)). x ∷ xs) (rw (add-zero a) at (h 0))
    (openings-words word (suc a) m (λ i. rw (suc-add a i, ← add-suc a i) (h (suc i))))

get_d_end : (m : List ℕ) → get_or m (length m) 0 ≡ 0
get_d_end [] = refl
get_d_end (w ∷ m) = get_d_end m

-- ---- all loads, those of a port, the nth

module _ (groups : List GroupPairs) (memory : List ℕ) (ts : List Told) (fill : Filling) where
  abbrev pub words_loaded : List (PortValue ℕ)
  words_loaded = values_from word_reading fill 0 (plain_start memory ts) (accesses groups ts)

  all_words : map (under (word_of groups memory ts fill)) (origins_loaded groups memory ts fill) ≡ map (under some) words_loaded
  all_words =
      words-from fill (word_of groups memory ts fill) (length memory) (ap some (get_d_end memory)) 0 memory (openings 0 memory) (rows_of ts)
      (accesses groups ts)
      (openings-words (word_of groups memory ts fill) 0 memory (λ i. rw (zero-add i)))
      (λ i. rw (zero-add i))

  -- The words that the loads load, in order, are those of their origins.
  pub loads-give-words : map (word_of groups memory ts fill) (map loaded (origins_loaded groups memory ts fill)) ≡ map some (map loaded words_loaded)
  loads-give-words =
      map-map (word_of groups memory ts fill) loaded (origins_loaded groups memory ts fill)
      ∙ sym (map-map loaded (under (word_of groups memory ts fill)) (origins_loaded groups memory ts fill))
      ∙ ap (map loaded) all_words ∙ map-map loaded (under some) words_loaded ∙ sym (map-map some loaded words_loaded)

values_at_under : {A B : Type 0} (f : A → B) (port : ℕ) (l : List (PortValue A)) → values_at port (map (under f) l) ≡ map f (values_at port l)
values_at_under f port [] = refl
values_at_under {A} {B} f port (v ∷ l) = go (eqb v.port port) (values_at_under f port l)
  where
    go : (t : Bool) → values_at port (map (under f) l) ≡ map f (values_at port l)
        → pick t (f v.value ∷ values_at port (map (under f) l)) (values_at port (map (under f) l))
        ≡ map f (pick t (v.value ∷ values_at port l) (values_at port l))
    go true h = ap (λ (r : List B). f v.value ∷ r) h
    go false h = h

pub origins_give_words : OriginsGiveWords
unfolding plain_loads plain_origins
origins_give_words groups memory ts fill port =
    sym (values_at_under (word_of groups memory ts fill) port (origins_loaded groups memory ts fill))
    ∙ ap (values_at port) (all_words groups memory ts fill) ∙ values_at_under some port (words_loaded groups memory ts fill)
