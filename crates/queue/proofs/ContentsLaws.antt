-- What a queue's record holds, by its places: the entries below a count, and one entry made anew.
use Rattle.std.proofs.Common.{◌≡◌, ℕ, zero, suc, ◌+◌, ◌<◌, ◌≤◌, List, [], ◌∷◌, ◌++◌, map, length, get_or, take, drop, set, refl, ap, ◌∙◌}
use Rattle.std.proofs.Common.{ap₂, le_of_suc-le-suc, not-suc-le-zero, add-one, length-set, get_or-take, drop-cons}
use mathlib.Core.Option.{none, some}
use lib.ListN.{length-map, get_or-map, get_elem?}
use lib.Seq.{take-set-lt}
use Rattle.std.proofs.lemmas.List.{drop-set-lt, take-append-drop}
use Rattle.number.specs.Basics.{held}
use Rattle.number.proofs.HeldLaws.{held-few, held-here, held-length, held-take}
use Rattle.queue.specs.declared.Kind.{Kind}
use Rattle.queue.specs.declared.Kind.TheVariants.{Load as load, Store as store}
use Rattle.queue.specs.declared.Side.{Side as SideStruct}
use Rattle.queue.specs.declared.Queue.{Queue}
use Rattle.queue.specs.Entry.{Entry, entry_in}
use Rattle.queue.specs.Contents.{entries_held, contents_of, of_kind, side_of, with_entries, update_at, age, oldest, place_of}
use Rattle.queue.specs.Parts.{queue_of}
use Rattle.queue.specs.Internal.{MadeAnew}
use Rattle.queue.proofs.Lists.{take-map}

-- ---- a list's places
module _ {A : Type 0} where
  pub get_elem?_get_d : (l : List A) (i : ℕ) (d : A) → i < length l → get_elem? l i ≡ some (get_or l i d)
  get_elem?_get_d [] i d h = absurd (not-suc-le-zero h)
  get_elem?_get_d (x ∷ l) zero d h = refl
  get_elem?_get_d (x ∷ l) (suc i) d h = get_elem?_get_d l i d (le_of_suc-le-suc h)

  pub get_elem?_past : (l : List A) (i : ℕ) → length l ≤ i → get_elem? l i ≡ none
  get_elem?_past [] i h = refl
  get_elem?_past (x ∷ l) zero h = absurd (not-suc-le-zero h)
  get_elem?_past (x ∷ l) (suc i) h = get_elem?_past l i (le_of_suc-le-suc h)

  -- an element made anew is one put in its place
  pub update-set : (f : A → A) (l : List A) (i : ℕ) (d : A) → update_at f i l ≡ set l i (f (get_or l i d))
  update-set f [] i d = refl
  update-set f (x ∷ l) zero d = refl
  update-set f (x ∷ l) (suc i) d = rw (update-set f l i d)

  pub map-set : {B : Type 0} (f : A → B) (l : List A) (i : ℕ) (x : A) → map f (set l i x) ≡ set (map f l) i (f x)
  map-set f [] i x = refl
  map-set f (y ∷ l) zero x = refl
  map-set {B} f (y ∷ l) (suc i) x = ap (λ (t : List B). f y ∷ t) (map-set f l i x)

-- ---- what is made of the elements that a count and a list hold: of entries, of groups
module _ {A B : Type 0} (f : A → B) (blank : A) (n : ℕ) (l : List A) where
  -- as many as the count, whatever the list
  pub mapped-length : length (map f (held blank n l)) ≡ n
  mapped-length = length-map (held blank n l) f ∙ held-length blank n l

  -- the first of them
  pub mapped-take : (m : ℕ) → m ≤ n → take m (map f (held blank n l)) ≡ map f (held blank m l)
  mapped-take m k = take-map f m (held blank n l) ∙ ap (map f) (held-take blank n l m k)

  pub mapped_at : (i : ℕ) → i < n → get_or (map f (held blank n l)) i (f blank) ≡ f (get_or l i blank)
  mapped_at i k = get_or-map f (held blank n l) i blank ∙ rw (held-here blank n l i k)

  pub mapped_get_elem? : (i : ℕ) → i < n → get_elem? (map f (held blank n l)) i ≡ some (f (get_or l i blank))
  mapped_get_elem? i k = get_elem?_get_d (map f (held blank n l)) i (f blank) (rw mapped-length k) ∙ rw (mapped_at i k)

  -- those from the ith on: what a walk over them comes to
  pub mapped-here : (i : ℕ) → i < n → drop i (map f (held blank n l)) ≡ f (get_or l i blank) ∷ drop (i + 1) (map f (held blank n l))
  mapped-here i k = rw (add-one, ← mapped_at i k) (drop-cons (map f (held blank n l)) i (f blank) (rw mapped-length k))

  -- within the list
  pub mapped-few : n ≤ length l → map f (held blank n l) ≡ map f (take n l)
  mapped-few h = rw (held-few blank n l h)

-- one entry made anew
pub entries-anew : (n : ℕ) (l : List ℕ) → n ≤ length l → {f : Entry → Entry} (i : ℕ) {left : List ℕ} → i < n → MadeAnew f i l left
    → entries_held n left ≡ update_at f i (entries_held n l)
entries-anew n l h {f} i k w =
    let put : entries_held n (set l i w.number) ≡ set (entries_held n l) i (entry_in w.number) =
    rw (mapped-few entry_in 0 n (set l i w.number) (rw length-set h), mapped-few entry_in 0 n l h, ← map-set entry_in (take n l) i w.number)
    (ap (map entry_in) (take-set-lt n l i w.number k)) in
    ap (entries_held n) w.leaves ∙ put ∙ rw (update-set f (entries_held n l) i (entry_in 0), mapped_at entry_in 0 n l i k, w.holds)

-- the same, where it is made anew in the run of those that count
pub anew-held : (n : ℕ) (l : List ℕ) {f : Entry → Entry} {i : ℕ} {left : List ℕ} → i < n → MadeAnew f i (take n l) left → MadeAnew f i l (left ++ drop n l)
anew-held n l {f} {i} k w =
    record {
      number = w.number;
      holds = w.holds ∙ ap (λ (x : ℕ). f (entry_in x)) (get_or-take n l i 0 k);
      leaves = rw (w.leaves, ← take-set-lt n l i w.number k, ← drop-set-lt n l i w.number k) (take-append-drop n (set l i w.number));
    }

-- ---- a side of a queue, by its kind
-- its record, and its run of numbers
abbrev pub counts_of : Kind → Queue → SideStruct
counts_of kind q = of_kind kind q.frame.loads q.frame.stores

abbrev pub numbers_of : Kind → Queue → List ℕ
numbers_of kind q = of_kind kind q.load_entries q.store_entries

abbrev pub with_numbers : Kind → Queue → List ℕ → Queue
with_numbers load q left = queue_of q.frame left q.store_entries
with_numbers store q left = queue_of q.frame q.load_entries left

abbrev pub opposite : Kind → Kind
opposite load = store
opposite store = load

pub same_numbers : (kind : Kind) (q : Queue) → with_numbers kind q (numbers_of kind q) ≡ q
same_numbers load q = refl
same_numbers store q = refl

pub words-held : (q : Queue) → (contents_of q).memory_length ≡ q.frame.memory_length
unfolding contents_of
words-held q = refl

pub side-held : (kind : Kind) (q : Queue) → (side_of kind (contents_of q)).entries ≡ entries_held (counts_of kind q).count (numbers_of kind q)
unfolding contents_of
side-held load q = refl
side-held store q = refl

pub side-depth : (kind : Kind) (q : Queue) → (side_of kind (contents_of q)).depth ≡ (counts_of kind q).depth
unfolding contents_of
side-depth load q = refl
side-depth store q = refl

pub side_next : (kind : Kind) (q : Queue) → (side_of kind (contents_of q)).next ≡ (counts_of kind q).next
unfolding contents_of
side_next load q = refl
side_next store q = refl

module _ (kind : Kind) (q : Queue) where
  pub side-count : length (side_of kind (contents_of q)).entries ≡ (counts_of kind q).count
  side-count = ap length (side-held kind q) ∙ mapped-length entry_in 0 (counts_of kind q).count (numbers_of kind q)

  -- the place that a serial names
  pub side-place : (serial : ℕ) → place_of (side_of kind (contents_of q)) serial ≡ age (oldest (counts_of kind q).next (counts_of kind q).count) serial
  side-place serial = ap₂ (λ (next n : ℕ). age (oldest next n) serial) (side_next kind q) side-count

  -- the entry at a place
  pub side-get_elem? : (i : ℕ) → i < (counts_of kind q).count → get_elem? (side_of kind (contents_of q)).entries i ≡ some (entry_in (get_or (numbers_of kind q) i 0))
  side-get_elem? i k =
      ap (λ (l : List Entry). get_elem? l i) (side-held kind q) ∙ mapped_get_elem? entry_in 0 (counts_of kind q).count (numbers_of kind q) i k

  pub side-past : (i : ℕ) → (counts_of kind q).count ≤ i → get_elem? (side_of kind (contents_of q)).entries i ≡ none
  side-past i k = get_elem?_past (side_of kind (contents_of q)).entries i (rw side-count k)

  -- the oldest entries
  pub side-take : (m : ℕ) → m ≤ (counts_of kind q).count → take m (side_of kind (contents_of q)).entries ≡ entries_held m (numbers_of kind q)
  side-take m k = ap (take m) (side-held kind q) ∙ mapped-take entry_in 0 (counts_of kind q).count (numbers_of kind q) m k

-- one entry made anew
pub side-anew : (kind : Kind) (q : Queue) {f : Entry → Entry} (i : ℕ) {left : List ℕ} → (counts_of kind q).count ≤ length (numbers_of kind q)
    → i < (counts_of kind q).count → MadeAnew f i (numbers_of kind q) left
    → contents_of (with_numbers kind q left) ≡ with_entries kind (contents_of q) (update_at f i (side_of kind (contents_of q)).entries)
unfolding contents_of
side-anew load q i h k w = rw (entries-anew q.frame.loads.count q.load_entries h i k w)
side-anew store q i h k w = rw (entries-anew q.frame.stores.count q.store_entries h i k w)
