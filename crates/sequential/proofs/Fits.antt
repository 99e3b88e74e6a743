-- Every port that a queue holds has five bits, and every word that it or the memory holds has 32: every call keeps it so.
use Prim.Native.Nat.{ℕ, zero, suc, ◌^◌, ◌≤◌, ◌<◌}
use native.Mathlib.Omega.{arith}
use mathlib.Core.Path.{◌≡◌, refl, ◌∙◌, subst}
use mathlib.Core.Bool.{Bool, true, false, ◌&&◌}
use mathlib.Core.List.{List, [], ◌∷◌, map}
use mathlib.Core.Option.{some}
use lib.ListN.{length, get_or, set, get_elem?}
use borrow.Author.Tests.{lt-ltb}
use Rattle.number.specs.Basics.{pick, all_of, after_while}
use Rattle.table.specs.Group.{GroupPairs, blank_pair}
use Rattle.table.specs.Table.{check_table}
use Rattle.table.proofs.OrderOffsets.{GroupRight, table_group_right}
use Rattle.number.specs.Reply.{accept, passed}
use Rattle.queue.specs.Entry.{Entry, data_of, written, with_word, mark_finished}
use Rattle.queue.specs.Contents.{Contents, with_entries, update_at, place_of, side_of, others_before}
use Rattle.queue.specs.Activate.{with_group}
use Rattle.queue.specs.Arguments.{kind_of, with_argument}
use Rattle.queue.specs.Touch.{Touch, apart, unknown, same, touch}
use Rattle.queue.specs.Serve.{Source, unsettled, from_store, from_memory, decided, source, Loaded, loaded_from}
use Rattle.queue.specs.Take.{take_place}
use Rattle.queue.specs.Retire.{finished, after_retiring, retiring, retire}
use Rattle.queue.specs.Internal.{entry_after}
use Rattle.queue.specs.declared.Kind.{Kind}
use Rattle.queue.specs.declared.Kind.TheVariants.{Load, Store}
use Rattle.table.specs.declared.Pair.{Pair}
use Rattle.number.proofs.Both.{and_left, and_right}
use Rattle.queue.proofs.Lists.{false-true, and_both, all_join, all_take, all_map, all-weaken, all_middle, get_elem?_split}
use Rattle.queue.proofs.ActivateLaws.{with_group_is}
use Rattle.queue.proofs.SourceLaws.{past_store, source_from, source_from_lem, word_from, loaded_word}
use Rattle.sequential.specs.Calls.{Call}
use Rattle.sequential.specs.Answers.{Machine, Response, step, machine}
use Rattle.queue.specs.declared.arguments.Argument.{Argument}
use Rattle.queue.specs.declared.arguments.Argument.TheVariants.{LoadAddress, StoreAddress, StoreData}
use Rattle.sequential.specs.RunsExist.{bits_fit, word_fits, argument_fits}
use Rattle.sequential.proofs.Accepted.{Stepped, refused, activated, gave, served, wrote, took, readied, stepped}
use Rattle.sequential.proofs.Stored.{entry_fits}

-- ---- lists all of whose elements pass
module _ {A : Type 0} (p : A → Bool) where
  all_update : (f : A → A) → ((x : A) → p x ≡ true → p (f x) ≡ true) → (i : ℕ) (xs : List A) → all_of p xs ≡ true
      → all_of p (update_at f i xs) ≡ true
  all_update f keeps i [] h = refl
  all_update f keeps zero (x ∷ xs) h = and_both (keeps x (and_left (p x) (all_of p xs) h)) (and_right (p x) (all_of p xs) h)
  all_update f keeps (suc i) (x ∷ xs) h = and_both (and_left (p x) (all_of p xs) h) (all_update f keeps i xs (and_right (p x) (all_of p xs) h))

  all_after_while : (t : A → Bool) (xs : List A) → all_of p xs ≡ true → all_of p (after_while t xs) ≡ true
  all_after_while t [] h = refl
  all_after_while t (x ∷ xs) h = go (t x) (all_after_while t xs (and_right (p x) (all_of p xs) h))
    where
      go : (b : Bool) → all_of p (after_while t xs) ≡ true → all_of p (pick b (after_while t xs) (x ∷ xs)) ≡ true
      go true k = k
      go false k = h

  all_set : (xs : List A) (i : ℕ) (x : A) → all_of p xs ≡ true → p x ≡ true → all_of p (set xs i x) ≡ true
  all_set [] i x h k = refl
  all_set (y ∷ xs) zero x h k = and_both k (and_right (p y) (all_of p xs) h)
  all_set (y ∷ xs) (suc i) x h k = and_both (and_left (p y) (all_of p xs) h) (all_set xs i x (and_right (p y) (all_of p xs) h) k)

  all_get_d : (xs : List A) (i : ℕ) (d : A) → all_of p xs ≡ true → p d ≡ true → p (get_or xs i d) ≡ true
  all_get_d [] i d h k = k
  all_get_d (x ∷ xs) zero d h k = and_left (p x) (all_of p xs) h
  all_get_d (x ∷ xs) (suc i) d h k = all_get_d xs i d (and_right (p x) (all_of p xs) h) k

  all_found : (xs : List A) (i : ℕ) {x : A} → get_elem? xs i ≡ some x → all_of p xs ≡ true → p x ≡ true
  all_found xs i {x} at h = let (b, a, e, l) = get_elem?_split xs i at in all_middle p b a x (rw e at h)

  all-by-place : (d : A) (xs : List A) → ((i : ℕ) → i < length xs → p (get_or xs i d) ≡ true) → all_of p xs ≡ true
  all-by-place d [] h = refl
  all-by-place d (x ∷ xs) h = and_both (h 0 (omega arith)) (all-by-place d xs (λ i k. h (suc i) (omega arith)))

found_place : {A : Type 0} (xs : List A) (i : ℕ) {x : A} → get_elem? xs i ≡ some x → (i < length xs) × (get_or xs i x ≡ x)
found_place [] i h = let e : false ≡ true = cc in false-true e
found_place (y ∷ xs) zero {x} h = (omega arith, cc)
found_place (y ∷ xs) (suc i) h = let (k, e) = found_place xs i h in (omega arith, e)

-- ---- a queue and a memory
pub record Fits (m : Machine) : Type 0 where
  pub entries : (K : Kind) → all_of entry_fits (side_of K m.queue).entries ≡ true
  pub next : (K : Kind) → (side_of K m.queue).next < 2 ^ 32
  pub memory : all_of (bits_fit 32) m.memory ≡ true

-- what a call answers, and what it leaves
pub record Fitting (s : Response) : Type 0 where
  pub number : s.number < 2 ^ 8
  pub value : word_fits s.value ≡ true
  pub left : Fits s.machine

-- the word of an entry that fits
word_of : (e : Entry) → entry_fits e ≡ true → word_fits e.word ≡ true
word_of e h = and_right (bits_fit 5 e.port) (word_fits e.word) h

-- ---- what a served load is given
-- a test that no source fails: it is unsettled, memory, or one of the stores
module _ (p : Source → Bool) (a : ℕ) (h : p unsettled ≡ true) (k : p from_memory ≡ true) where
  passes-from : (found : Source) (ss : List Entry) → p found ≡ true → all_of (λ s. p (from_store (data_of s))) ss ≡ true
      → p (source_from a found ss) ≡ true
  passes-from found [] f t = f
  passes-from found (s ∷ ss) f t =
      passes-from (past_store a s found) ss (at (touch a s.address) (written s))
      (and_right (p (from_store (data_of s))) (all_of (λ s. p (from_store (data_of s))) ss) t)
    where
      at : (x : Touch) (w : Bool) → p (decided x w (data_of s) found) ≡ true
      at apart w = f
      at unknown w = h
      at same true = k
      at same false = and_left (p (from_store (data_of s))) (all_of (λ s. p (from_store (data_of s))) ss) t

  source-passes : (ss : List Entry) → all_of (λ s. p (from_store s.word)) ss ≡ true → p (source a ss) ≡ true
  source-passes ss t = rw (source_from_lem a ss) (passes-from from_memory ss k t)

source_fits : (memory : List ℕ) (a : ℕ) (ss : List Entry) (v : Loaded) → all_of (bits_fit 32) memory ≡ true → all_of entry_fits ss ≡ true
    → loaded_from memory a (source a ss) ≡ accept v → bits_fit 32 v.value ≡ true
source_fits memory a ss v h k e =
    rw (loaded_word memory a (source a ss) v e) at
    (source-passes (λ x. word_fits (word_from (get_or memory a 0) x)) a refl (all_get_d (bits_fit 32) memory a 0 h refl) ss
    (all-weaken entry_fits (λ s. word_fits s.word) word_of ss k))

-- ---- a queue with an entry made anew, with a group, with what is finished retired; a memory with a word written
module _ (q : Contents) (m : List ℕ) (f : Fits (machine q m)) where
  with-anew : (K : Kind) (g : Entry → Entry) → ((e : Entry) → entry_fits e ≡ true → entry_fits (g e) ≡ true) → (i : ℕ)
      → Fits (machine (with_entries K q (update_at g i (side_of K q).entries)) m)
  with-anew Load g keeps i = record {
    entries = elim [ Load ↦ all_update entry_fits g keeps i q.loads.entries (f.entries Load) | Store ↦ f.entries Store ];
    next = elim [ Load ↦ f.next Load | Store ↦ f.next Store ];
    memory = f.memory;
  }
  with-anew Store g keeps i = record {
    entries = elim [ Load ↦ f.entries Load | Store ↦ all_update entry_fits g keeps i q.stores.entries (f.entries Store) ];
    next = elim [ Load ↦ f.next Load | Store ↦ f.next Store ];
    memory = f.memory;
  }

  with-memory : (a w : ℕ) → bits_fit 32 w ≡ true → Fits (machine q (set m a w))
  with-memory a w h = record { entries = f.entries; next = f.next; memory = all_set (bits_fit 32) m a w f.memory h }

  retire-fits : Fits (machine (retire q) m)
  retire-fits = record {
    entries = elim [
      | Load ↦ left q.stores.entries q.loads.entries (f.entries Load)
      | Store ↦ left q.loads.entries q.stores.entries (f.entries Store)
    ];
    next = elim [ Load ↦ f.next Load | Store ↦ f.next Store ];
    memory = f.memory;
  }
    where
      left : (others l : List Entry) → all_of entry_fits l ≡ true → all_of entry_fits (map (after_retiring (retiring others)) (after_while finished l)) ≡ true
      left others l h =
          all_map entry_fits entry_fits (after_retiring (retiring others)) (λ e. refl) (after_while finished l) ∙ all_after_while entry_fits finished l h

  group-fits : (g : GroupPairs) → GroupRight g → Fits (machine (with_group q g) m)
  group-fits g right =
      subst (λ (c : Contents). Fits (machine c m)) (with_group_is q g right) (record {
        entries = elim [
          | Load ↦ all_join entry_fits q.loads.entries _ (f.entries Load) (new (length q.stores.entries) g.loads right.load_port)
          | Store ↦ all_join entry_fits q.stores.entries _ (f.entries Store) (new (length q.loads.entries) g.stores right.store_port)
        ];
        next = elim [ Load ↦ omega arith | Store ↦ omega arith ];
        memory = f.memory;
      })
    where
      new : (others : ℕ) (ps : List Pair) → ((i : ℕ) → i < length ps → (get_or ps i blank_pair).port ≤ 31)
          → all_of entry_fits (map (entry_after others) ps) ≡ true
      new others ps port =
          all_map entry_fits (λ p. bits_fit 5 p.port && true) (entry_after others) (λ p. refl) ps
          ∙ all-by-place (λ p. bits_fit 5 p.port && true) blank_pair ps
          (λ i k. and_both (lt-ltb (get_or ps i blank_pair).port 32 (omega (arith, port i k))) refl)

-- ---- a call
module _ (m : Machine) (f : Fits m) (right : check_table m.queue.groups ≡ passed) where
  abbrev q : Contents
  q = m.queue

  argument-fits : (argument : Argument) (x : ℕ) → bits_fit 32 x ≡ true → (e : Entry) → entry_fits e ≡ true
      → entry_fits (with_argument argument x e) ≡ true
  argument-fits LoadAddress x small e h = h
  argument-fits StoreAddress x small e h = h
  argument-fits StoreData x small e h = and_both (and_left (bits_fit 5 e.port) _ h) small

  fits : {c : Call} {s : Response} → Stepped m c s → argument_fits c ≡ true → Fitting s
  fits (refused n nonzero low) h = record { number = low; value = refl; left = f }
  fits (activated {group} g is room) h =
      let (k, here) = found_place q.groups group is in
      let r : GroupRight g = rw here at (table_group_right q.groups right group g k) in
      record { number = omega arith; value = refl; left = group-fits q m.memory f g r }
  fits (gave {argument} {port} {x} ranged waited) h =
      record { number = omega arith; value = refl; left = with-anew q m.memory f (kind_of argument) (with_argument argument x) (argument-fits argument x h) _ }
  fits (served {counts} {serial} l at s) h =
      let word : bits_fit 32 s.loaded.value ≡ true =
      source_fits m.memory s.may.address (others_before q.stores l) s.loaded f.memory
      (all_take entry_fits l.before q.stores.entries (f.entries Store)) s.may.gives in
      record {
        number = omega arith;
        value = word;
        left =
            with-anew q m.memory f Load (with_word s.loaded.value) (λ e h. and_both (and_left (bits_fit 5 e.port) _ h) word)
            (place_of q.loads serial);
      }
  fits (wrote {serial} s at w) h =
      let place : ℕ = place_of q.stores serial in
      let after : Contents = with_entries Store q (update_at mark_finished place q.stores.entries) in
      let word : word_fits (some w.put.word) ≡ true =
      rw w.may.worded at (word_of s (all_found entry_fits q.stores.entries place at (f.entries Store))) in
      record {
        number = omega arith;
        value = refl;
        left = with-memory (retire after) m.memory (retire-fits after m.memory (with-anew q m.memory f Store mark_finished (λ e h. h) place))
            w.put.address w.put.word word;
      }
  fits (took {port} l v at has) h =
      let place : ℕ = take_place q port in
      let after : Contents = with_entries Load q (update_at mark_finished place q.loads.entries) in
      let word : word_fits (some v) ≡ true = rw has at (word_of l (all_found entry_fits q.loads.entries place at (f.entries Load))) in
      record { number = omega arith; value = word; left = retire-fits after m.memory (with-anew q m.memory f Load mark_finished (λ e h. h) place) }
  fits (readied n low) h = record { number = low; value = refl; left = f }

  pub step_fits : (c : Call) → argument_fits c ≡ true → Fitting (step m c)
  step_fits c h = fits (stepped m c) h
