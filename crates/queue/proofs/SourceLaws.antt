-- Where a load's word comes from, by the stores before it. Whoever reasons about a source does so by these laws.
use Rattle.std.proofs.Common.{◌≡◌, ℕ, Bool, true, false, not, eqb, List, [], ◌∷◌, ◌++◌, map, length, get_or}
use Rattle.std.proofs.Common.{sym, refl, ap, ◌∙◌, eq-eqb, ne_eqb}
use mathlib.Core.List.{reverse_aux, map-append}
use mathlib.Core.Option.{Option, none, some}
use borrow.Author.Tests.{not-true, not-false}
use Rattle.number.specs.Basics.{pick, all_of, is_some}
use Rattle.number.specs.Reply.{accept}
use Rattle.number.proofs.Both.{and_left, and_right}
use Rattle.queue.specs.declared.Entry.{Entry as EntryStruct}
use Rattle.queue.specs.Entry.{Entry, data_of, written, entry_of, entry_in, unpacked}
use Rattle.queue.specs.Internal.{entries_in}
use Rattle.queue.specs.Touch.{apart, same, touch}
use Rattle.queue.specs.Serve.{Source, unsettled, from_store, from_memory, decided, walk_back, source, SourcesAreWalked, Loaded, loaded_from}
use Rattle.queue.proofs.Lists.{false-true}

abbrev pub has_address : Entry → Bool
has_address s = is_some s.address

-- ---- the walk, told from the oldest store on: the last one that is not passed decides
abbrev pub past_store : ℕ → Entry → Source → Source
past_store a s found = decided (touch a s.address) (written s) (data_of s) found

abbrev pub source_from : ℕ → Source → List Entry → Source
source_from a found [] = found
source_from a found (s ∷ ss) = source_from a (past_store a s found) ss

back_from : (a : ℕ) (ss near : List Entry) → walk_back a (reverse_aux ss near) ≡ source_from a (walk_back a near) ss
back_from a [] near = refl
back_from a (s ∷ ss) near = back_from a ss (s ∷ near)

pub source_from_lem : (a : ℕ) (ss : List Entry) → source a ss ≡ source_from a from_memory ss
unfolding source
source_from_lem a ss = back_from a ss []

from_append : (a : ℕ) (found : Source) (xs ys : List Entry) → source_from a found (xs ++ ys) ≡ source_from a (source_from a found xs) ys
from_append a found [] ys = refl
from_append a found (s ∷ xs) ys = from_append a (past_store a s found) xs ys

pub source_append : (a : ℕ) (xs ys : List Entry) → source a (xs ++ ys) ≡ source_from a (source a xs) ys
source_append a xs ys =
    source_from_lem a (xs ++ ys) ∙ from_append a from_memory xs ys ∙ ap (λ (x : Source). source_from a x ys) (sym (source_from_lem a xs))

-- ---- the paper's sentences
pub sources_are_walked : SourcesAreWalked
sources_are_walked a = (
  source_from_lem a [],
  λ older s. record {
    unaddressed = λ is. nearest older s ∙ rw is;
    supplies = λ is w. nearest older s ∙ rw (is, eq-eqb a a refl, w);
    sends = λ is w. nearest older s ∙ rw (is, eq-eqb a a refl, w);
    passes = λ b is other. nearest older s ∙ rw (is, ne_eqb b a other);
  },
)
  where
    nearest : (older : List Entry) (s : Entry) → source a (older ++ s ∷ []) ≡ past_store a s (source a older)
    nearest older s = source_append a older (s ∷ [])

-- ---- a store to the load's address decides, whatever lies farther back
module _ (e : EntryStruct) (farther : Source) where
  pub matched-written : e.finished ≡ true → from_memory ≡ decided same (written (entry_of e)) (data_of (entry_of e)) farther
  matched-written h = rw h

  pub matched-unwritten : e.finished ≡ false → {word : Option ℕ} → word ≡ data_of (entry_of e)
      → from_store word ≡ decided same (written (entry_of e)) (data_of (entry_of e)) farther
  matched-unwritten h k = rw h (ap from_store k)

-- ---- the walk back of the code: what is left of the stores decides as all of them do
pub record WalkedBack (a : ℕ) (stores left : List ℕ) : Type 0 where
  pub is : source a (entries_in left) ≡ source a (entries_in stores)

pub back_none : {a : ℕ} {stores : List ℕ} → WalkedBack a stores stores
back_none = record { is = refl }

module _ {a : ℕ} {stores left : List ℕ} (w : WalkedBack a stores left) where
  -- the nearest of those left
  module _ (farther : List ℕ) (n : ℕ) (nearest : left ≡ farther ++ n ∷ []) (e : EntryStruct) (here : e ≡ unpacked n) where
    step : past_store a (entry_of e) (source a (entries_in farther)) ≡ source a (entries_in stores)
    step =
        ap (λ (s : EntryStruct). past_store a (entry_of s) (source a (entries_in farther))) here
        ∙ sym (source_append a (entries_in farther) (entry_in n ∷ []))
        ∙ ap (source a) (sym (map-append entry_in farther (n ∷ [])))
        ∙ ap (λ (l : List ℕ). source a (entries_in l)) (sym nearest)
        ∙ w.is

    pub back-unknown : not e.addressed ≡ true → unsettled ≡ source a (entries_in stores)
    back-unknown h = rw (not-true e.addressed h) at step

    module _ (known : not e.addressed ≡ false) where
      addressed : e.addressed ≡ true
      addressed = not-false e.addressed known

      pub back-matched : e.address ≡ a → {x : Source} → ((farther : Source) → x ≡ decided same (written (entry_of e)) (data_of (entry_of e)) farther)
          → x ≡ source a (entries_in stores)
      back-matched k found = found (source a (entries_in farther)) ∙ rw (addressed, eq-eqb e.address a k) at step

      pub back-passed : (e.address ≡ a → ⊥) → WalkedBack a stores farther
      back-passed k = record { is = rw (addressed, ne_eqb e.address a k) at step }

pub back_end : {a : ℕ} {stores : List ℕ} (left : List ℕ) → WalkedBack a stores left → length left ≡ 0
    → from_memory ≡ source a (entries_in stores)
unfolding source
back_end [] w h = w.is
back_end (n ∷ left) w h = cc

-- ---- the word that a source gives, where `word` is the memory word; none where the serve is refused
abbrev pub word_from : ℕ → Source → Option ℕ
word_from word unsettled = none
word_from word (from_store own) = own
word_from word from_memory = some word

pub loaded_word : (m : List ℕ) (a : ℕ) (x : Source) (v : Loaded) → loaded_from m a x ≡ accept v → word_from (get_or m a 0) x ≡ some v.value
loaded_word m a unsettled v h = cc
loaded_word m a (from_store none) v h = cc
loaded_word m a (from_store (some w)) v h = let e : record { value = w; forwarded = true } ≡ v = cc in ap (λ (x : Loaded). some x.value) e
loaded_word m a from_memory v h = let e : record { value = get_or m a 0; forwarded = false } ≡ v = cc in ap (λ (x : Loaded). some x.value) e

-- ---- a source goes by the stores' addresses, data and marks, and not by what they remember
module _ {A : Type 0} (f g : A → Entry) (address : (x : A) → (f x).address ≡ (g x).address) (word : (x : A) → data_of (f x) ≡ data_of (g x))
    (done : (x : A) → written (f x) ≡ written (g x)) (a : ℕ) where
  from-alike : (found : Source) (xs : List A) → source_from a found (map f xs) ≡ source_from a found (map g xs)
  from-alike found [] = refl
  from-alike found (x ∷ xs) = rw (address x, word x, done x) (from-alike (past_store a (g x) found) xs)

  pub source-alike : (xs : List A) → source a (map f xs) ≡ source a (map g xs)
  source-alike xs = source_from_lem a (map f xs) ∙ from-alike from_memory xs ∙ sym (source_from_lem a (map g xs))

-- ---- written stores with an address leave a load to memory
past_written : (a : ℕ) (s : Entry) → written s ≡ true → has_address s ≡ true → past_store a s from_memory ≡ from_memory
past_written a s done = go s.address
  where
    at : (t : Bool) → decided (pick t same apart) (written s) (data_of s) from_memory ≡ from_memory
    at true = rw done
    at false = refl

    go : (o : Option ℕ) → is_some o ≡ true → decided (touch a o) (written s) (data_of s) from_memory ≡ from_memory
    go none h = false-true h
    go (some b) h = at (eqb b a)

from_written : (a : ℕ) (past : List Entry) → all_of written past ≡ true → all_of has_address past ≡ true
    → source_from a from_memory past ≡ from_memory
from_written a [] h k = refl
from_written a (s ∷ past) h k =
    rw (past_written a s (and_left (written s) (all_of written past) h) (and_left (has_address s) (all_of has_address past) k))
    (from_written a past (and_right (written s) (all_of written past) h) (and_right (has_address s) (all_of has_address past) k))

pub source-memory : (a : ℕ) (ss : List Entry) → all_of written ss ≡ true → all_of has_address ss ≡ true → source a ss ≡ from_memory
source-memory a ss h k = source_from_lem a ss ∙ from_written a ss h k

pub source-written : (a : ℕ) (past ss : List Entry) → all_of written past ≡ true → all_of has_address past ≡ true
    → source a (past ++ ss) ≡ source a ss
source-written a past ss h k = source_append a past ss ∙ rw (source-memory a past h k) (sym (source_from_lem a ss))
