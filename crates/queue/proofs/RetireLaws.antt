-- Finished entries leave a side from its oldest end: how many they are, and what the side is without them.
use Rattle.std.proofs.Common.{◌≡◌, ℕ, zero, suc, ◌+◌, ◌-◌, ◌<◌, ◌≤◌, Bool, true, false, List, [], ◌∷◌, ◌++◌, map, length, get_or, take}
use Rattle.std.proofs.Common.{drop, set, sym, refl, ap, ◌∙◌, le_of_suc-le-suc, not-suc-le-zero, add_comm, add-one, arith, length-append}
use Rattle.std.proofs.Common.{length-drop, length-take-le, get_or-drop, take_at, get_or-append-add}
use native.Mathlib.Nat.{sub-zero, zero-sub, suc-sub-suc}
use mathlib.Core.List.{map-map}
use lib.ListN.{length-map}
use lib.Seq.{take-nil}
use Rattle.number.specs.Basics.{pick, held, front_while, after_while}
use Rattle.queue.specs.declared.Frame.{Frame}
use Rattle.queue.specs.declared.Side.{Side as SideStruct}
use Rattle.queue.specs.Entry.{Entry, unpacked, entry_in, number_of}
use Rattle.queue.specs.Contents.{entries_held, contents_of}
use Rattle.queue.specs.Retire.{finished, retiring, after_retiring, retire}
use Rattle.queue.specs.Parts.{queue_of}
use Rattle.queue.specs.Internal.{set_before, Shifted, shorter}
use Rattle.queue.proofs.Lists.{map_same}
use Rattle.queue.proofs.ContentsLaws.{mapped-few, mapped-length}
use Rattle.queue.proofs.EntryLaws.{anew_number}

-- ---- how many leave
pub retiring_most : (l : List Entry) → retiring l ≤ length l
retiring_most [] = omega arith
retiring_most (x ∷ xs) = go (finished x) (retiring_most xs)
  where
    go : (t : Bool) → retiring xs ≤ length xs → length (pick t (x ∷ front_while finished xs) []) ≤ suc (length xs)
    go true h = omega arith
    go false h = omega arith

drop-retiring : (l : List Entry) → drop (retiring l) l ≡ after_while finished l
drop-retiring [] = refl
drop-retiring (x ∷ xs) = go (finished x) (drop-retiring xs)
  where
    go : (t : Bool) → drop (retiring xs) xs ≡ after_while finished xs
        → drop (length (pick t (x ∷ front_while finished xs) [])) (x ∷ xs) ≡ pick t (after_while finished xs) (x ∷ xs)
    go true h = h
    go false h = refl

-- ---- an array whose entries from the kth on are moved to the front, each changed by g: j of them have been moved
pub record Moved {A : Type 0} (g : A → A) (k : ℕ) (old : List A) (j : ℕ) (l : List A) : Type 0 where
  pub is : l ≡ map g (take j (drop k old)) ++ drop j old

front-set : {A : Type 0} (g : A → A) (s old : List A) (j : ℕ) (z : A) → j < length old → j < length s
    → set (map g (take j s) ++ drop j old) j (g (get_or s j z)) ≡ map g (take (suc j) s) ++ drop (suc j) old
front-set g [] old j z h k = absurd (not-suc-le-zero k)
front-set g (x ∷ s) [] j z h k = absurd (not-suc-le-zero h)
front-set g (x ∷ s) (y ∷ old) zero z h k = refl
front-set g (x ∷ s) (y ∷ old) (suc j) z h k = rw (front-set g s old j z (le_of_suc-le-suc h) (le_of_suc-le-suc k))

drop-take : {A : Type 0} (k n : ℕ) (l : List A) → take (n - k) (drop k l) ≡ drop k (take n l)
drop-take zero n l = rw sub-zero
drop-take (suc k) zero l = rw zero-sub
drop-take (suc k) (suc n) [] = take-nil (suc n - suc k)
drop-take (suc k) (suc n) (x ∷ l) = rw suc-sub-suc (drop-take k n l)

drop-map : {A B : Type 0} (f : A → B) (k : ℕ) (l : List A) → drop k (map f l) ≡ map f (drop k l)
drop-map f zero l = refl
drop-map f (suc k) [] = refl
drop-map f (suc k) (x ∷ l) = drop-map f k l

module _ {A : Type 0} {g : A → A} {k : ℕ} {old : List A} where
  module _ {j : ℕ} {l : List A} (w : Moved g k old j l) where
    front-size : j ≤ length (drop k old) → length (map g (take j (drop k old))) ≡ j
    front-size h = length-map (take j (drop k old)) g ∙ length-take-le j (drop k old) h

    pub moved_length : j + k ≤ length old → length l ≡ length old
    moved_length h =
        let q : j ≤ length (drop k old) = rw length-drop (omega arith) in
        ap length w.is ∙ rw (length-append, front-size q, length-drop) (omega arith)

    -- what lies ahead is as it was
    ahead : (z : A) → j + k < length old → get_or l (j + k) z ≡ get_or (drop k old) j z
    ahead z h =
        let q : j ≤ length (drop k old) = rw length-drop (omega arith) in
        rw w.is
        (ap (λ (m : ℕ). get_or (map g (take j (drop k old)) ++ drop j old) (m + k) z) (sym (front-size q))
        ∙ get_or-append-add (map g (take j (drop k old))) (drop j old) k z
        ∙ get_or-drop j old k z
        ∙ ap (λ (m : ℕ). get_or old m z) (add_comm j k)
        ∙ sym (get_or-drop k old j z))

    pub moved_more : (z : A) {v : A} → v ≡ g (get_or l (j + k) z) → j + k < length old → Moved g k old (j + 1) (set l j v)
    moved_more z {v} e h =
        let q : j < length (drop k old) = rw length-drop (omega arith) in
        record { is = rw (e, ahead z h, w.is, add-one) (front-set g (drop k old) old j z (omega arith) q) }

    -- what is held once all that stay have been moved: `f` reads an element, `h` is what becomes of what is read
    pub moved-side : {B : Type 0} (f : A → B) (blank : A) (h : B → B) → ((x : A) → f (g x) ≡ h (f x)) → (n : ℕ) → j ≡ n - k → k ≤ n → n ≤ length old
        → map f (held blank (n - k) l) ≡ map h (drop k (map f (held blank n old)))
    moved-side {B} f blank h same n e hk hn =
        let long : length l ≡ length old = moved_length (omega arith) in
        let q : n - k ≤ length (drop k old) = rw length-drop (omega arith) in
        let size : length (map g (take (n - k) (drop k old))) ≡ n - k = length-map (take (n - k) (drop k old)) g ∙ length-take-le (n - k) (drop k old) q in
        let front : take (n - k) l ≡ map g (drop k (take n old)) =
        ap (take (n - k)) (rw e at w.is) ∙ take_at (map g (take (n - k) (drop k old))) (drop (n - k) old) (n - k) size ∙ ap (map g) (drop-take k n old) in
        mapped-few f blank (n - k) l (omega arith)
        ∙ rw (front, map-map f g, mapped-few f blank n old hn, drop-map, map-map h f)
        (map_same (λ (x : A). f (g x)) (λ (x : A). h (f x)) same (drop k (take n old)))

-- the number of an entry that remembers fewer of the other kind
abbrev pub lowered_in : ℕ → ℕ → ℕ
lowered_in others n = number_of (set_before ((unpacked n).before - others) (unpacked n))

pub lowered_number : (others n : ℕ) → entry_in (lowered_in others n) ≡ after_retiring others (entry_in n)
lowered_number others n =
    anew_number (λ s. set_before (s.before - others) s) (after_retiring others) (λ s. refl) n
    (λ k. record { port = k.port; before = omega (arith, k.before); address = k.address; word = k.word }) refl

-- ---- both sides
pub entries-retiring : (n : ℕ) (l : List ℕ) → retiring (entries_held n l) ≤ n
entries-retiring n l = omega (arith, retiring_most (entries_held n l), mapped-length entry_in 0 n l)

-- a side once its finished entries have left
side-retired : (others n l : ℕ) {old new : List ℕ} → l ≡ retiring (entries_held n old) → Shifted l (n - l) others old new
    → entries_held (n - l) new ≡ map (after_retiring others) (after_while finished (entries_held n old))
side-retired others n l {old} {new} e w =
    let k : l + (n - l) ≡ n = (let m : l ≤ n = rw e (entries-retiring n old) in omega arith) in
    w.holds ∙ rw (k, e, drop-retiring (entries_held n old))

-- a frame with these sides
abbrev pub with_sides : Frame → SideStruct → SideStruct → Frame
with_sides frame l s = record { table = frame.table; memory_length = frame.memory_length; loads = l; stores = s }

pub retire-sides : (frame : Frame) {loads stores ls ss : List ℕ} {l s : ℕ}
    → l ≡ retiring (entries_held frame.loads.count loads) → s ≡ retiring (entries_held frame.stores.count stores)
    → Shifted l (frame.loads.count - l) s loads ls → Shifted s (frame.stores.count - s) l stores ss
    → contents_of (queue_of (with_sides frame (shorter frame.loads l) (shorter frame.stores s)) ls ss)
    ≡ retire (contents_of (queue_of frame loads stores))
unfolding contents_of
retire-sides frame {loads} {stores} {ls} {ss} {l} {s} el es ml ms =
    rw (side-retired s frame.loads.count l el ml, side-retired l frame.stores.count s es ms, ← el, ← es)
