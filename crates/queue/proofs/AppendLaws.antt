-- Entries put behind those that a side holds.
use Rattle.std.proofs.Common.{◌≡◌, ℕ, zero, suc, ◌+◌, ◌<◌, ◌≤◌, List, [], ◌∷◌, ◌++◌, map, length, get_or, take, set}
use Rattle.std.proofs.Common.{refl, ap, ◌∙◌, le_trans, le-add_right, add-one, arith}
use mathlib.Core.List.{map-append}
use lib.ListN.{length-map, get_or-map}
use lib.Seq.{paste, paste-zero, paste-suc, take-paste, length-paste}
use Rattle.number.specs.Basics.{held}
use Rattle.number.proofs.HeldLaws.{held-few}
use Rattle.table.specs.declared.Pair.{Pair}
use Rattle.queue.specs.Entry.{entry_of, entry_in, number_of}
use Rattle.queue.specs.Internal.{entry_after, struct_after}
use Rattle.queue.proofs.EntryLaws.{entry_number}
use Rattle.queue.proofs.Lists.{take-map}

-- what an array is once the first j of `s`, made entries by `f`, stand in it from the place `n` on, where it was `d`
pub record Pasted {A B : Type 0} (f : A → B) (d : List B) (n : ℕ) (s : List A) (j : ℕ) (l : List B) : Type 0 where
  pub is : l ≡ paste d n (map f s) j

module _ {A B : Type 0} {f : A → B} {d : List B} {n : ℕ} {s : List A} where
  pub pasted-none : Pasted f d n s 0 d
  pasted-none = record { is = paste-zero d n (map f s) }

  module _ {j : ℕ} {l : List B} (w : Pasted f d n s j l) where
    pub pasted-more : (z : A) {x : A} → get_or s j z ≡ x → n + j < length d → j < length s → Pasted f d n s (j + 1) (set l (n + j) (f x))
    pasted-more z {x} e hd hs =
        let q : j < length (map f s) = rw (length-map s f) hs in
        record { is = rw (w.is, add-one, ← e, ← get_or-map f s j z) (paste-suc d n (map f s) j (f z) hd q) }

    pub pasted-front : (k : ℕ) → j ≡ k → n ≤ length d → k ≤ length s → take (n + k) l ≡ take n d ++ map f (take k s)
    pasted-front k e hd hs =
        let q : k ≤ length (map f s) = rw (length-map s f) hs in
        rw (w.is, e, take-paste d n (map f s) k hd q, take-map f k s)

-- what the side then holds: `new` is what an entry made by `f` holds, of each that was put there
pub mapped_appended : {A B C : Type 0} (h : B → C) (blank : B) (f : A → B) (new : A → C) (z : A)
    {d : List B} {n : ℕ} {s : List A} {j : ℕ} {l : List B}
    → Pasted f d n s j l → (k : ℕ) → j ≡ k → n + k ≤ length d → k ≤ length s
    → ((i : ℕ) → i < k → h (f (get_or s i z)) ≡ new (get_or s i z))
    → map h (held blank (n + k) l) ≡ map h (held blank n d) ++ map new (take k s)
mapped_appended {A} {B} {C} h blank f new z {d} {n} {s} {j} {l} w k q hd hs e =
    let long : length l ≡ length d = rw (w.is, q) (length-paste d n (map f s) k hd (rw (length-map s f) hs)) in
    let hl : n + k ≤ length l = rw long hd in
    rw (held-few blank (n + k) l hl, held-few blank n d (le_trans (le-add_right n k) hd), pasted-front w k q (le_trans (le-add_right n k) hd) hs)
    (map-append h (take n d) (map f (take k s)) ∙ ap (λ (t : List C). map h (take n d) ++ t) (same k s e))
  where
    same : (m : ℕ) (xs : List A) → ((i : ℕ) → i < m → h (f (get_or xs i z)) ≡ new (get_or xs i z))
        → map h (map f (take m xs)) ≡ map new (take m xs)
    same zero xs e = refl
    same (suc m) [] e = refl
    same (suc m) (x ∷ xs) e = rw (e 0 (omega arith), same m xs (λ i k. e (suc i) (omega arith)))

-- the number of a pair's entry, where `others` of the other kind are held
abbrev pub number_after : ℕ → Pair → ℕ
number_after others p = number_of (struct_after others p)

-- it has room for the entry
pub after_number : (others : ℕ) (p : Pair) → others ≤ 64 → p.port < 32 → p.offset ≤ 16 → entry_in (number_after others p) ≡ entry_after others p
after_number others p few port offset =
    let before : others + p.offset < 256 = omega arith in
    ap entry_of (entry_number (struct_after others p) (record { port = port; before = before; address = omega arith; word = omega arith }))
