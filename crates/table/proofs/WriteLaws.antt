-- Laws of writing tables.
use Prim.Native.Nat.{ℕ, ◌+◌, ◌≤◌, ◌<◌}
use mathlib.Core.Path.{◌≡◌, refl, sym, ap, ◌∙◌}
use mathlib.Core.List.{List, [], ◌∷◌, ◌++◌, append-nil, append_assoc}
use native.Mathlib.Omega.{arith}
use native.Mathlib.Numerals.{add-one}
use lib.ListN.{length, get_or, take, drop, length-append, take-append-drop}
use lib.Seq.{take-suc}
use Rattle.table.specs.declared.Pair.{Pair}
use Rattle.table.specs.declared.Group.{Group}
use Rattle.number.specs.Basics.{flat_map, splice}
use Rattle.table.specs.Group.{GroupPairs, list_of, pairs_of}
use Rattle.table.specs.TableBytes.{pair_numbers, group_numbers, table_numbers}
use Rattle.number.specs.Number.{number_bytes, bytes_of}
use Rattle.table.proofs.CheckLaws.{view-length}
use Rattle.number.proofs.SpliceLaws.{bytes_append, NumbersPut, put-more}

-- ---- the numbers of elements, one after the other
flat_append : {A : Type 0} (f : A → List ℕ) (xs ys : List A) → flat_map f (xs ++ ys) ≡ flat_map f xs ++ flat_map f ys
flat_append f [] ys = refl
flat_append f (x ∷ xs) ys = rw (flat_append f xs ys) (sym (append_assoc (f x) (flat_map f xs) (flat_map f ys)))

pub flat_next : {A : Type 0} (f : A → List ℕ) (l : List A) (i : ℕ) (d : A) → i < length l
    → flat_map f (take (i + 1) l) ≡ flat_map f (take i l) ++ f (get_or l i d)
flat_next f l i d h = rw (add-one, take-suc l i d h, flat_append f, append-nil)

-- the bytes of the first i elements and of the next are among those of all
pub flat_room : {A : Type 0} (f : A → List ℕ) (l : List A) (i : ℕ) (d : A) → i < length l
    → length (bytes_of (flat_map f (take i l))) + length (bytes_of (f (get_or l i d))) ≤ length (bytes_of (flat_map f l))
flat_room f l i d h =
    let e : flat_map f l ≡ flat_map f (take (i + 1) l) ++ flat_map f (drop (i + 1) l) = ap (flat_map f) (sym (take-append-drop (i + 1) l))
    ∙ flat_append f (take (i + 1) l) (drop (i + 1) l) in
    rw (e, bytes_append, length-append, flat_next f l i d h, bytes_append, length-append) (omega arith)

-- how many bytes the first i elements take
pub record Tallied {A : Type 0} (f : A → List ℕ) (l : List A) (i total : ℕ) : Type 0 where
  pub is : total ≡ length (bytes_of (flat_map f (take i l)))

pub tallied_more : {A : Type 0} {f : A → List ℕ} {l : List A} {i total n : ℕ} → Tallied f l i total → (d : A) → i < length l
    → n ≡ length (bytes_of (f (get_or l i d))) → Tallied f l (i + 1) (total + n)
tallied_more {f = f} {l = l} {i = i} w d h e = record { is = rw (flat_next f l i d h, bytes_append, length-append, w.is, e) }

-- ---- the bytes of a pair and of a group, part by part
pub pair-length : (p : Pair) → length (bytes_of (pair_numbers p)) ≡ length (number_bytes p.offset) + length (number_bytes p.port)
pair-length p = rw (length-append, append-nil)

pub group-length : (g : GroupPairs)
    → length (bytes_of (group_numbers g)) ≡ length (number_bytes (length g.loads)) + length (number_bytes (length g.stores)) + length
    (bytes_of (flat_map pair_numbers g.loads)) + length (bytes_of (flat_map pair_numbers g.stores))
group-length g = rw (length-append, length-append, bytes_append (flat_map pair_numbers g.loads) (flat_map pair_numbers g.stores), length-append) (omega arith)

-- a group's numbers and bytes, by its record
module _ (ls ss : List ℕ) (g : Group) where
  pub group-numbers : group_numbers (pairs_of ls ss g) ≡ g.loads.count ∷ g.stores.count ∷ flat_map pair_numbers (list_of ls g.loads) ++ flat_map
      pair_numbers (list_of ss g.stores)
  group-numbers = rw (view-length ls g.loads, view-length ss g.stores)

  pub group-bytes : length (bytes_of (group_numbers (pairs_of ls ss g))) ≡ length (number_bytes g.loads.count) + length
      (number_bytes g.stores.count) + length (bytes_of (flat_map pair_numbers (list_of ls g.loads))) + length
      (bytes_of (flat_map pair_numbers (list_of ss g.stores)))
  group-bytes = group-length (pairs_of ls ss g) ∙ rw (view-length ls g.loads, view-length ss g.stores)

  -- the counts, the loads and the stores, put one after the other
  pub put-group : {d : List ℕ} {place : ℕ} {out : List ℕ} {end : ℕ} {out₂ : List ℕ} {end₂ : ℕ} {out₃ : List ℕ} {end₃ : ℕ}
      → NumbersPut d place (g.loads.count ∷ g.stores.count ∷ []) out end → place + length (bytes_of (group_numbers (pairs_of ls ss g))) ≤ length d
      → out₂ ≡ splice out end (bytes_of (flat_map pair_numbers (list_of ls g.loads)))
      → end₂ ≡ end + length (bytes_of (flat_map pair_numbers (list_of ls g.loads)))
      → out₃ ≡ splice out₂ end₂ (bytes_of (flat_map pair_numbers (list_of ss g.stores)))
      → end₃ ≡ end₂ + length (bytes_of (flat_map pair_numbers (list_of ss g.stores)))
      → NumbersPut d place (group_numbers (pairs_of ls ss g)) out₃ end₃
  put-group {d} {place} w h e₂ f₂ e₃ f₃ =
      let loads = flat_map pair_numbers (list_of ls g.loads) in
      let a = g.loads.count ∷ g.stores.count ∷ [] in
      let n : length (bytes_of a) ≡ length (number_bytes g.loads.count) + length (number_bytes g.stores.count) = rw (length-append, append-nil) in
      let m : length (bytes_of (a ++ loads)) ≡ length (bytes_of a) + length (bytes_of loads) = ap length (bytes_append a loads)
      ∙ length-append (bytes_of a) (bytes_of loads) in
      rw group-numbers (put-more (put-more w loads (omega (arith, n, group-bytes)) e₂ f₂) (flat_map pair_numbers (list_of ss g.stores))
      (omega (arith, m, n, group-bytes)) e₃ f₃)

-- ---- the bytes of a table, part by part
pub table-bytes : (gs : List GroupPairs)
    → length (bytes_of (table_numbers gs)) ≡ length (number_bytes 2) + length (number_bytes (length gs)) + length (bytes_of (flat_map group_numbers gs))
table-bytes gs = rw (
  length-append (number_bytes 2) (number_bytes (length gs) ++ bytes_of (flat_map group_numbers gs)),
  length-append (number_bytes (length gs)) (bytes_of (flat_map group_numbers gs)),
) (omega arith)

pub table-size : (gs : List GroupPairs) (n : ℕ) → length gs ≡ n
    → length (bytes_of (table_numbers gs)) ≡ length (number_bytes 2) + length (number_bytes n) + length (bytes_of (flat_map group_numbers gs))
table-size gs n e = table-bytes gs ∙ ap (λ (k : ℕ). length (number_bytes 2) + length (number_bytes k) + length (bytes_of (flat_map group_numbers gs))) e

-- the head and the groups, put one after the other
pub put-table : (gs : List GroupPairs) {n : ℕ} {d out : List ℕ} {end : ℕ} {out₂ : List ℕ} {end₂ : ℕ} → length gs ≡ n
    → NumbersPut d 0 (2 ∷ n ∷ []) out end → NumbersPut out end (flat_map group_numbers gs) out₂ end₂
    → length (bytes_of (table_numbers gs)) ≤ length d
    → out₂ ≡ splice d 0 (bytes_of (table_numbers gs))
put-table gs {n} {d} e w v h =
    let m : length (bytes_of (2 ∷ n ∷ [])) ≡ length (number_bytes 2) + length (number_bytes n) = length-append (number_bytes 2) (number_bytes n ++ [])
    ∙ ap (λ (l : List ℕ). length (number_bytes 2) + length l) (append-nil (number_bytes n)) in
    let k : 0 + length (bytes_of (2 ∷ n ∷ [])) ≤ length d = omega (arith, m, table-size gs n e, h) in
    (put-more w (flat_map group_numbers gs) k v.is v.ends).is ∙ ap (λ (j : ℕ). splice d 0 (bytes_of (2 ∷ j ∷ flat_map group_numbers gs))) (sym e)
