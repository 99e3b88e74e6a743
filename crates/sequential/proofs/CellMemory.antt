-- One cell: virtual memory, and what becomes of Agree. Each law is one walk over the entries before the one that changes.
use mathlib.Core.Path.{◌≡◌, refl, sym, ◌∙◌}
use mathlib.Core.Bool.{Bool, true, false, ◌&&◌, ◌||◌}
use mathlib.Core.List.{List, [], ◌∷◌, ◌++◌}
use mathlib.Core.Option.{Option, none, some}
use Rattle.number.specs.Basics.{pick}
use Rattle.number.proofs.Both.{and_left}
use Rattle.table.specs.RightTables.{Each}
use Rattle.queue.proofs.Lists.{false-true}
use Rattle.sequential.proofs.EachLaws.{Pairs, each_both}
use Rattle.sequential.proofs.Cells.{Stage, waiting, begun, ended, is_begun, is_ended, Seen, load, store, CellSource, supplied, in_memory, after}
use Rattle.sequential.proofs.Cells.{source, store_passed}
use Rattle.queue.specs.Touch.{Touch, apart, unknown, same, is_apart, is_same}
use Rattle.sequential.proofs.CellInvariant.{may, or_else, fits, does, Agree, RightLoad, Right, writes, passed, Before}

module _ {B : Type 0} where
  -- ---- virtual memory

  -- However the stores are completed, virtual memory after them holds v.
  abbrev pub Holding : B → B → List (Seen B) → Type 0
  Holding v m [] = m ≡ v
  Holding v m (load t g o ∷ es) = Holding v m es
  Holding v m (store t g o ∷ es) = (b : Bool) → may t b → (w : B) → fits o w → Holding v (does g b w m) es

  -- a store that is written or apart does nothing to virtual memory
  pub does-passed : (t : Touch) (g : Stage) → is_apart t || is_ended g ≡ true → (b : Bool) → may t b → (w m : B) → does g b w m ≡ m
  does-passed apart waiting h b p w m = rw p
  does-passed apart begun h b p w m = rw p
  does-passed apart ended h b p w m = refl
  does-passed unknown waiting h b p w m = false-true h
  does-passed unknown begun h b p w m = false-true h
  does-passed unknown ended h b p w m = refl
  does-passed same waiting h b p w m = false-true h
  does-passed same begun h b p w m = false-true h
  does-passed same ended h b p w m = refl

  -- Virtual is actual past stores that are written or apart.
  pub passed-holds : (m : B) (pre : List (Seen B)) → Each (λ a. store_passed a ≡ true) pre → Holding m m pre
  passed-holds m [] h = refl
  passed-holds m (load t g o ∷ pre) h = passed-holds m pre h.1
  passed-holds m (store t g o ∷ pre) h = λ b p w q. rw (does-passed t g h.0 b p w m) (passed-holds m pre h.1)

  -- ---- the source

  -- Virtual memory holds what the nearest store that is not apart supplies. Nothing is asked of the stores behind it: they may have any
  -- address, or none yet.
  pub supplied-holds : (v : B) (k : CellSource B) (m : B) (pre : List (Seen B)) → (k ≡ supplied (some v) → m ≡ v)
      → source k pre ≡ supplied (some v) → Holding v m pre
  supplied-holds v k m [] h e = h e
  supplied-holds v k m (load t g o ∷ pre) h e = supplied-holds v k m pre h e
  supplied-holds v k m (store t g o ∷ pre) h e = λ b p w q. supplied-holds v (after t g o k) (does g b w m) pre (next b w t g p q) e
    where
      word : (o : Option B) (w : B) → fits o w → o ≡ some v → w ≡ v
      word none w q e = cc
      word (some x) w q e = let f : x ≡ v = cc in sym q ∙ f

      next : (b : Bool) (w : B) (t : Touch) (g : Stage) → may t b → fits o w → after t g o k ≡ supplied (some v) → does g b w m ≡ v
      next b w apart g p q f = does-passed apart g refl b p w m ∙ h f
      next b w unknown g p q f = cc
      next b w same waiting p q f = let is : o ≡ some v = cc in rw p (word o w q is)
      next b w same begun p q f = let is : o ≡ some v = cc in rw p (word o w q is)
      next b w same ended p q f = cc

  -- A load that is sent to memory has only written and apart stores before it. Where a written store sent it there, this is the order in
  -- which stores are written (`Before.ordered`). P says that all stores before `pre` are passed.
  pub memory-clear : (P : Type 0) (k : CellSource B) (pre : List (Seen B)) → (k ≡ in_memory → P) → Each (λ x. writes x ≡ true → P) pre
      → Pairs Before pre → source k pre ≡ in_memory → P × Each (λ a. store_passed a ≡ true) pre
  memory-clear P k [] h f r e = (h e, record {})
  memory-clear P k (load t g o ∷ pre) h f r e = let (p, rest) = memory-clear P k pre h f.1 r.1 e in (p, (refl, rest))
  memory-clear P k (store t g o ∷ pre) h f r e =
      let (both, rest) = memory-clear (P × (is_apart t || is_ended g ≡ true)) (after t g o k) pre (next t g f.0) later r.1 e in
      (both.0, (both.1, rest))
    where
      later : Each (λ x. writes x ≡ true → P × (is_apart t || is_ended g ≡ true)) pre
      later =
          each_both (λ x. writes x ≡ true → P) (Before (store t g o)) (λ x. writes x ≡ true → P × (is_apart t || is_ended g ≡ true))
          (λ x p b w. (p w, b.ordered w)) pre f.1 r.0

      next : (t : Touch) (g : Stage) → (is_same t && (is_begun g || is_ended g) ≡ true → P) → after t g o k ≡ in_memory
          → P × (is_apart t || is_ended g ≡ true)
      next apart g p f = (h f, refl)
      next unknown g p f = let z : false ≡ true = cc in false-true z
      next same waiting p f = let z : false ≡ true = cc in false-true z
      next same begun p f = let z : false ≡ true = cc in false-true z
      next same ended p f = (p refl, refl)

  -- ---- Agree

  pub agree-change : (e e' : Seen B) (post : List (Seen B)) → ((m n : B) → Agree m n (e ∷ post) → Agree m n (e' ∷ post))
      → (pre : List (Seen B)) (m n : B) → Agree m n (pre ++ e ∷ post) → Agree m n (pre ++ e' ∷ post)
  agree-change e e' post change [] m n h = change m n h
  agree-change e e' post change (load t g o ∷ pre) m n h = (h.0, agree-change e e' post change pre m n h.1)
  agree-change e e' post change (store t g o ∷ pre) m n h = λ b p w q. agree-change e e' post change pre (does g b w m) (pick b w n) (h b p w q)

  -- a load gets the value that virtual memory holds
  pub agree-got : (t : Touch) (g g' : Stage) (v : B) (post pre : List (Seen B)) (m n : B) → Holding v m pre
      → Agree m n (pre ++ load t g none ∷ post) → Agree m n (pre ++ load t g' (some v) ∷ post)
  agree-got t g g' v post [] m n k h = (λ p. sym k ∙ h.0 p, h.1)
  agree-got t g g' v post (load t₁ g₁ o ∷ pre) m n k h = (h.0, agree-got t g g' v post pre m n k h.1)
  agree-got t g g' v post (store t₁ g₁ o ∷ pre) m n k h = λ b p w q. agree-got t g g' v post pre (does g₁ b w m) (pick b w n) (k b p w q) (h b p w q)

  -- a load that has passed does not read memory any more
  reads-passed : (t : Touch) (g : Stage) (o : Option B) → is_apart t || is_ended g ≡ true → RightLoad t g o → may t true
      → (m m' : B) → or_else o m ≡ or_else o m'
  reads-passed apart g o h r p m m' = let z : false ≡ true = sym p in false-true z
  reads-passed unknown g o h r p m m' = false-true (rw r.0 at h)
  reads-passed same waiting o h r p m m' = false-true h
  reads-passed same begun o h r p m m' = false-true h
  reads-passed same ended none h r p m m' = false-true r
  reads-passed same ended (some v) h r p m m' = refl

  -- Memory takes the store's value. Everything before it has passed, so nothing there reads memory any more.
  pub agree-write : (w : B) (post pre : List (Seen B)) (m n : B) → Each (λ a. passed a ≡ true) pre → Each Right pre
      → Agree m n (pre ++ store same begun (some w) ∷ post) → Agree w n (pre ++ store same ended (some w) ∷ post)
  agree-write w post [] m n s r h = λ b p x q. rw (p, ← q) (h true refl w refl)
  agree-write w post (load t g o ∷ pre) m n s r h = (
    λ p. reads-passed t g o (and_left (is_apart t || is_ended g) true s.0) r.0 p w m ∙ h.0 p,
    agree-write w post pre m n s.1 r.1 h.1,
  )
  agree-write w post (store t g o ∷ pre) m n s r h = λ b p x q.
      rw (does-passed t g s.0 b p x w) (agree-write w post pre m (pick b x n) s.1 r.1 (rw (does-passed t g s.0 b p x m) at (h b p x q)))
