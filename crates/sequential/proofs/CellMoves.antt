-- One cell: every move keeps the invariant.
use mathlib.Core.Path.{◌≡◌, refl, sym, ◌∙◌}
use mathlib.Core.Bool.{Bool, true, false, ◌&&◌}
use mathlib.Core.List.{List, [], ◌∷◌, ◌++◌}
use mathlib.Core.Option.{Option, none, some}
use Rattle.number.specs.Basics.{pick}
use Rattle.table.specs.RightTables.{Each}
use Rattle.queue.proofs.Lists.{false-true}
use Rattle.sequential.proofs.EachLaws.{everywhere, each_weaken, each-before, each_at, each-change, each_more, pairs-prefix, pairs-before}
use Rattle.sequential.proofs.EachLaws.{pairs-change, pairs-more}
use Rattle.sequential.proofs.Cells.{Stage, waiting, begun, ended, is_waiting, is_begun, Seen, load, store, supplied, in_memory, source}
use Rattle.sequential.proofs.Cells.{store_passed}
use Rattle.queue.specs.Touch.{Touch, apart, unknown, same, is_same}
use Rattle.sequential.proofs.CellInvariant.{or_else, fits, does, Agree, RightLoad, RightStore, Right, writes, reads_memory, passed, Before}
use Rattle.sequential.proofs.CellInvariant.{CellInvariant}
use Rattle.sequential.proofs.CellMemory.{does-passed, passed-holds, supplied-holds, memory-clear, agree-change, agree-got, agree-write}

and_false : (a : Bool) → a && false ≡ false
and_false true = refl
and_false false = refl

right_store_lem : (t : Touch) → RightStore t waiting
right_store_lem apart = record {}
right_store_lem unknown = refl
right_store_lem same = record {}

module _ {B : Type 0} where
  -- What a move of one entry is to a cell, m its value in memory and pre the entries before: the entry before and after, and
  -- the value after.
  pub data Moves (m : B) (pre : List (Seen B)) : Seen B → Seen B → B → Type 0 where
    load-aside : {g g' : Stage} {o o' : Option B} → Moves m pre (load apart g o) (load apart g' o') m
    store-aside : {g g' : Stage} {o o' : Option B} → Moves m pre (store apart g o) (store apart g' o') m
    load-address : {t : Touch} {g : Stage} {o : Option B} → Moves m pre (load unknown g o) (load t g o) m
    store-address : {t : Touch} {g : Stage} {o : Option B} → Moves m pre (store unknown g o) (store t g o) m
    store_word : {t : Touch} {g : Stage} {w : B} → Moves m pre (store t g none) (store t g (some w)) m
    load-forwarded : {g : Stage} {o : Option B} {w : B} → source in_memory pre ≡ supplied (some w) → is_waiting g ≡ false
        → Moves m pre (load same waiting o) (load same g (some w)) m
    load-begun : {o : Option B} → source in_memory pre ≡ in_memory → Moves m pre (load same waiting o) (load same begun none) m
    load-ended : {o : Option B} → Moves m pre (load same begun o) (load same ended (some (or_else o m))) m
    store-begun : {w : B} → Each (λ a. passed a ≡ true) pre → Moves m pre (store same waiting (some w)) (store same begun (some w)) m
    store-ended : {w : B} → Moves m pre (store same begun (some w)) (store same ended (some w)) w

  -- ---- entries that wait

  right-load : (t : Touch) (o : Option B) → o ≡ none → RightLoad t waiting o
  right-load apart o h = record {}
  right-load unknown o h = (refl, h)
  right-load same o h = h

  -- an entry that neither writes nor will read memory asks nothing of those before it
  idle : (e : Seen B) → writes e ≡ false → reads_memory e ≡ false → (a : Seen B) → Before a e
  idle e w r a = record { ordered = λ h. false-true (sym w ∙ h); clear = λ h. false-true (sym r ∙ h) }

  -- ---- one entry made anew

  -- 31 and 32 refuse no later store for it that they did not refuse before.
  record Onward (e e' : Seen B) : Type 0 where
    all-passed : passed e ≡ true → passed e' ≡ true
    store-passed : store_passed e ≡ true → store_passed e' ≡ true

  -- the entry's own part, what it is to later ones, and what earlier ones are to it
  anew : {m n m' : B} (pre post : List (Seen B)) (e e' : Seen B) → CellInvariant m n (pre ++ e ∷ post)
      → Agree m' n (pre ++ e' ∷ post) → (Right e → Right e') → Onward e e' → Each (λ a. Before a e → Before a e') pre
      → CellInvariant m' n (pre ++ e' ∷ post)
  anew pre post e e' h agree right on earlier = record {
    agree = agree;
    right = each-change Right pre post e e' right h.right;
    before =
        pairs-change Before pre post e e' earlier
        (λ x b. record { ordered = λ w. on.all-passed (b.ordered w); clear = λ r. on.store-passed (b.clear r) }) h.before;
  }

  -- the same for an entry that then neither writes nor will read memory
  anew-idle : {m n m' : B} (pre post : List (Seen B)) (e e' : Seen B) → CellInvariant m n (pre ++ e ∷ post)
      → Agree m' n (pre ++ e' ∷ post) → (Right e → Right e') → Onward e e' → writes e' ≡ false → reads_memory e' ≡ false
      → CellInvariant m' n (pre ++ e' ∷ post)
  anew-idle pre post e e' h agree right on w r =
      anew pre post e e' h agree right on (everywhere (λ a. Before a e → Before a e') (λ a b. idle e' w r a) pre)

  -- ---- the moves

  fits_or_else : (o : Option B) (w : B) → fits o (or_else o w)
  fits_or_else none w = record {}
  fits_or_else (some x) w = refl

  module _ (m n : B) (pre post : List (Seen B)) where
    kept-load-aside : (g g' : Stage) (o o' : Option B)
        → CellInvariant m n (pre ++ load apart g o ∷ post) → CellInvariant m n (pre ++ load apart g' o' ∷ post)
    kept-load-aside g g' o o' h =
        anew-idle pre post (load apart g o) (load apart g' o') h
        (agree-change (load apart g o) (load apart g' o') post (λ m n k. (λ p. false-true (sym p), k.1)) pre m n h.agree)
        (λ r. record {}) (record { all-passed = λ p. refl; store-passed = λ p. refl }) refl refl

    kept-store-aside : (g g' : Stage) (o o' : Option B)
        → CellInvariant m n (pre ++ store apart g o ∷ post) → CellInvariant m n (pre ++ store apart g' o' ∷ post)
    kept-store-aside g g' o o' h =
        anew-idle pre post (store apart g o) (store apart g' o') h
        (agree-change (store apart g o) (store apart g' o') post same_memory pre m n h.agree)
        (λ r. record {}) (record { all-passed = λ p. refl; store-passed = λ p. refl }) refl refl
      where
        same_memory : (m n : B) → Agree m n (store apart g o ∷ post) → Agree m n (store apart g' o' ∷ post)
        same_memory m n k b p w q =
            rw (p, does-passed apart g' refl false refl w m)
            (rw (does-passed apart g refl false refl (or_else o w) m) at (k false refl (or_else o w) (fits_or_else o w)))

    kept-load-address : (t : Touch) (g : Stage) (o : Option B)
        → CellInvariant m n (pre ++ load unknown g o ∷ post) → CellInvariant m n (pre ++ load t g o ∷ post)
    kept-load-address t g o h =
        let (waits, empty) = each_at Right pre post (load unknown g o) h.right in
        rw (waits, empty) (go (rw (waits, empty) at h))
      where
        go : CellInvariant m n (pre ++ load unknown waiting none ∷ post) → CellInvariant m n (pre ++ load t waiting none ∷ post)
        go h =
            anew-idle pre post (load unknown waiting none) (load t waiting none) h
            (agree-change (load unknown waiting none) (load t waiting none) post (λ m n k. (λ p. k.0 (record {}), k.1)) pre m n h.agree)
            (λ r. right-load t none refl) (record { all-passed = λ p. false-true p; store-passed = λ p. refl }) refl (and_false (is_same t))

    kept-store-address : (t : Touch) (g : Stage) (o : Option B)
        → CellInvariant m n (pre ++ store unknown g o ∷ post) → CellInvariant m n (pre ++ store t g o ∷ post)
    kept-store-address t g o h =
        let waits : g ≡ waiting = each_at Right pre post (store unknown g o) h.right in
        rw waits (go (rw waits at h))
      where
        go : CellInvariant m n (pre ++ store unknown waiting o ∷ post) → CellInvariant m n (pre ++ store t waiting o ∷ post)
        go h =
            anew-idle pre post (store unknown waiting o) (store t waiting o) h
            (agree-change (store unknown waiting o) (store t waiting o) post (λ m n k b p w q. k b (record {}) w q) pre m n h.agree)
            (λ r. right_store_lem t) (record { all-passed = λ p. false-true p; store-passed = λ p. false-true p }) (and_false (is_same t)) refl

    kept-store-word : (t : Touch) (g : Stage) (w : B) → CellInvariant m n (pre ++ store t g none ∷ post)
        → CellInvariant m n (pre ++ store t g (some w) ∷ post)
    kept-store-word t g w h =
        anew pre post (store t g none) (store t g (some w)) h
        (agree-change (store t g none) (store t g (some w)) post (λ m n k b p x q. k b p x (record {})) pre m n h.agree)
        (λ r. r) (record { all-passed = λ p. p; store-passed = λ p. p })
        (everywhere (λ a. Before a (store t g none) → Before a (store t g (some w))) (λ a b. record { ordered = b.ordered; clear = b.clear }) pre)

    kept-load-forwarded : (g : Stage) (o : Option B) (w : B) → source in_memory pre ≡ supplied (some w) → is_waiting g ≡ false
        → CellInvariant m n (pre ++ load same waiting o ∷ post) → CellInvariant m n (pre ++ load same g (some w) ∷ post)
    kept-load-forwarded g o w s started h =
        anew-idle pre post (load same waiting o) (load same g (some w)) h
        (agree-got same waiting g w post pre m n (supplied-holds w in_memory m pre (λ e. cc) s)
        (rw (each_at Right pre post (load same waiting o) h.right) at h.agree))
        (λ r. right g started) (record { all-passed = λ p. false-true p; store-passed = λ p. refl }) refl (and_false (is_begun g))
      where
        right : (g : Stage) → is_waiting g ≡ false → RightLoad same g (some w)
        right waiting p = false-true (sym p)
        right begun p = record {}
        right ended p = refl

    kept-load-begun : (o : Option B) → source in_memory pre ≡ in_memory
        → CellInvariant m n (pre ++ load same waiting o ∷ post) → CellInvariant m n (pre ++ load same begun none ∷ post)
    kept-load-begun o s h =
        anew pre post (load same waiting o) (load same begun none) h
        (agree-change (load same waiting none) (load same begun none) post (λ m n k. k) pre m n
        (rw (each_at Right pre post (load same waiting o) h.right) at h.agree))
        (λ r. record {}) (record { all-passed = λ p. false-true p; store-passed = λ p. refl })
        (each_weaken (λ a. store_passed a ≡ true) (λ a. Before a (load same waiting o) → Before a (load same begun none))
        (λ a p b. record { ordered = λ z. false-true z; clear = λ z. p }) pre clear)
      where
        clear : Each (λ a. store_passed a ≡ true) pre
        clear =
            (memory-clear (Unit {0}) in_memory pre (λ e. record {}) (everywhere (λ x. writes x ≡ true → Unit {0}) (λ x w. record {}) pre)
            (pairs-prefix Before pre post (load same waiting o) h.before) s).1

    kept-load-ended : (o : Option B)
        → CellInvariant m n (pre ++ load same begun o ∷ post) → CellInvariant m n (pre ++ load same ended (some (or_else o m)) ∷ post)
    kept-load-ended o h =
        anew-idle pre post (load same begun o) (load same ended (some (or_else o m))) h
        (got o h.agree (pairs-before Before pre post (load same begun o) h.before))
        (λ r. refl) (record { all-passed = λ p. false-true p; store-passed = λ p. refl }) refl refl
      where
        got : (o : Option B) → Agree m n (pre ++ load same begun o ∷ post) → Each (λ a. Before a (load same begun o)) pre
            → Agree m n (pre ++ load same ended (some (or_else o m)) ∷ post)
        got none k b =
            agree-got same begun ended m post pre m n
            (passed-holds m pre (each_weaken (λ a. Before a (load same begun none)) (λ a. store_passed a ≡ true) (λ a r. r.clear refl) pre b)) k
        got (some v) k b = agree-change (load same begun (some v)) (load same ended (some v)) post (λ m n j. j) pre m n k

    kept-store-begun : (w : B) → Each (λ a. passed a ≡ true) pre
        → CellInvariant m n (pre ++ store same waiting (some w) ∷ post) → CellInvariant m n (pre ++ store same begun (some w) ∷ post)
    kept-store-begun w s h =
        anew pre post (store same waiting (some w)) (store same begun (some w)) h
        (agree-change (store same waiting (some w)) (store same begun (some w)) post (λ m n k. k) pre m n h.agree)
        (λ r. r) (record { all-passed = λ p. p; store-passed = λ p. p })
        (each_weaken (λ a. passed a ≡ true) (λ a. Before a (store same waiting (some w)) → Before a (store same begun (some w)))
        (λ a p b. record { ordered = λ z. p; clear = λ z. false-true z }) pre s)

    kept-store-ended : (w : B) → CellInvariant m n (pre ++ store same begun (some w) ∷ post)
        → CellInvariant w n (pre ++ store same ended (some w) ∷ post)
    kept-store-ended w h =
        anew pre post (store same begun (some w)) (store same ended (some w)) h
        (agree-write w post pre m n
        (each_weaken (λ a. Before a (store same begun (some w))) (λ a. passed a ≡ true) (λ a b. b.ordered refl) pre
        (pairs-before Before pre post (store same begun (some w)) h.before))
        (each-before Right pre post (store same begun (some w)) h.right) h.agree)
        (λ r. r) (record { all-passed = λ p. refl; store-passed = λ p. refl })
        (everywhere (λ a. Before a (store same begun (some w)) → Before a (store same ended (some w)))
        (λ a b. record { ordered = b.ordered; clear = b.clear }) pre)

    pub moves-keep : {e e' : Seen B} {m' : B} → Moves m pre e e' m' → CellInvariant m n (pre ++ e ∷ post)
        → CellInvariant m' n (pre ++ e' ∷ post)
    moves-keep (load-aside {g} {g'} {o} {o'}) h = kept-load-aside g g' o o' h
    moves-keep (store-aside {g} {g'} {o} {o'}) h = kept-store-aside g g' o o' h
    moves-keep (load-address {t} {g} {o}) h = kept-load-address t g o h
    moves-keep (store-address {t} {g} {o}) h = kept-store-address t g o h
    moves-keep (store_word {t} {g} {w}) h = kept-store-word t g w h
    moves-keep (load-forwarded {g} {o} {w} s started) h = kept-load-forwarded g o w s started h
    moves-keep (load-begun {o} s) h = kept-load-begun o s h
    moves-keep (load-ended {o}) h = kept-load-ended o h
    moves-keep (store-begun {w} s) h = kept-store-begun w s h
    moves-keep (store-ended {w}) h = kept-store-ended w h

  -- ---- one entry more, which waits

  pub data Fresh : Seen B → Type 0 where
    fresh-load : {t : Touch} → Fresh (load t waiting none)
    fresh-store : {t : Touch} → Fresh (store t waiting none)

  right-fresh : {e : Seen B} → Fresh e → Right e
  right-fresh (fresh-load {t}) = right-load t none refl
  right-fresh (fresh-store {t}) = right_store_lem t

  before-fresh : {e : Seen B} → Fresh e → (a : Seen B) → Before a e
  before-fresh (fresh-load {t}) a = idle (load t waiting none) refl (and_false (is_same t)) a
  before-fresh (fresh-store {t}) a = idle (store t waiting none) (and_false (is_same t)) refl a

  agree_fresh : {e : Seen B} → Fresh e → (m : B) → Agree m m (e ∷ [])
  agree_fresh fresh-load m = (λ p. refl, refl)
  agree_fresh fresh-store m = λ b p w q. refl

  agree-more : (e : Seen B) → Fresh e → (es : List (Seen B)) (m n : B) → Agree m n es → Agree m n (es ++ e ∷ [])
  agree-more e f [] m n h = rw (← h) (agree_fresh f m)
  agree-more e f (load t g o ∷ es) m n h = (h.0, agree-more e f es m n h.1)
  agree-more e f (store t g o ∷ es) m n h = λ b p w q. agree-more e f es (does g b w m) (pick b w n) (h b p w q)

  pub fresh_keeps : (e : Seen B) → Fresh e → (es : List (Seen B)) (m n : B) → CellInvariant m n es → CellInvariant m n (es ++ e ∷ [])
  fresh_keeps e f es m n h = record {
    agree = agree-more e f es m n h.agree;
    right = each_more Right es e (right-fresh f) h.right;
    before = pairs-more Before es e (before-fresh f) h.before;
  }
