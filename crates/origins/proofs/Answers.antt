-- A serve that is answered 0, 28 or 29, read backwards: it found a queued load that is unserved and has its address, and its answer is that of
-- the load's source.
use Prim.Native.Nat.{ℕ}
use native.Mathlib.Omega.{arith}
use mathlib.Core.Path.{◌≡◌, refl, sym, ◌∙◌}
use mathlib.Core.Bool.{Bool, true, false, not}
use mathlib.Core.List.{List, [], ◌∷◌}
use mathlib.Core.Option.{Option, none, some}
use lib.Dec.{eqb}
use lib.ListN.{length, get_elem?}
use Rattle.number.specs.Basics.{any_of}
use Rattle.number.specs.Refusal.{unsound, wrong_memory, no_serial, already_done, no_address, earlier_store_unknown}
use Rattle.number.specs.Reply.{Reply, refuse, accept, need, have, and_then, number}
use Rattle.queue.specs.Entry.{Entry, served}
use Rattle.queue.specs.Contents.{Contents, place_of, others_before}
use Rattle.queue.specs.Sound.{sound}
use Rattle.queue.specs.Serve.{Source, unsettled, from_store, from_memory, loaded_from, may_serve, served_with, serve, source}
use Rattle.queue.proofs.Lists.{false-true}
use Rattle.origins.specs.Exactly.{past27, Past27IsTheRest}
use Rattle.origins.proofs.Fillings.{is_settled}

-- ---- a check that was passed

need_past : {A : Type 0} (b : Bool) (n : ℕ) (rest : Reply A) → past27 n ≡ false → past27 (number (need b n rest)) ≡ true
    → (b ≡ true) × (number (need b n rest) ≡ number rest)
need_past true n rest other h = (refl, refl)
need_past false n rest other h = false-true (sym other ∙ h)

have_past : {A B : Type 0} (o : Option A) (n : ℕ) (rest : A → Reply B) → past27 n ≡ false → past27 (number (have o n rest)) ≡ true
    → (a : A) × (o ≡ some a) × (number (have o n rest) ≡ number (rest a))
have_past none n rest other h = false-true (sym other ∙ h)
have_past (some a) n rest other h = (a, refl, refl)

then_number : {A B : Type 0} (r : Reply A) (f : A → B) → number (and_then r λ v. accept (f v)) ≡ number r
then_number (refuse n) f = refl
then_number (accept a) f = refl

-- ---- the serve

pub record PastServe (q : Contents) (m : List ℕ) (serial : ℕ) : Type 0 where
  pub load : Entry
  pub at : get_elem? q.loads.entries (place_of q.loads serial) ≡ some load
  pub unserved : not (served load) ≡ true
  pub address : ℕ
  pub addressed : load.address ≡ some address
  pub answer : number (serve q m serial) ≡ number (loaded_from m address (source address (others_before q.stores load)))

pub past_serve : (q : Contents) (m : List ℕ) (serial : ℕ) → past27 (number (serve q m serial)) ≡ true → PastServe q m serial
unfolding serve
past_serve q m serial h₀ =
    let (t₁, e₁) = need_past (sound q) _ _ refl h₀ in
    let (t₂, e₂) = need_past (eqb (length m) q.memory_length) _ _ refl (rw e₁ at h₀) in
    let h₂ = rw e₂ at (rw e₁ at h₀) in
    let (l, at, e₃) = have_past (get_elem? q.loads.entries (place_of q.loads serial)) _ _ refl h₂ in
    let e₄ = then_number (may_serve m (others_before q.stores l) l) (served_with q (place_of q.loads serial)) in
    let h₄ = rw e₄ at (rw e₃ at h₂) in
    let (t₅, e₅) = need_past (not (served l)) _ _ refl h₄ in
    let (a, is, e₆) = have_past l.address _ _ refl (rw e₅ at h₄) in
    record { load = l; at = at; unserved = t₅; address = a; addressed = is; answer = e₁ ∙ e₂ ∙ e₃ ∙ e₄ ∙ e₅ ∙ e₆ }

-- ---- what is not past 27

module _ (P : ℕ → Type 0) where
  need-holds : {A : Type 0} (b : Bool) (n : ℕ) (rest : Reply A) → P n → P (number rest) → P (number (need b n rest))
  need-holds true n rest h k = k
  need-holds false n rest h k = h

  have-holds : {A B : Type 0} (o : Option A) (n : ℕ) (rest : A → Reply B) → P n → ((a : A) → P (number (rest a))) → P
      (number (have o n rest))
  have-holds none n rest h k = h
  have-holds (some a) n rest h k = k a

abbrev Rest : ℕ → Type 0
Rest k = past27 k ≡ not (any_of (eqb k) (unsound ∷ wrong_memory ∷ no_serial ∷ already_done ∷ no_address ∷ []))

loaded-rest : (m : List ℕ) (a : ℕ) (x : Source) → Rest (number (loaded_from m a x))
loaded-rest m a unsettled = refl
loaded-rest m a (from_store none) = refl
loaded-rest m a (from_store (some w)) = refl
loaded-rest m a from_memory = refl

pub past_27_is_the_rest : Past27IsTheRest
unfolding serve
past_27_is_the_rest q m serial =
    need-holds Rest (sound q) unsound _ refl
    (need-holds Rest (eqb (length m) q.memory_length) wrong_memory _ refl
    (have-holds Rest (get_elem? q.loads.entries (place_of q.loads serial)) no_serial _ refl λ l.
    rw (then_number (may_serve m (others_before q.stores l) l) (served_with q (place_of q.loads serial)))
    (need-holds Rest (not (served l)) already_done _ refl
    (have-holds Rest l.address no_address _ refl λ a. loaded-rest m a (source a (others_before q.stores l))))))

-- ---- 28 is for a source that is not settled

pub waits-unsettled : (m : List ℕ) (a : ℕ) (x : Source) → number (loaded_from m a x) ≡ earlier_store_unknown → is_settled x ≡ false
waits-unsettled m a unsettled h = refl
waits-unsettled m a (from_store none) h = let z : ◌≡◌ {A = ℕ} 29 28 = h in absurd (omega arith)
waits-unsettled m a (from_store (some w)) h = let z : ◌≡◌ {A = ℕ} 0 28 = h in absurd (omega arith)
waits-unsettled m a from_memory h = let z : ◌≡◌ {A = ℕ} 0 28 = h in absurd (omega arith)

pub unsettled-waits : (m : List ℕ) (a : ℕ) (x : Source) → is_settled x ≡ false → number (loaded_from m a x) ≡ earlier_store_unknown
unsettled-waits m a unsettled h = refl
unsettled-waits m a (from_store word) h = false-true (sym h)
unsettled-waits m a from_memory h = false-true (sym h)
