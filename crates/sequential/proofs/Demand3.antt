-- Demand 3, proved: the invariant that every call keeps (Run.antt) gives the three claims, and two alike lists follow.
use Prim.Native.Nat.{ℕ, suc, ◌≤◌, ◌<◌}
use native.Mathlib.Omega.{arith}
use mathlib.Core.Path.{◌≡◌, refl, sym, ap, ap₂, ◌∙◌, fun_ext}
use mathlib.Core.Bool.{Bool, true, false, ◌&&◌}
use mathlib.Core.List.{List, [], ◌∷◌, map}
use mathlib.Core.Option.{some}
use lib.Dec.{leb}
use lib.ListN.{length, get_elem?}
use borrow.Author.Tests.{leb-true}
use Rattle.number.specs.Basics.{pick, all_of, count_where}
use Rattle.table.specs.Group.{GroupPairs, Access, is_store}
use Rattle.queue.specs.Retire.{finished}
use Rattle.queue.specs.declared.arguments.Argument.{Argument}
use Rattle.number.proofs.Both.{and_left}
use Rattle.queue.proofs.Lists.{and_both}
use Rattle.sequential.specs.Calls.{Call}
use Rattle.sequential.specs.Answers.{Machine, Answered, answers, machine_after}
use Rattle.sequential.specs.Plain.{Told, Rows, rows_of, in_order, accesses, Filling, word_reading, PlainState, plain_start, values_from, memory_from}
use Rattle.sequential.specs.Plain.{values_at, plain_loads, plain_memory}
use Rattle.sequential.specs.Demand3.{told, taken_at, Sequential, Opening, Demand3, AlikeLists}
use Rattle.sequential.proofs.Log.{LogEntry, of_load, of_store, access_of, stores, own_in, loads}
use Rattle.sequential.proofs.PlainRun.{taken_is_loaded, written_is_plain, values-uncounted, memory-uncounted, seen-count, stores-uncounted}
use Rattle.sequential.proofs.Lanes.{cell_at}
use Rattle.sequential.proofs.Invariant.{Invariant, is_written}
use Rattle.sequential.proofs.Run.{opening-limits, reached}
use Rattle.sequential.proofs.Progress.{state-moves}

-- ---- as many writes as stores: every store is written

written-stores : (es : List LogEntry) → count_where is_written es ≤ count_where is_store (map access_of es)
written-stores [] = omega arith
written-stores (of_load l ∷ es) = written-stores es
written-stores (of_store s ∷ es) = go s.finished (written-stores es)
  where
    go : (b : Bool) → count_where is_written es ≤ count_where is_store (map access_of es)
        → pick b (suc (count_where is_written es)) (count_where is_written es) ≤ suc (count_where is_store (map access_of es))
    go true h = omega arith
    go false h = omega arith

all_written_lem : (es : List LogEntry) → count_where is_written es ≡ count_where is_store (map access_of es) → all_of finished (own_in stores es) ≡ true
all_written_lem [] h = refl
all_written_lem (of_load l ∷ es) h = all_written_lem es h
all_written_lem (of_store s ∷ es) h = go s.finished refl h (written-stores es) (λ k. all_written_lem es k)
  where
    go : (b : Bool) → s.finished ≡ b → pick b (suc (count_where is_written es)) (count_where is_written es) ≡ suc (count_where is_store (map access_of es))
        → count_where is_written es ≤ count_where is_store (map access_of es)
        → (count_where is_written es ≡ count_where is_store (map access_of es) → all_of finished (own_in stores es) ≡ true)
        → s.finished && all_of finished (own_in stores es) ≡ true
    go true e k le rec = and_both e (rec (omega arith))
    go false e k le rec = absurd (omega arith)

-- ---- the three claims

sequential : (groups : List GroupPairs) (memory : List ℕ) (answered : List Answered) (left : Machine) → Invariant groups memory answered left
    → (fill : Filling) → Sequential groups memory answered left fill
unfolding plain_loads plain_memory
sequential groups memory answered left st fill = record {
  takes = λ port n v h.
      rw (st.seen.shape, values-uncounted word_reading fill 0 (plain_start memory (told answered)) (accesses groups (told answered))) at
      (taken_is_loaded fill port st.log 0 (cell_at left.memory) memory (rows_of (told answered)) (rw st.holds.opened (st.holds.right loads))
      st.seen.rows (λ b j low lane. (st.holds.cells b j low lane).agree) (taken_at port answered) (st.seen.takes port) n v h);
  writes = λ full.
      rw (st.seen.shape, memory-uncounted word_reading fill 0 (plain_start memory (told answered)) (accesses groups (told answered))) at
      (written_is_plain fill st.log left.memory memory (rows_of (told answered)) (st.holds.long ∙ sym st.holds.opened) st.seen.rows
      (λ b j low lane. (st.holds.cells b j low lane).agree)
      (all_written_lem st.log (st.seen.writes ∙ full ∙ sym (seen-count st.seen is_store stores-uncounted))));
  moves = state-moves groups memory answered left st;
}

-- DEMAND 3. The bound on what is filled in is not used: a taken load has its own address, within memory, and a store beyond the
-- end of memory would change no cell.
pub demand3 : Demand3
demand3 groups memory m o calls fill low = sequential groups memory (answers m calls) (machine_after m calls) (reached o calls) fill

-- ---- two lists alike

-- the same accesses in the same order, and the same rows
pub record AlikeInOrder (groups : List GroupPairs) (a b : List Told) : Type 0 where
  pub order : accesses groups a ≡ accesses groups b
  pub arguments : (kind : Argument) (port : ℕ) → rows_of a kind port ≡ rows_of b kind port

-- the plain run depends on them alone
module _ (groups : List GroupPairs) (memory : List ℕ) (a b : List Told) (h : AlikeInOrder groups a b) (fill : Filling) where
  alike_runs : {A : Type 0} (f : PlainState ℕ → List Access → A)
      → f (plain_start memory a) (accesses groups a) ≡ f (plain_start memory b) (accesses groups b)
  alike_runs f =
      let rows : rows_of a ≡ rows_of b = fun_ext (λ kind. fun_ext (λ p. h.arguments kind p)) in
      ap₂ (λ (r : Rows) (order : List Access). f (record { memory = memory; rows = r }) order) rows h.order

  pub alike-loads : (port : ℕ) → plain_loads groups memory a fill port ≡ plain_loads groups memory b fill port
  unfolding plain_loads
  alike-loads port = alike_runs (λ s order. values_at port (values_from word_reading fill 0 s order))

  pub alike-memories : plain_memory groups memory a fill ≡ plain_memory groups memory b fill
  unfolding plain_memory
  alike-memories = alike_runs (λ s order. memory_from word_reading fill 0 s order)

-- any filling serves; the memory has a word 0
zeros : Filling
zeros = record { address = λ k. 0; word = λ k. 0 }

pub alike_in_order : (groups : List GroupPairs) (memory : List ℕ) (m₁ m₂ : Machine) → Opening groups memory m₁ → Opening groups memory m₂
    → (calls₁ calls₂ : List Call) → AlikeInOrder groups (told (answers m₁ calls₁)) (told (answers m₂ calls₂))
    → (port n v w : ℕ) → get_elem? (taken_at port (answers m₁ calls₁)) n ≡ some v
    → get_elem? (taken_at port (answers m₂ calls₂)) n ≡ some w → v ≡ w
unfolding zeros
alike_in_order groups memory m₁ m₂ o₁ o₂ calls₁ calls₂ same port n v w h₁ h₂ =
    let low : 0 < length memory = leb-true 1 (length memory) (and_left (leb 1 (length memory)) _ (opening-limits o₁).words_right) in
    let e₁ : get_elem? (plain_loads groups memory (told (answers m₁ calls₁)) zeros port) n ≡ some v =
    (demand3 groups memory m₁ o₁ calls₁ zeros (λ k. low)).takes port n v h₁ in
    let e₂ : get_elem? (plain_loads groups memory (told (answers m₂ calls₂)) zeros port) n ≡ some w =
    (demand3 groups memory m₂ o₂ calls₂ zeros (λ k. low)).takes port n w h₂ in
    let e : plain_loads groups memory (told (answers m₁ calls₁)) zeros port ≡ plain_loads groups memory (told (answers m₂ calls₂)) zeros port
    = alike-loads groups memory (told (answers m₁ calls₁)) (told (answers m₂ calls₂)) same zeros port in
    let both : some v ≡ some w = sym e₁ ∙ ap (λ (l : List ℕ). get_elem? l n) e ∙ e₂ in
    cc

-- the same activations have the same accesses
pub alike : AlikeLists
alike groups memory m₁ m₂ o₁ o₂ calls₁ calls₂ same =
    alike_in_order groups memory m₁ m₂ o₁ o₂ calls₁ calls₂
    (record { order = ap (in_order groups) same.activations; arguments = same.arguments })
