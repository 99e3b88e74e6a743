-- Empty groups in lists of calls; the statements are specs/EmptyGroups.antt.
use Prim.Native.Nat.{ℕ, ◌+◌, ◌≤◌, ◌<◌, ◌^◌}
use native.Mathlib.Omega.{arith}
use mathlib.Core.Path.{◌≡◌, refl, sym, ap, ◌∙◌}
use mathlib.Core.Bool.{Bool, true, false}
use mathlib.Core.List.{List, [], ◌∷◌, ◌++◌}
use mathlib.Core.Option.{Option, none, some}
use lib.Dec.{eqb}
use lib.ListN.{length, get_elem?}
use borrow.Author.Tests.{ltb-false}
use Rattle.number.specs.Basics.{pick, keep_where, any_of}
use Rattle.table.specs.declared.Pair.{Pair}
use Rattle.table.specs.Group.{GroupPairs, empty_group, order}
use Rattle.table.specs.Table.{groups_of}
use Rattle.table.specs.RightTables.{Each}
use Rattle.queue.specs.Contents.{Contents, place_of}
use Rattle.queue.specs.Activate.{with_group, activate}
use Rattle.queue.specs.Arguments.{lacks, asked_of}
use Rattle.queue.specs.Take.{take_place}
use Rattle.queue.specs.Parts.{queue_of}
use Rattle.queue.specs.declared.Kind.TheVariants.{Load, Store}
use Rattle.queue.specs.declared.arguments.Argument.{Argument}
use Rattle.queue.specs.declared.arguments.Argument.TheVariants.{LoadAddress, StoreAddress, StoreData}
use Rattle.number.specs.Reply.{accept}
use Rattle.queue.proofs.Lists.{false-true}
use Rattle.queue.proofs.EmptyGroups.{none_more, empty_groups_take_no_place}
use Rattle.sequential.specs.Calls.{Call, Activate}
use Rattle.sequential.specs.Answers.{Machine, Response, machine, move_response, step, answers, machine_after}
use Rattle.sequential.specs.Plain.{Told, cons_option, gather, activation_of, argument_of, rows_of, accesses_of, in_order, accesses}
use Rattle.sequential.specs.Demand3.{told, Opening}
use Rattle.sequential.specs.Records.{machine_of}
use Rattle.sequential.specs.EmptyGroups.{PlainRunPassesOver, has_access, AlikeButForEmpty, ListsAlikeButForEmpty, RecordsAlikeButForEmpty}
use Rattle.sequential.specs.EmptyGroups.{EmptyAlwaysAccepted, OnlyEmpty, OnlyEmptyHoldsNone, OnlyEmptyRecords, OnlyEmptyParts}
use Rattle.sequential.proofs.Accepted.{Stepped, refused, activated, gave, served, wrote, took, readied, stepped}
use Rattle.sequential.proofs.Run.{limits-opened, reached}
use Rattle.sequential.proofs.Serials.{reached-small}
use Rattle.sequential.proofs.ReachedSound.{reached-sound}
use Rattle.sequential.proofs.Demand3.{AlikeInOrder, alike-loads, alike-memories, alike_in_order}
use Rattle.sequential.proofs.RecordsDemand3.{runs-agree, opening, opened_frame}
use Rattle.sequential.proofs.RunsOnParts.{parts_are_records}

-- ---- the plain run
module _ (groups : List GroupPairs) (group : ℕ) (e : get_elem? groups group ≡ some empty_group) where
  abbrev activation : Told
  activation = record { call = Activate group; accepted = true }

  same_rows : (before after : List Told) (kind : Argument) (port : ℕ) →
      rows_of (before ++ activation ∷ after) kind port ≡ rows_of (before ++ after) kind port
  same_rows [] after kind port = refl
  same_rows (t ∷ before) after kind port =
      ap (λ (row : List ℕ). pick t.accepted (cons_option (argument_of kind port t.call) row) row) (same_rows before after kind port)

  same-accesses : (before after : List Told) → accesses groups (before ++ activation ∷ after) ≡ accesses groups (before ++ after)
  same-accesses [] after = rw e
  same-accesses (t ∷ before) after =
      go t.accepted (activation_of t.call) (gather activation_of (before ++ activation ∷ after)) (gather activation_of (before ++ after))
      (same-accesses before after)
    where
      go : (b : Bool) (o : Option ℕ) (xs ys : List ℕ) → in_order groups xs ≡ in_order groups ys
          → in_order groups (pick b (cons_option o xs) xs) ≡ in_order groups (pick b (cons_option o ys) ys)
      go true none xs ys k = k
      go true (some g) xs ys k = rw k
      go false o xs ys k = k

pub plain_run_passes_over : PlainRunPassesOver
plain_run_passes_over groups memory fill before after group e =
    let alike : AlikeInOrder groups (before ++ activation groups group e ∷ after) (before ++ after) =
    record { order = same-accesses groups group e before after; arguments = same_rows groups group e before after } in
    record { loads = alike-loads groups memory _ _ alike fill; memories = alike-memories groups memory _ _ alike fill }

-- ---- two lists alike but for empty groups
-- an empty group has no place in the order
none_ordered : (o : Option GroupPairs) → has_access o ≡ false → accesses_of o ≡ []
none_ordered none e = refl
none_ordered (some g) e = go g.loads g.stores (ltb-false 0 (length g.loads + length g.stores) e)
  where
    go : (ls ss : List Pair) → length ls + length ss ≤ 0 → order (record { loads = ls; stores = ss }) ≡ []
    go [] [] h = refl
    go [] (s ∷ ss) h = absurd (omega arith)
    go (l ∷ ls) ss h = absurd (omega arith)

module _ (groups : List GroupPairs) where
  kept-ordered : (gs : List ℕ) → in_order groups (keep_where (λ (group : ℕ). has_access (get_elem? groups group)) gs) ≡ in_order groups gs
  kept-ordered [] = refl
  kept-ordered (g ∷ gs) = go (has_access (get_elem? groups g)) refl (keep_where (λ (group : ℕ). has_access (get_elem? groups group)) gs) (kept-ordered gs)
    where
      go : (t : Bool) → has_access (get_elem? groups g) ≡ t → (xs : List ℕ) → in_order groups xs ≡ in_order groups gs
          → in_order groups (pick t (g ∷ xs) xs) ≡ accesses_of (get_elem? groups g) ++ in_order groups gs
      go true k xs h = rw h
      go false k xs h = rw (none_ordered (get_elem? groups g) k) h

  alike-ordered : (a b : List Told) → AlikeButForEmpty groups a b → AlikeInOrder groups a b
  alike-ordered a b h = record {
    order = sym (kept-ordered (gather activation_of a)) ∙ ap (in_order groups) h.activations ∙ kept-ordered (gather activation_of b);
    arguments = h.arguments;
  }

pub alike_but_for_empty : ListsAlikeButForEmpty
alike_but_for_empty groups memory m₁ m₂ o₁ o₂ calls₁ calls₂ same =
    alike_in_order groups memory m₁ m₂ o₁ o₂ calls₁ calls₂ (alike-ordered groups _ _ same)

pub alike_records_but_for_empty : RecordsAlikeButForEmpty
alike_records_but_for_empty table₁ table₂ same memory o₁ o₂ w₁ w₂ calls₁ calls₂ log₁ log₂ q₁ q₂ left₁ left₂ run₁ run₂ =
    let a = runs-agree run₁ in
    let b = runs-agree run₂ in
    let w : Opening (groups_of table₁) memory (machine_of o₂.queue memory) = rw same (opening w₂) in
    rw (← a.says, ← b.says)
    (alike_but_for_empty (groups_of table₁) memory (machine_of o₁.queue memory) (machine_of o₂.queue memory) (opening w₁) w calls₁ calls₂)

-- ---- after any list of calls
pub empty_always_accepted : EmptyAlwaysAccepted
empty_always_accepted groups memory m o calls group e =
    let left : Machine = machine_after m calls in
    let is : get_elem? left.queue.groups group ≡ some empty_group = rw (reached o calls).table e in
    let s = reached-small o calls in
    let a : activate left.queue group ≡ accept left.queue =
    empty_groups_take_no_place left.queue group (s.next Load) (s.next Store) is ∙ rw (reached-sound groups memory m o calls) in
    ap (move_response left) a

-- ---- a queue that holds no entry
record Fresh (groups : List GroupPairs) (q : Contents) : Type 0 where
  pub groups_are : q.groups ≡ groups
  pub no_loads : q.loads.entries ≡ []
  pub no_stores : q.stores.entries ≡ []
  pub next_load : q.loads.next < 2 ^ 32
  pub next_store : q.stores.next < 2 ^ 32

none_there : {A : Type 0} {l : List A} (i : ℕ) {x : A} → l ≡ [] → get_elem? l i ≡ some x → ⊥
none_there i e k = let z : none ≡ some _ = rw e at k in let f : false ≡ true = cc in false-true f

-- each call leaves it as it was; an accepted activation, since its group is empty
module _ (groups : List GroupPairs) (m : Machine) (fresh : Fresh groups m.queue) where
  none_waits_lem : (argument : Argument) (port : ℕ) → any_of (lacks argument port) (asked_of argument m.queue) ≡ false
  none_waits_lem LoadAddress port = rw fresh.no_loads
  none_waits_lem StoreAddress port = rw fresh.no_stores
  none_waits_lem StoreData port = rw fresh.no_stores

  group-leaves : (group : ℕ) (g : GroupPairs) → get_elem? m.queue.groups group ≡ some g → get_elem? groups group ≡ some empty_group
      → with_group m.queue g ≡ m.queue
  group-leaves group g is e =
      let there : get_elem? groups group ≡ some g = rw fresh.groups_are at is in
      let empty : g ≡ empty_group = cc in
      rw empty (none_more m.queue fresh.next_load fresh.next_store)

  abbrev Empty : ℕ → Type 0
  Empty group = get_elem? groups group ≡ some empty_group

  -- `others` are the accepted activations of the calls after it
  call-leaves : {c : Call} {s : Response} → Stepped m c s → (others : List ℕ)
      → Each Empty (pick (eqb s.number 0) (cons_option (activation_of c) others) others) → s.machine ≡ m
  call-leaves (refused n nonzero low) others e = refl
  call-leaves (activated {group} g is fits) others e = ap (λ (x : Contents). machine x m.memory) (group-leaves group g is e.0)
  call-leaves (gave {argument} {port} ranged waited) others e = false-true (sym (none_waits_lem argument port) ∙ waited)
  call-leaves (served {counts} {serial} l at s) others e = absurd (none_there (place_of m.queue.loads serial) fresh.no_loads at)
  call-leaves (wrote {serial} s at w) others e = absurd (none_there (place_of m.queue.stores serial) fresh.no_stores at)
  call-leaves (took {port} l v at has) others e = absurd (none_there (take_place m.queue port) fresh.no_loads at)
  call-leaves (readied n low) others e = refl

  rest-empty : (b : Bool) (o : Option ℕ) (others : List ℕ) → Each Empty (pick b (cons_option o others) others) → Each Empty others
  rest-empty true none others e = e
  rest-empty true (some g) others e = e.1
  rest-empty false o others e = e

  calls-leave : (calls : List Call) → OnlyEmpty groups (answers m calls) → machine_after m calls ≡ m
  calls-leave [] e = refl
  calls-leave (c ∷ calls) e =
      let others = gather activation_of (told (answers (step m c).machine calls)) in
      let same : (step m c).machine ≡ m = call-leaves (stepped m c) others e in
      let rest = rest-empty (eqb (step m c).number 0) (activation_of c) others e in
      ap (λ (k : Machine). machine_after k calls) same ∙ calls-leave calls (rw same at rest)

-- ---- from an opening
opened-fresh : {groups : List GroupPairs} {memory : List ℕ} {m : Machine} → Opening groups memory m → Fresh groups m.queue
opened-fresh {groups} {memory} {m} o =
    let is = (limits-opened groups o.load_depth o.store_depth o.first (length memory) m.queue o.accepted).1 in
    rw (← is) (record { groups_are = refl; no_loads = refl; no_stores = refl; next_load = o.serial; next_store = o.serial })

pub only_empty_holds_none : OnlyEmptyHoldsNone
only_empty_holds_none groups memory m o calls e =
    let fresh = opened-fresh o in
    let same = calls-leave groups m fresh calls e in
    (rw same (record { loads = fresh.no_loads; stores = fresh.no_stores }), same)

pub only_empty_records : OnlyEmptyRecords
only_empty_records table memory o w calls log q left run e =
    let a = runs-agree run in
    let (held, same) = only_empty_holds_none (groups_of table) memory (machine_of o.queue memory) (opening w) calls (rw a.says e) in
    (rw a.ends at held, sym a.ends ∙ same)

pub only_empty_parts : OnlyEmptyParts
only_empty_parts table load_depth store_depth first memory o small opens accepted loads stores l s calls log q left run =
    only_empty_records table memory (record { answer = o.answer; queue = queue_of o.frame loads stores })
    (opened_frame table load_depth store_depth first memory o small opens accepted loads stores) calls log q left
    (parts_are_records (queue_of o.frame loads stores) q memory left calls log l s run)
