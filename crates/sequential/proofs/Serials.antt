-- The next serials of a queue that an opening and calls lead to are of 32 bits.
use Prim.Native.Nat.{ℕ, suc, ◌+◌, ◌^◌, ◌<◌}
use native.Mathlib.Nat.{zero-add, add-zero}
use native.Mathlib.Omega.{arith}
use mathlib.Core.Path.{◌≡◌, refl, sym, ap, ◌∙◌}
use mathlib.Core.Bool.{Bool, true, false}
use mathlib.Core.List.{List, [], ◌∷◌, ◌++◌, map, append-nil}
use mathlib.Core.Option.{none}
use lib.Dec.{eqb}
use lib.ListN.{length, get_elem?}
use Rattle.number.specs.Basics.{pick, count_where, keep_where}
use Rattle.table.specs.Group.{GroupPairs, Access, pair_of, pairs_where, order}
use Rattle.queue.specs.declared.Kind.{Kind}
use Rattle.queue.specs.declared.Kind.TheVariants.{Load, Store}
use Rattle.queue.specs.Contents.{Contents, side_of, after}
use Rattle.queue.specs.Activate.{is_of, new_entries}
use Rattle.queue.proofs.Lists.{count-append}
use Rattle.queue.specs.Arguments.{argument_given}
use Rattle.queue.specs.declared.arguments.Argument.{Argument}
use Rattle.queue.specs.declared.arguments.Argument.TheVariants.{LoadAddress, StoreAddress, StoreData}
use Rattle.sequential.specs.Calls.{Call}
use Rattle.sequential.specs.Answers.{Machine, Response, Answered, step, answers, machine_after}
use Rattle.sequential.specs.Plain.{Told, gather, activation_of, accesses_of, in_order, accesses}
use Rattle.sequential.specs.Demand3.{tell, told, Opening}
use Rattle.sequential.proofs.Accepted.{Stepped, refused, activated, gave, served, wrote, took, readied, stepped}
use Rattle.sequential.proofs.Invariant.{gather_append, in_order_append}
use Rattle.sequential.proofs.Steps.Activate.{new_length}
use Rattle.sequential.proofs.Run.{limits-opened}

pub record Small (q : Contents) : Type 0 where
  pub next : (K : Kind) → (side_of K q).next < 2 ^ 32

-- the same next serials
same_next : {q q' : Contents} → Small q → q'.loads.next ≡ q.loads.next → q'.stores.next ≡ q.stores.next → Small q'
same_next f l s = record { next = elim [ Load ↦ rw l (f.next Load) | Store ↦ rw s (f.next Store) ] }

module _ (m : Machine) (f : Small m.queue) where
  given-small : (argument : Argument) (port x : ℕ) → Small (argument_given argument port x m.queue)
  given-small LoadAddress port x = same_next f refl refl
  given-small StoreAddress port x = same_next f refl refl
  given-small StoreData port x = same_next f refl refl

  keeps : {c : Call} {s : Response} → Stepped m c s → Small s.machine.queue
  keeps (refused n nonzero low) = f
  keeps (activated g is fits) = record { next = elim [ Load ↦ omega arith | Store ↦ omega arith ] }
  keeps (gave {argument} {port} {x} ranged waited) = given-small argument port x
  keeps (served l at s) = same_next f refl refl
  keeps (wrote s at w) = same_next f refl refl
  keeps (took l v at has) = same_next f refl refl
  keeps (readied n low) = f

-- after every list of calls
calls_keep : (m : Machine) → Small m.queue → (calls : List Call) → Small (machine_after m calls).queue
calls_keep m f [] = f
calls_keep m f (c ∷ calls) = calls_keep (step m c).machine (keeps m f (stepped m c)) calls

opened-small : {groups : List GroupPairs} {memory : List ℕ} {m : Machine} → Opening groups memory m → Small m.queue
opened-small {groups} {memory} {m} o =
    let is = (limits-opened groups o.load_depth o.store_depth o.first (length memory) m.queue o.accepted).1 in
    rw (← is) (record { next = elim [ Load ↦ o.serial | Store ↦ o.serial ] })

pub reached-small : {groups : List GroupPairs} {memory : List ℕ} {m : Machine} → Opening groups memory m → (calls : List Call)
    → Small (machine_after m calls).queue
reached-small {m = m} o calls = calls_keep m (opened-small o) calls

-- ---- serials by counting: the next serial of a side is as far from the first as the accepted activations have accesses of its kind

pairs-count : (p : Access → Bool) (xs : List Access) → length (pairs_where p xs) ≡ count_where p xs
pairs-count p [] = refl
pairs-count p (x ∷ xs) = go (p x) (pairs-count p xs)
  where
    go : (t : Bool) → length (pairs_where p xs) ≡ count_where p xs
        → length (map pair_of (pick t (x ∷ keep_where p xs) (keep_where p xs))) ≡ pick t (suc (count_where p xs)) (count_where p xs)
    go true h = ap suc h
    go false h = h

accesses_append : (groups : List GroupPairs) (xs ys : List Told) → accesses groups (xs ++ ys) ≡ accesses groups xs ++ accesses groups ys
accesses_append groups xs ys =
    ap (in_order groups) (gather_append activation_of xs ys) ∙ in_order_append groups (gather activation_of xs) (gather activation_of ys)

after-after : (first a b : ℕ) → after (after first a) b ≡ after first (a + b)
after-after first a b = omega arith

-- `many` accesses of each kind were activated, and the next serials come behind them
pub record Counted (groups : List GroupPairs) (first : ℕ) (many : Kind → ℕ) (q : Contents) : Type 0 where
  pub table : q.groups ≡ groups
  pub next : (K : Kind) → (side_of K q).next ≡ after first (many K)

-- how many accesses of a kind a list's answers activate, and how many one answer does
abbrev pub activated_in : List GroupPairs → List Answered → Kind → ℕ
activated_in groups log K = count_where (is_of K) (accesses groups (told log))

module _ (groups : List GroupPairs) (first : ℕ) where
  abbrev activated-by : Call → Response → Kind → ℕ
  activated-by c s K = activated_in groups (record { call = c; number = s.number; value = s.value } ∷ []) K

  module _ (many : Kind → ℕ) (m : Machine) (h : Counted groups first many m.queue) where
    -- no access is activated
    none_more : {q : Contents} → q.groups ≡ m.queue.groups → q.loads.next ≡ m.queue.loads.next → q.stores.next ≡ m.queue.stores.next
        → (l : List Access) → l ≡ [] → Counted groups first (λ K. many K + count_where (is_of K) l) q
    none_more table loads stores l empty = record {
      table = table ∙ h.table;
      next = elim [ Load ↦ rw (empty, add-zero (many Load)) (loads ∙ h.next Load) | Store ↦ rw (empty, add-zero (many Store)) (stores ∙ h.next Store) ];
    }

    count-step : {c : Call} {s : Response} → Stepped m c s → Counted groups first (λ K. many K + activated-by c s K) s.machine.queue
    count-step (refused {c} n nonzero low) =
        none_more refl refl refl (accesses groups (tell (record { call = c; number = n; value = none }) ∷ [])) (rw nonzero)
    count-step (activated {group} g is fits) = record { table = h.table; next = elim [ Load ↦ more Load _ | Store ↦ more Store _ ] }
      where
        new : List Access
        new = accesses_of (get_elem? groups group) ++ []

        new_is : new ≡ order g
        new_is = rw (← h.table, is, append-nil (order g))

        more : (K : Kind) (n : ℕ) → after (side_of K m.queue).next (length (new_entries K n (order g))) ≡ after first (many K + count_where (is_of K) new)
        more K n =
            let long = new_length K n (order g) ∙ pairs-count (is_of K) (order g) ∙ ap (count_where (is_of K)) (sym new_is) in
            rw (h.next K, long) (after-after first (many K) (count_where (is_of K) new))
    count-step (gave {argument} {port} {x} ranged waited) = given argument
      where
        given : (a : Argument) → Counted groups first (λ K. many K + 0) (argument_given a port x m.queue)
        given LoadAddress = none_more refl refl refl [] refl
        given StoreAddress = none_more refl refl refl [] refl
        given StoreData = none_more refl refl refl [] refl
    count-step (served l at s) = none_more refl refl refl [] refl
    count-step (wrote s at w) = none_more refl refl refl [] refl
    count-step (took l v at has) = none_more refl refl refl [] refl
    count-step (readied n low) = none_more refl refl refl (in_order groups (pick (eqb n 0) [] [])) (go (eqb n 0))
      where
        go : (b : Bool) → in_order groups (pick b [] []) ≡ []
        go true = refl
        go false = refl

  count-calls : (many : Kind → ℕ) (m : Machine) → Counted groups first many m.queue → (calls : List Call)
      → Counted groups first (λ K. many K + activated_in groups (answers m calls) K) (machine_after m calls).queue
  count-calls many m h [] = record { table = h.table; next = λ K. rw (add-zero (many K)) (h.next K) }
  count-calls many m h (c ∷ calls) =
      let rest = count-calls (λ K. many K + activated-by c (step m c) K) (step m c).machine (count-step many m h (stepped m c)) calls in
      record { table = rest.table; next = λ K. rest.next K ∙ ap (after first) (together K) }
    where
      t : Told
      t = tell (record { call = c; number = (step m c).number; value = (step m c).value })

      together : (K : Kind) → many K + activated-by c (step m c) K + activated_in groups (answers (step m c).machine calls) K
          ≡ many K + activated_in groups (answers m (c ∷ calls)) K
      together K =
          let all = ap (count_where (is_of K)) (accesses_append groups (t ∷ []) (told (answers (step m c).machine calls)))
          ∙ count-append (is_of K) (accesses groups (t ∷ [])) (accesses groups (told (answers (step m c).machine calls))) in
          omega (arith, all)

-- after every list of calls from an opening
pub reached-counted : {groups : List GroupPairs} {memory : List ℕ} {m : Machine} (o : Opening groups memory m) (calls : List Call)
    → Counted groups o.first (activated_in groups (answers m calls)) (machine_after m calls).queue
reached-counted {groups} {memory} {m} o calls =
    let all = count-calls groups o.first (λ K. 0) m opened calls in
    record { table = all.table; next = λ K. all.next K ∙ ap (after o.first) (zero-add (activated_in groups (answers m calls) K)) }
  where
    first : o.first ≡ after o.first 0
    first = omega (arith, o.serial)

    opened : Counted groups o.first (λ K. 0) m.queue
    opened =
        rw (← (limits-opened groups o.load_depth o.store_depth o.first (length memory) m.queue o.accepted).1)
        (record { table = refl; next = elim [ Load ↦ first | Store ↦ first ] })
