-- From an opening a load's address is in the memory, accepted or filled in, so its origin is the last store to that address.
use Prim.Native.Nat.{ℕ, ◌<◌}
use mathlib.Core.Path.{◌≡◌, refl, ap, ap₂, ◌∙◌}
use mathlib.Core.Bool.{true, false}
use mathlib.Core.List.{List, [], ◌∷◌, ◌++◌, map, map-append, head-eq_of_cons-eq, tail-eq_of_cons-eq}
use mathlib.Core.Option.{Option, none, some}
use lib.ListN.{length}
use borrow.Author.Tests.{ltb-true}
use Rattle.table.specs.declared.Pair.{Pair}
use Rattle.table.specs.Group.{GroupPairs, Access, load, pair_of, uncounted}
use Rattle.queue.specs.declared.arguments.Argument.TheVariants.{LoadAddress}
use Rattle.queue.proofs.Lists.{false-true, all_middle}
use Rattle.sequential.specs.Answers.{Machine, Answered, answers}
use Rattle.sequential.specs.Plain.{rows_of, accesses, next_of}
use Rattle.sequential.specs.Demand3.{told, uses}
use Rattle.sequential.proofs.Log.{LogEntry, of_load, of_store, access_of, loads, own_in, own_in_append}
use Rattle.sequential.proofs.PlainRun.{count-uncounted, uses-uncounted}
use Rattle.sequential.proofs.Rows.{given, AllRows, load_fits, eqb_self}
use Rattle.sequential.proofs.Invariant.{Invariant, right_load, load_in_range}
use Rattle.sequential.proofs.Run.{reached}
use Rattle.origins.specs.Origins.{used_by, ListsOriginsAreLast}
use Rattle.origins.proofs.Past.{rows_past, left_past}
use Rattle.origins.proofs.Last.{origins_are_last}
use Rattle.origins.proofs.Fillings.{rows_past_lem, none_given}

-- a list by what is made of it
map-split : {A B : Type 0} (f : A → B) (l : List A) (xs : List B) (y : B) (ys : List B) → map f l ≡ xs ++ y ∷ ys
    → (pre : List A) × (e : A) × (post : List A) × (l ≡ pre ++ e ∷ post) × (map f pre ≡ xs) × (f e ≡ y)
map-split f [] [] y ys h = let z : false ≡ true = cc in false-true z
map-split f [] (x ∷ xs) y ys h = let z : false ≡ true = cc in false-true z
map-split f (e ∷ l) [] y ys h = ([], e, l, refl, refl, head-eq_of_cons-eq h)
map-split {A} {B} f (e ∷ l) (x ∷ xs) y ys h =
    let (pre, d, post, is, front, at) = map-split f l xs y ys (tail-eq_of_cons-eq h) in
    (e ∷ pre, d, post, ap (λ (r : List A). e ∷ r) is, ap₂ (λ (b : B) (r : List B). b ∷ r) (head-eq_of_cons-eq h) front, at)

module _ {groups : List GroupPairs} {memory : List ℕ} {answered : List Answered} {m : Machine} (st : Invariant groups memory answered m)
    (before : List Access) (p : Pair) (rest : List Access) (is : accesses groups (told answered) ≡ before ++ load p ∷ rest) (filled : ℕ)
    (low : filled < length memory) where
  used_low : used_by (rows_of (told answered)) before LoadAddress p.port filled < length memory
  used_low = go (map-split access_of st.log (map uncounted before) (uncounted (load p)) (map uncounted rest)
      (st.seen.shape ∙ ap (map uncounted) is ∙ map-append uncounted before (load p ∷ rest)))
    where
      go : (pre : List LogEntry) × (e : LogEntry) × (post : List LogEntry) × (st.log ≡ pre ++ e ∷ post) × (map access_of pre ≡ map uncounted before)
          × (access_of e ≡ uncounted (load p)) → used_by (rows_of (told answered)) before LoadAddress p.port filled < length memory
      go (pre, of_store s, post, log_is, front, at) = let z : false ≡ true = cc in false-true z
      go (pre, of_load l, post, log_is, front, at) =
          rw same-used (known l.address refl)
        where
          port : l.port ≡ p.port
          port = ap (λ (x : Access). (pair_of x).port) at

          past : AllRows (of_load l ∷ post) (rows_past (map access_of pre) (rows_of (told answered)))
          past = rows_past_lem pre (of_load l ∷ post) (rows_of (told answered)) (rw log_is at st.seen.rows)

          same-used : used_by (rows_of (told answered)) before LoadAddress p.port filled
              ≡ next_of (rows_past (map access_of pre) (rows_of (told answered)) LoadAddress l.port) filled
          same-used =
              rw (
                left_past (rows_of (told answered)) (map access_of pre) LoadAddress l.port,
                front,
                count-uncounted (uses LoadAddress l.port) (uses-uncounted LoadAddress l.port) before,
                port,
              )

          known : (o : Option ℕ) → l.address ≡ o
              → next_of (rows_past (map access_of pre) (rows_of (told answered)) LoadAddress l.port) filled < length memory
          known none e =
              rw (none_given LoadAddress l.port (of_load l) post (rows_past (map access_of pre) (rows_of (told answered))) filled past lacking) low
            where
              lacking : given LoadAddress l.port (of_load l) ≡ some none
              lacking = rw (eqb_self l.port, e)
          known (some a) e =
              let right = all_middle (right_load m.queue.memory_length) (own_in loads pre) (own_in loads post) l
              (rw (log_is, own_in_append loads pre (of_load l ∷ post)) at (st.holds.right loads)) in
              rw (← (rw e at (load_fits l post (rows_past (map access_of pre) (rows_of (told answered))) filled past)), st.holds.opened)
              (ltb-true a m.queue.memory_length (rw e at (load_in_range m.queue.memory_length l right)))

pub lists_origins_are_last : ListsOriginsAreLast
lists_origins_are_last groups memory m o calls fill below before p rest is =
    origins_are_last groups memory (told (answers m calls)) fill before p rest is (used_low (reached o calls) before p rest is _ (below (length before)))
