-- What records and parts hand back are the answers of which proofs/Exactly.antt speaks.
use Prim.Native.Nat.{ℕ}
use native.Mathlib.Omega.{arith}
use mathlib.Core.Path.{◌≡◌, refl, sym, ap, ◌∙◌}
use mathlib.Core.Bool.{true, false}
use mathlib.Core.List.{List, [], ◌∷◌, ◌++◌, head-eq_of_cons-eq, tail-eq_of_cons-eq}
use mathlib.Core.Option.{some}
use lib.ListN.{length, length-append}
use Rattle.number.specs.Reply.{Reply, refuse, accept, number}
use Rattle.table.specs.Group.{GroupPairs}
use Rattle.counts.specs.declared.Counts.{Counts}
use Rattle.queue.specs.Contents.{after}
use Rattle.queue.specs.Serve.{Served, serve}
use Rattle.queue.specs.Parts.{queue_of}
use Rattle.queue.proofs.Lists.{false-true}
use Rattle.queue.proofs.Refusals.{proper, serve_proper}
use Rattle.sequential.specs.Calls.{Call, Serve}
use Rattle.sequential.specs.Answers.{Machine, Answered, serve_response, step, answers, machine_after}
use Rattle.sequential.specs.Demand3.{told, Opening}
use Rattle.sequential.proofs.RecordsDemand3.{runs-agree, opening, opened_frame}
use Rattle.sequential.proofs.RunsOnParts.{parts_are_records}
use Rattle.origins.specs.Exactly.{Latest}
use Rattle.origins.specs.Records.{ServedSo, RecordsExactly, PartsExactly}
use Rattle.origins.proofs.Exactly.{serves-exactly}
use Rattle.origins.proofs.Given.{serves_give_words}

-- ---- the last answer of a list

abbrev answer_of : Machine → Call → Answered
answer_of m c = record { call = c; number = (step m c).number; value = (step m c).value }

answers_last : (m : Machine) (calls : List Call) (c : Call) → answers m (calls ++ c ∷ []) ≡ answers m calls ++ answer_of (machine_after m calls) c ∷ []
answers_last m [] c = refl
answers_last m (d ∷ calls) c = ap (λ (l : List Answered). answer_of m d ∷ l) (answers_last (step m d).machine calls c)

module _ {A : Type 0} where
  none-appended : {B : Type 0} (xs : List A) (x : A) → [] ≡ xs ++ x ∷ [] → B
  none-appended xs x e = absurd (omega (arith, ap length e ∙ length-append xs (x ∷ [])))

  last-same : (xs ys : List A) (x y : A) → xs ++ x ∷ [] ≡ ys ++ y ∷ [] → (xs ≡ ys) × (x ≡ y)
  last-same [] [] x y e = (refl, head-eq_of_cons-eq e)
  last-same [] (w ∷ ys) x y e = none-appended ys y (tail-eq_of_cons-eq e)
  last-same (w ∷ xs) [] x y e = none-appended xs x (sym (tail-eq_of_cons-eq e))
  last-same (w ∷ xs) (v ∷ ys) x y e =
      let (rest, last) = last-same xs ys x y (tail-eq_of_cons-eq e) in
      (rw (head-eq_of_cons-eq e, rest), last)

-- a serve's number
served_number : (m : Machine) (rule : Reply Served) → (serve_response m rule).number ≡ number rule
served_number m (refuse n) = refl
served_number m (accept s) = refl

-- the reply of a serve that was accepted
serve_replies : (m : Machine) (rule : Reply Served) (v : ℕ) → proper rule ≡ true → (serve_response m rule).number ≡ 0 → (serve_response m rule).value ≡ some v
    → (s : Served) × (rule ≡ accept s) × (s.value ≡ v)
serve_replies m (refuse n) v right e is = let z : false ≡ true = cc in false-true z
serve_replies m (accept s) v right e is = (s, refl, cc)

-- the answer to the last call of a list is the one that is spoken of
served_so : {groups : List GroupPairs} {memory : List ℕ} {m : Machine} (o : Opening groups memory m)
    → (calls : List Call) (lent : Counts) (n : ℕ) (log : List Answered) (a : Answered)
    → answers m (calls ++ Serve lent (after o.first n) ∷ []) ≡ log ++ a ∷ [] → Latest groups (told log) n → ServedSo groups memory log n a
served_so {groups} {memory} {m} o calls lent n log a says named =
    go (last-same (answers m calls) log _ a (sym (answers_last m calls (Serve lent (after o.first n))) ∙ says))
  where
    left : Machine
    left = machine_after m calls

    rule : Reply Served
    rule = serve left.queue left.memory (after o.first n)

    go : (answers m calls ≡ log) × (answer_of left (Serve lent (after o.first n)) ≡ a) → ServedSo groups memory log n a
    go (before, last) = record {
      exactly = λ two past.
          let answer : number rule ≡ a.number = sym (served_number left rule) ∙ ap (λ (x : Answered). x.number) last in
          rw (← before, ← answer) (serves-exactly groups memory m o two calls n (rw before named) (rw answer past));
      gives = λ v zero is fill low.
          let (s, accepted, value) = serve_replies left rule v (serve_proper left.queue left.memory (after o.first n))
          (ap (λ (x : Answered). x.number) last ∙ zero) (ap (λ (x : Answered). x.value) last ∙ is) in
          rw (← before, ← value) (serves_give_words groups memory m o calls n (rw before named) s accepted fill low);
    }

pub records_exactly : RecordsExactly
unfolding opening
records_exactly table memory o w calls lent n log a q left run = served_so (opening w) calls lent n log a (runs-agree run).says

pub parts-exactly : PartsExactly
unfolding opened_frame
parts-exactly table load_depth store_depth first memory o small opens accepted loads stores l s calls lent n log a q left run =
    records_exactly table memory (record { answer = o.answer; queue = queue_of o.frame loads stores })
    (opened_frame table load_depth store_depth first memory o small opens accepted loads stores) calls lent n log a q left
    (parts_are_records (queue_of o.frame loads stores) q memory left (calls ++ Serve lent (after first n) ∷ []) (log ++ a ∷ []) l s run)
