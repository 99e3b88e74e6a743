-- Laws of the record: what one take changes.
use Prim.Native.Nat.{ℕ, zero, suc, ◌+◌, ◌≤◌, ◌<◌, ◌^◌, min}
use mathlib.Core.Path.{◌≡◌, refl, ap, ap₂, ◌∙◌}
use mathlib.Core.Bool.{Bool, true, false}
use mathlib.Core.List.{List, [], ◌∷◌}
use native.Mathlib.Omega.{arith}
use lib.ListN.{length, get_or, set, length-set}
use lib.Seq.{set_out, get_or-set_same, get_or-set_other}
use borrow.Author.Tests.{ltb-true, lt-ltb, eqb-true, eqb-false}
use Rattle.number.specs.Basics.{pick, all_of}
use Rattle.number.proofs.Both.{and_left, and_right}
use Rattle.counts.specs.Counts.{full}
use Rattle.queue.specs.Contents.{update_at}
use Rattle.queue.proofs.ContentsLaws.{update-set}
use Rattle.queue.proofs.Lists.{and_both, length-update_at}
use Rattle.sequential.specs.RunsExist.{bits_fit}
use Rattle.shift.specs.declared.ShiftRecord.{ShiftRecord}
use Rattle.shift.specs.Record.{takes_of, one_more, recorded, NoTakesStored, RecordsOnePort}

abbrev record_with : List ℕ → List ℕ → ShiftRecord
record_with takes values = record { takes = takes; values = values }

module _ (r : ShiftRecord) (port value : ℕ) where
  pub recorded-set : recorded port value r ≡ record { takes = set r.takes port (one_more (get_or r.takes port 0)); values = set r.values port value }
  recorded-set = rw (update-set one_more r.takes port 0)

  pub recorded-outside : length r.takes ≡ 32 → length r.values ≡ 32 → 32 ≤ port → recorded port value r ≡ r
  recorded-outside h k outside =
      recorded-set ∙ ap₂ record_with (set_out r.takes port _ (omega (arith, h))) (set_out r.values port value (omega (arith, k)))

-- a count that has stopped is the greatest that there is
pub one_more-is : (n : ℕ) → n < 4294967296 → min (n + 1) 4294967295 ≡ one_more n
one_more-is n small = go (full n) refl
  where
    go : (t : Bool) → full n ≡ t → min (n + 1) 4294967295 ≡ pick t n (n + 1)
    go true e = let at : n ≡ 4294967295 = eqb-true n 4294967295 e in omega (arith, at)
    go false e = let apart : n ≡ 4294967295 → ⊥ = eqb-false n 4294967295 e in omega (arith, small, apart)

-- ---- a record as a program holds it
all_update : (f : ℕ → ℕ) (l : List ℕ) (i : ℕ) → ((n : ℕ) → bits_fit 32 n ≡ true → bits_fit 32 (f n) ≡ true)
    → all_of (bits_fit 32) l ≡ true
    → all_of (bits_fit 32) (update_at f i l) ≡ true
all_update f [] zero each h = refl
all_update f [] (suc i) each h = refl
all_update f (x ∷ xs) zero each h = and_both (each x (and_left (bits_fit 32 x) _ h)) (and_right (bits_fit 32 x) _ h)
all_update f (x ∷ xs) (suc i) each h = and_both (and_left (bits_fit 32 x) _ h) (all_update f xs i each (and_right (bits_fit 32 x) _ h))

all_set : (l : List ℕ) (i v : ℕ) → bits_fit 32 v ≡ true → all_of (bits_fit 32) l ≡ true → all_of (bits_fit 32) (set l i v) ≡ true
all_set [] i v e h = refl
all_set (x ∷ xs) zero v e h = and_both e (and_right (bits_fit 32 x) _ h)
all_set (x ∷ xs) (suc i) v e h = and_both (and_left (bits_fit 32 x) _ h) (all_set xs i v e (and_right (bits_fit 32 x) _ h))

-- a count that stops keeps its bits
one_more_fits : (n : ℕ) → bits_fit 32 n ≡ true → bits_fit 32 (one_more n) ≡ true
one_more_fits n h = go (full n) refl
  where
    go : (t : Bool) → full n ≡ t → bits_fit 32 (pick t n (n + 1)) ≡ true
    go true e = h
    go false e =
        let below : n < 2 ^ 32 = ltb-true n (2 ^ 32) h in
        let apart : n ≡ 4294967295 → ⊥ = eqb-false n 4294967295 e in
        lt-ltb (n + 1) (2 ^ 32) (omega (arith, below, apart))

pub no_takes_stored : NoTakesStored
no_takes_stored = record { ports = refl; takes = refl; ports_too = refl; values = refl }

pub records_one_port : RecordsOnePort
records_one_port r s port value = record {
  takes = λ low.
      ap (λ (l : List ℕ). get_or l port 0) (update-set one_more r.takes port 0)
      ∙ get_or-set_same r.takes port (one_more (takes_of r port)) 0 (omega (arith, low, s.ports));
  last = λ low. get_or-set_same r.values port value 0 (omega (arith, low, s.ports_too));
  other_takes = λ other apart.
      ap (λ (l : List ℕ). get_or l other 0) (update-set one_more r.takes port 0)
      ∙ get_or-set_other r.takes port other (one_more (takes_of r port)) 0 apart;
  other_values = λ other apart. get_or-set_other r.values port other value 0 apart;
  outside = recorded-outside r port value s.ports s.ports_too;
  stored = λ small. record {
    ports = length-update_at one_more port r.takes ∙ s.ports;
    takes = all_update one_more r.takes port one_more_fits s.takes;
    ports_too = length-set r.values port value ∙ s.ports_too;
    values = all_set r.values port value (lt-ltb value (2 ^ 32) small) s.values;
  };
}
