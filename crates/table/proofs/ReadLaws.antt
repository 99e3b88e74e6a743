-- Laws of reading tables.
use Prim.Native.Nat.{ℕ, suc, ◌+◌, ◌-◌, ◌≤◌, ◌<◌}
use mathlib.Core.Path.{◌≡◌, refl, sym, ap, ap₂, ◌∙◌}
use mathlib.Core.Bool.{Bool, true}
use mathlib.Core.List.{List, [], ◌∷◌, ◌++◌, map, append-nil, append_assoc}
use native.Mathlib.Omega.{arith}
use native.Mathlib.Numerals.{add-one}
use native.Mathlib.Nat.{sub-zero}
use lib.ListN.{length, take, drop, set, replicate, length-set, length-map, length-append, take-append-drop}
use lib.Seq.{length-take-le, take-suc-set, drop-set-lt, drop-drop}
use Rattle.table.specs.declared.Pair.{Pair}
use Rattle.table.specs.declared.read.Pairs.{Pairs}
use Rattle.table.specs.declared.Table.{Table}
use Rattle.table.specs.declared.read.NewGroup.{NewGroup}
use Rattle.table.specs.declared.read.Gathered.{Gathered}
use Rattle.number.specs.Refusal.{bad_counts}
use Rattle.number.specs.Reply.{Reply, refuse, accept, need, and_then, passed}
use Rattle.number.specs.Number.{Got, got, then_read, read_number, place_of, reading, read_in, before}
use Rattle.table.specs.Packed.{pair, pair_in, packed_pair, SmallPair}
use Rattle.table.specs.Group.{GroupPairs}
use Rattle.table.specs.Table.{load_rule, store_rule, check_pair, seeing, counts_right, Seen, none_seen, seen_after, check_group}
use Rattle.table.specs.TableBytes.{read_pairs, read_group, read_groups, pack}
use Rattle.table.specs.Internal.{Two, two_numbers, read_two, Finds, pairs_in, pack_pairs, GroupFound, Growing, grown}
use Rattle.number.proofs.ReplyLaws.{then_read_accepts}
use Rattle.number.proofs.RoundTrip.{NumberGot, number_got}
use Rattle.table.proofs.PackedLaws.{pairs_read_back, map-append}
use Rattle.number.proofs.HeldLaws.{held-few}
use Rattle.table.proofs.PackLaws.{Marks, marks_none, marks-room, marks-more, Packed, packed_more}

-- ---- two numbers
pub two-step : {A : Type 0} (s : List ℕ) (k : ℕ → ℕ → List ℕ → Reply (Got A))
    → (then_read (read_number s) λ x s₁. then_read (read_number s₁) λ y s₂. k x y s₂)
    ≡ (then_read (read_two s) λ t s₂. k t.first t.second s₂)
unfolding read_two
two-step {A} s k = first (read_number s)
  where
    second : (x : ℕ) (h : Reply (Got ℕ)) → (then_read h λ y s₂. k x y s₂)
        ≡ (then_read (then_read h λ y s₂. accept (got (two_numbers x y) s₂)) λ t s₂. k t.first t.second s₂)
    second x (accept (got y s₂)) = refl
    second x (refuse n) = refl

    first : (g : Reply (Got ℕ)) → (then_read g λ x s₁. then_read (read_number s₁) λ y s₂. k x y s₂)
        ≡ (then_read (then_read g λ x s₁. then_read (read_number s₁) λ y s₂. accept (got (two_numbers x y) s₂)) λ t s₂. k t.first t.second s₂)
    first (accept (got x s₁)) = second x (read_number s₁)
    first (refuse n) = refl

-- what a call that read two numbers says of the bytes
pub record TwoGot (s : List ℕ) (place x y next : ℕ) : Type 0 where
  pub is : read_two (drop place s) ≡ accept (got (two_numbers x y) (drop next s))
  pub inside : next ≤ length s

-- so says the answer of the call
pub two-answer : (s : List ℕ) (place : ℕ) {x y next : ℕ} → accept (reading (two_numbers x y) next) ≡ read_in s (read_two (drop place s))
    → TwoGot s place x y next
unfolding read_two
two-answer s place {x} {y} {next} e =
    let (t, rest, f, g) = then_read_accepts (read_two (drop place s)) (λ u l. accept (reading u (place_of s l))) (sym e) in
    let (a, s₁, f₁, h) = then_read_accepts (read_number (drop place s)) _ f in
    let (b, s₂, f₂, k) = then_read_accepts (read_number s₁) _ h in
    both (number_got s place (sym (ap (read_in s) f₁))) f₁ f₂ (ap (read_in s) k ∙ g)
  where
    moved : {a b n : ℕ} → a ≡ x → b ≡ y → n ≡ next → TwoGot s place a b n → TwoGot s place x y next
    moved p q r w = rw (p, q, r) at w

    both : {a b : ℕ} {s₁ s₂ : List ℕ} → NumberGot s place a (place_of s s₁) → read_number (drop place s) ≡ accept (got a s₁)
        → read_number s₁ ≡ accept (got b s₂) → accept (reading (two_numbers a b) (place_of s s₂)) ≡ accept (reading (two_numbers x y) next)
        → TwoGot s place x y next
    both {a} {b} {s₁} {s₂} v f₁ f₂ g =
        let m : s₁ ≡ drop (place_of s s₁) s = cc (v.is, f₁) in
        let w = number_got s (place_of s s₁) (sym (ap (read_in s) (ap read_number (sym m) ∙ f₂))) in
        let t : two_numbers a b ≡ two_numbers x y = cc in
        let n : place_of s s₂ ≡ next = cc in
        moved (ap (λ (u : Two). u.first) t) (ap (λ (u : Two). u.second) t) n (record { is = rw (v.is, w.is); inside = w.inside })

-- ---- pairs, one by one

-- elements before those that reading goes on to give
abbrev after : {A : Type 0} → List A → Reply (Got (List A)) → Reply (Got (List A))
after done (accept (got rest s)) = accept (got (done ++ rest) s)
after done (refuse k) = refuse k

after_nil : {A : Type 0} (g : Reply (Got (List A))) → g ≡ after [] g
after_nil (accept (got rest s)) = refl
after_nil (refuse k) = refl

after-before : {A : Type 0} (done : List A) (a : A) (g : Reply (Got (List A))) → after done (before a g) ≡ after (done ++ a ∷ []) g
after-before done a (accept (got rest s)) = rw append_assoc
after-before done a (refuse k) = refl

seeing_snoc : (ps : List Pair) (p : Pair) (seen : List Bool) → seeing (ps ++ p ∷ []) seen ≡ set (seeing ps seen) p.port true
unfolding seeing
seeing_snoc [] p seen = refl
seeing_snoc (q ∷ ps) p seen = seeing_snoc ps p (set seen q.port true)

-- i of n pairs have been read into `places`, the rest of which is 0
pub record PairsReading (rule : ℕ → ℕ → ℕ → Bool) (n : ℕ) (seen : List Bool) (s : List ℕ) (start i low : ℕ) (marks : List Bool) (place : ℕ)
    (places : List ℕ) : Type 0 where
  pub is : read_pairs rule n 0 0 seen (drop start s) ≡ after (map pair_in (take i places)) (read_pairs rule (n - i) low i marks (drop place s))
  pub packs : map packed_pair (map pair_in (take i places)) ≡ take i places
  pub blank : drop i places ≡ replicate (32 - i) 0
  pub long : length places ≡ 32
  pub marks_are : marks ≡ seeing (map pair_in (take i places)) seen
  pub inside : place ≤ length s

pub reading_none : {rule : ℕ → ℕ → ℕ → Bool} {n : ℕ} {seen : List Bool} {s : List ℕ} {start : ℕ} {places : List ℕ} → start ≤ length s
    → places ≡ replicate 32 0 → PairsReading rule n seen s start 0 0 seen start places
unfolding seeing
reading_none {rule} {n} {seen} {s} {start} h e = record {
  is = rw sub-zero (after_nil (read_pairs rule n 0 0 seen (drop start s)));
  packs = refl;
  blank = e;
  long = rw e;
  marks_are = refl;
  inside = h;
}

module _ {rule : ℕ → ℕ → ℕ → Bool} {n : ℕ} {seen : List Bool} {s : List ℕ} {start i low : ℕ} {marks : List Bool} {place : ℕ}
    {places : List ℕ} (w : PairsReading rule n seen s start i low marks place places) where
  module _ (h : i < n) where
    one_less : n - i ≡ suc (n - (i + 1))
    one_less = omega arith

    -- what is left to read is a pair and the pairs after it
    pub next-pair : read_pairs rule (n - i) low i marks (drop place s)
        ≡ (then_read (read_two (drop place s)) λ t s₂. and_then (check_pair (rule low i t.first) marks t.second) λ right.
        (before (pair t.first t.second) (read_pairs rule (n - (i + 1)) t.first (suc i) (set marks t.second true) s₂)))
    unfolding read_pairs
    next-pair = rw one_less
        (two-step (drop place s)
        (λ x y s₂. and_then (check_pair (rule low i x) marks y) λ right. before (pair x y) (read_pairs rule (n - (i + 1)) x (suc i) (set marks y true) s₂)))

    pub reading-refused : {k : ℕ} → read_two (drop place s) ≡ refuse k → read_pairs rule n 0 0 seen (drop start s) ≡ refuse k
    reading-refused e = w.is ∙ rw (next-pair, e)

    module _ {x y next : ℕ} (g : TwoGot s place x y next) where
      pub reading-fault : {k : ℕ} → check_pair (rule low i x) marks y ≡ refuse k → read_pairs rule n 0 0 seen (drop start s) ≡ refuse k
      reading-fault e = w.is ∙ rw (next-pair, g.is, e)

      pub reading-more : n ≤ 16 → check_pair (rule low i x) marks y ≡ passed → SmallPair (pair x y) → (number : ℕ)
          → number ≡ packed_pair (pair x y)
          → PairsReading rule n seen s start (i + 1) x (set marks y true) next (set places i number)
      reading-more few e small number is-packed =
          let l : i < length places = omega (arith, w.long) in
          let p : Pair = pair x y in
          let t : take (i + 1) (set places i number) ≡ take i places ++ number ∷ [] = rw add-one (take-suc-set places i number l) in
          let q : pair_in number ≡ p = ap pair_in is-packed ∙ pairs_read_back p small in
          let u : map pair_in (take (i + 1) (set places i number)) ≡ map pair_in (take i places) ++ p ∷ [] =
          rw t (map-append pair_in (take i places) (number ∷ []) ∙ rw q) in
          record {
            is = w.is ∙ rw (next-pair, g.is, e, u, add-one)
                (after-before (map pair_in (take i places)) p (read_pairs rule (n - suc i) x (suc i) (set marks y true) (drop next s)));
            packs = rw (u, t) (map-append packed_pair (map pair_in (take i places)) (p ∷ []) ∙ rw (w.packs, is-packed));
            blank = rw (drop-set-lt (i + 1) places i number (omega arith), add-one) (blank-after places i w.blank (omega arith));
            long = length-set places i number ∙ w.long;
            marks_are = rw (u, seeing_snoc, ← w.marks_are);
            inside = g.inside;
          }
        where
          blank-after : (l : List ℕ) (j : ℕ) → drop j l ≡ replicate (32 - j) 0 → j < 32 → drop (suc j) l ≡ replicate (32 - suc j) 0
          blank-after l j f k =
              let m : 32 - j ≡ suc (32 - suc j) = omega arith in
              let q : drop 1 (drop j l) ≡ drop (suc j) l = drop-drop 1 j l ∙ rw add-one in
              let r : drop 1 (replicate {A = ℕ} (32 - j) 0) ≡ replicate (32 - suc j) 0 = rw m in
              sym q ∙ ap (drop 1) f ∙ r

  pub reading-end : n ≤ 16 → n ≤ i → i ≤ n → (read_pairs rule n 0 0 seen (drop start s) ≡ accept (got (map pair_in (take i places)) (drop place s)))
      × (places ≡ take i places ++ replicate (32 - i) 0) × (length (take i places) ≡ i)
  unfolding read_pairs
  reading-end few h k =
      let z : n - i ≡ 0 = omega arith in
      (w.is ∙ rw (z, append-nil), sym (take-append-drop i places) ∙ rw w.blank, length-take-le i places (omega (arith, w.long)))

abbrev pub made : ℕ → List ℕ → Pairs
made n places = record { count = n; places = places }

-- the record that reading has filled is the one that its pairs make, and holds just them
module _ (n i : ℕ) (places : List ℕ) (e : n ≡ i) (g : length (take i places) ≡ i) where
  pub packed : places ≡ take i places ++ replicate (32 - i) 0 → map packed_pair (map pair_in (take i places)) ≡ take i places
      → made n places ≡ pack_pairs (map pair_in (take i places))
  packed f p =
      let k : length (map pair_in (take i places)) ≡ i = length-map (take i places) pair_in ∙ g in
      ap₂ made (e ∙ sym k) (f ∙ rw (k, p))

  pub held-pairs : i ≤ length places → pairs_in (made n places) ≡ map pair_in (take i places)
  held-pairs h = rw e (ap (map pair_in) (held-few 0 i places h))

-- ---- a group
-- what follows both counts
abbrev group_rest : Seen → ℕ → ℕ → List ℕ → Reply (Got GroupPairs)
group_rest seen x y s₂ =
    need (counts_right x y) bad_counts
    (then_read (read_pairs (load_rule y) x 0 0 seen.loads s₂) λ ls s₃.
    then_read (read_pairs (store_rule ls) y 0 0 seen.stores s₃) λ ss s₄.
    accept (got (record { loads = ls; stores = ss }) s₄))

pub group-two : (seen : Seen) (s : List ℕ) → read_group seen s ≡ (then_read (read_two s) λ t s₂. group_rest seen t.first t.second s₂)
unfolding read_group
group-two seen s = two-step s (group_rest seen)

-- ---- groups, one by one

-- the first i of n groups have been read into the table
pub record PairsGathering (n : ℕ) (s : List ℕ) (start i : ℕ) (seen : Seen) (place : ℕ) (t : Gathered) : Type 0 where
  pub done : List GroupPairs
  pub is : read_groups n none_seen (drop start s) ≡ after done (read_groups (n - i) seen (drop place s))
  pub many : length done ≡ i
  pub packed_is : Packed t done
  pub marks : Marks seen t.loads t.stores
  pub inside : place ≤ length s

pub gathering_none : {n : ℕ} {s : List ℕ} {start : ℕ} {table : Table} → start ≤ length s → table ≡ pack []
    → PairsGathering n s start 0 none_seen start (record { table = table; loads = 0; stores = 0 })
gathering_none {n} {s} {start} h e = record {
  done = [];
  is = rw sub-zero (after_nil (read_groups n none_seen (drop start s)));
  many = refl;
  packed_is = record { table = e; loads_are = refl; stores_are = refl };
  marks = marks_none;
  inside = h;
}

module _ {n : ℕ} {s : List ℕ} {start i : ℕ} {seen : Seen} {place : ℕ} {t : Gathered} (w : PairsGathering n s start i seen place t) where
  next-group : i < n → read_groups (n - i) seen (drop place s)
      ≡ (then_read (read_group seen (drop place s)) λ g s₁. before g (read_groups (n - (i + 1)) (seen_after g seen) s₁))
  unfolding read_groups
  next-group h = let e : n - i ≡ suc (n - (i + 1)) = omega arith in rw e

  pub gathering-refused : {k : ℕ} → i < n → read_group seen (drop place s) ≡ refuse k → read_groups n none_seen (drop start s) ≡ refuse k
  gathering-refused h e = w.is ∙ rw (next-group h, e)

  module _ {r : NewGroup} {seen_then : Seen} {next : ℕ} (h : i < n) (few : n ≤ 16)
      (g : Finds (read_group seen (drop place s)) s next (GroupFound seen seen_then r)) (right : check_group seen g.what ≡ passed) where
    loads-count : r.loads.count ≡ length g.what.loads
    loads-count = rw g.found.group

    stores-count : r.stores.count ≡ length g.what.stores
    stores-count = rw g.found.group

    -- the ports seen leave room for the group
    pub gathering-room : Growing t r
    gathering-room =
        let m = marks-room (marks-more w.marks g.what right) in
        record {
          groups = rw w.packed_is.table (omega (arith, w.many));
          loads_room = rw loads-count m.0;
          stores_room = rw stores-count m.1;
        }

    pub gathering-more : {u : Gathered} → u ≡ grown t r → PairsGathering n s start (i + 1) seen_then next u
    gathering-more e = rw e (record {
      done = w.done ++ g.what ∷ [];
      is = w.is ∙ rw (next-group h, g.is, ← g.found.marks)
          (after-before w.done g.what (read_groups (n - (i + 1)) seen_then (drop next s)));
      many = rw (length-append, w.many);
      packed_is = packed_more w.packed_is g.what g.found.group (omega (arith, w.many));
      marks = rw (g.found.marks, loads-count, stores-count) (marks-more w.marks g.what right);
      inside = g.inside;
    })

  pub gathering-end : n ≤ i → (read_groups n none_seen (drop start s) ≡ accept (got w.done (drop place s))) × (t.table ≡ pack w.done)
  unfolding read_groups
  gathering-end h =
      let z : n - i ≡ 0 = omega arith in
      (w.is ∙ rw (z, append-nil), w.packed_is.table)
