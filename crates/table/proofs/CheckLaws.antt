-- Laws of checking tables.
use Prim.Native.Nat.{ℕ, zero, suc, ◌+◌, ◌≤◌, ◌<◌}
use mathlib.Core.Path.{◌≡◌, refl, sym, ap, ◌∙◌}
use mathlib.Core.Bool.{Bool, true, false, not}
use mathlib.Core.List.{List, [], ◌∷◌, map}
use native.Mathlib.Omega.{arith}
use native.Mathlib.Nat.{le_trans}
use lib.Dec.{leb, ltb, eqb}
use lib.ListN.{length, get_or, take, drop, set, length-set, length-map}
use lib.ListN.{get_or-map, drop_of_length-le}
use lib.Seq.{get_or-take, get_or-drop, drop-cons}
use native.Mathlib.Numerals.{add-one}
use borrow.Author.Tests.{le-leb, lt-leb, leb-true, leb-false, lt-ltb, le-ltb, eqb-true, not-true}
use Rattle.std.specs.Prelude.{Result, Ok, Err}
use Rattle.number.specs.declared.refusal.Refusal.{Refusal}
use Rattle.table.specs.declared.Pair.{Pair}
use Rattle.table.specs.declared.Group.{Group}
use Rattle.table.specs.declared.Span.{Span}
use Rattle.table.specs.declared.Table.{Table}
use Rattle.table.specs.declared.check.Rule.{Rule}
use Rattle.table.specs.declared.check.Ports.{Ports}
use Rattle.std.specs.Array.{AllOfLen}
use Rattle.std.specs.Prelude.{replicate}
use Rattle.std.proofs.lemmas.List.{ext_get_or, get_or-replicate, length-replicate}
use Rattle.number.specs.Refusal.{bad_group_count, bad_counts, bad_offset, bad_port, port_seen}
use Rattle.number.specs.Reply.{Reply, refuse, passed}
use Rattle.number.specs.Basics.{pick, held, count_where, within}
use Rattle.table.specs.Packed.{pair_in, group_in}
use Rattle.table.specs.Group.{GroupPairs, blank_pair, list_of, Inside, pairs_of, before_store}
use Rattle.table.specs.Table.{span_meant, group_at, meant_in, groups_of, load_rule, store_rule, check_pair, check_pairs, seeing, counts_right, Seen, none_seen}
use Rattle.table.specs.Table.{seen_after, check_group, check_groups, check_table}
use Rattle.table.specs.Internal.{Checks, rule_of, Rising, RuleRight, GroupInside, seen_of}
use Rattle.number.proofs.Both.{and_left, and_right}
use Rattle.number.proofs.HeldLaws.{held-here, held-length}
use Rattle.number.proofs.ReplyLaws.{need-accepts, both-passed}

-- ---- accesses from a place on
module _ (places : List ℕ) (s : Span) where
  pub view-length : length (list_of places s) ≡ s.count
  view-length = length-map (held 0 s.count (drop s.first places)) pair_in ∙ held-length 0 s.count (drop s.first places)

  pub view-at : (i : ℕ) → i < s.count → get_or (list_of places s) i blank_pair ≡ pair_in (get_or places (s.first + i) 0)
  unfolding pair_in
  view-at i h =
      get_or-map pair_in (held 0 s.count (drop s.first places)) i 0
      ∙ ap pair_in (held-here 0 s.count (drop s.first places) i h ∙ get_or-drop s.first places i 0)

-- what a table hands over as its accesses has the places for them
span_inside : (s : Span) → Inside (span_meant s)
span_inside s = go (leb (s.first + s.count) 32) refl (eqb s.count 0) refl
  where
    go : (t : Bool) → leb (s.first + s.count) 32 ≡ t → (u : Bool) → eqb s.count 0 ≡ u → Inside (span_meant s)
    go true h u k = rw h (leb-true (s.first + s.count) 32 h)
    go false h true k = rw (h, k) (omega arith)
    go false h false k = rw (h, k) (omega arith)

pub group-inside : (groups : List ℕ) (i : ℕ) {g : Group} → g ≡ group_at groups i → GroupInside g
unfolding group_at
group-inside groups i e =
    let g = group_in (get_or (take 16 groups) i 0) in
    rw e (span_inside g.loads, span_inside g.stores)

-- ---- how many of rising offsets are at most j
abbrev offset_at : List Pair → ℕ → ℕ
offset_at l i = (get_or l i blank_pair).offset

pub count_most : {A : Type 0} (p : A → Bool) (l : List A) → count_where p l ≤ length l
count_most p [] = omega arith
count_most p (x ∷ xs) = go (p x) (count_most p xs)
  where
    go : (t : Bool) → count_where p xs ≤ length xs → pick t (suc (count_where p xs)) (count_where p xs) ≤ suc (length xs)
    go true h = omega arith
    go false h = omega arith

count-step : (j : ℕ) (p : Pair) (ps : List Pair) → count_where (before_store j) (p ∷ ps) ≤ suc (count_where (before_store j) ps)
count-step j p ps = go (leb p.offset j)
  where
    go : (t : Bool) → pick t (suc (count_where (before_store j) ps)) (count_where (before_store j) ps) ≤ suc (count_where (before_store j) ps)
    go true = omega arith
    go false = omega arith

rising_none : (j low : ℕ) (l : List Pair) → Rising low l → j < low → count_where (before_store j) l ≡ 0
rising_none j low [] r h = refl
rising_none j low (p ∷ ps) r h = rw (lt-leb p.offset j (le_trans h r.0)) (rising_none j p.offset ps r.1 (le_trans h r.0))

rising-least : (low : ℕ) (l : List Pair) (o : ℕ) → Rising low l → o < length l → low ≤ offset_at l o
rising-least low [] o r h = absurd (omega arith)
rising-least low (p ∷ ps) zero r h = r.0
rising-least low (p ∷ ps) (suc o) r h = le_trans r.0 (rising-least p.offset ps o r.1 (omega arith))

pub count-below : (low : ℕ) (l : List Pair) (o j : ℕ) → Rising low l → o < length l → j < offset_at l o → count_where (before_store j) l ≤ o
count-below low [] o j r h k = absurd (omega arith)
count-below low (p ∷ ps) zero j r h k = rw (lt-leb p.offset j k, rising_none j p.offset ps r.1 k) (omega arith)
count-below low (p ∷ ps) (suc o) j r h k = omega (arith, count-step j p ps, count-below p.offset ps o j r.1 (omega arith) k)

pub count-above : (low : ℕ) (l : List Pair) (o j : ℕ) → Rising low l → o < length l → offset_at l o ≤ j → o < count_where (before_store j) l
count-above low [] o j r h k = absurd (omega arith)
count-above low (p ∷ ps) zero j r h k = rw (le-leb p.offset j k) (omega arith)
count-above low (p ∷ ps) (suc o) j r h k =
    rw (le-leb p.offset j (le_trans (rising-least p.offset ps o r.1 (omega arith)) k))
    (omega (arith, count-above p.offset ps o j r.1 (omega arith) k))

-- an array of records is as long as what is known of its elements
pub long : {A B : Type 0} (f : A → B) (l : List A) (n : ℕ) → length (map f l) ≡ n → length l ≡ n
long f [] n p = p
long f (x ∷ xs) n p = ap suc (long f xs (length (map f xs)) refl) ∙ p

-- the numbers of a span are as many as it counts
pub among-length : (numbers places : List ℕ) (s : Span) → map pair_in numbers ≡ list_of places s → length numbers ≡ s.count
among-length numbers places s e = sym (length-map numbers pair_in) ∙ ap length e ∙ view-length places s

-- the pair that a number of some holds
pub pair-at : (numbers : List ℕ) (i : ℕ) → get_or (map pair_in numbers) i blank_pair ≡ pair_in (get_or numbers i 0)
unfolding pair_in
pair-at numbers i = get_or-map pair_in numbers i 0

pub pair-here : (numbers : List ℕ) (i : ℕ) {p : Pair} → p ≡ pair_in (get_or numbers i 0) → get_or (map pair_in numbers) i blank_pair ≡ p
pair-here numbers i e = pair-at numbers i ∙ sym e

module _ (loads : List ℕ) (n i : ℕ) (r : Rising 0 (map pair_in loads)) where
  abbrev listed : List Pair
  listed = map pair_in loads

  size : length listed ≡ length loads
  size = length-map loads pair_in

  pub none_more : length loads ≤ n → false ≡ ltb n (count_where (before_store i) (map pair_in loads))
  none_more h = sym (le-ltb n _ (omega (arith, size, count_most (before_store i) listed)))

  pub more-at : n < length loads → leb (pair_in (get_or loads n 0)).offset i ≡ ltb n (count_where (before_store i) (map pair_in loads))
  more-at h =
      rw (← pair-at loads n) (go (leb (offset_at listed n) i) refl)
    where
      go : (t : Bool) → leb (offset_at listed n) i ≡ t → leb (offset_at listed n) i ≡ ltb n (count_where (before_store i) listed)
      go true e = rw (e, lt-ltb n _ (count-above 0 listed n i r (omega (arith, size)) (leb-true _ _ e)))
      go false e = rw (e, le-ltb n _ (count-below 0 listed n i r (omega (arith, size)) (leb-false _ _ e)))

-- ---- what a check that is passed says, part by part
pub counts-few : (a b : ℕ) → counts_right a b ≡ true → (a ≤ 16) × (b ≤ 16)
counts-few a b e = (leb-true a 16 (and_left (leb a 16) _ e), leb-true b 16 (and_right (leb a 16) _ e))

-- a pair: its offset is right, and its port is one of 32 that was not seen
pub pair-passed : (right : Bool) (seen : List Bool) (port : ℕ) → check_pair right seen port ≡ passed
    → (right ≡ true) × (port ≤ 31) × (get_or seen port false ≡ false)
pair-passed right seen port e =
    let (offset, e₁) = need-accepts right bad_offset _ e in
    let (small, e₂) = need-accepts (leb port 31) bad_port _ e₁ in
    let (new, e₃) = need-accepts (not (get_or seen port false)) port_seen passed e₂ in
    (offset, leb-true port 31 small, not-true (get_or seen port false) new)

-- the first pair, and the others
pub pairs-passed : (rule : ℕ → ℕ → ℕ → Bool) (low i : ℕ) (seen : List Bool) (p : Pair) (ps : List Pair)
    → check_pairs rule low i seen (p ∷ ps) ≡ passed
    → (rule low i p.offset ≡ true) × (p.port ≤ 31) × (get_or seen p.port false ≡ false)
    × (check_pairs rule p.offset (suc i) (set seen p.port true) ps ≡ passed)
unfolding check_pairs
pairs-passed rule low i seen p ps e =
    let (first, others) = both-passed (check_pair (rule low i p.offset) seen p.port) _ e in
    let (right, small, new) = pair-passed (rule low i p.offset) seen p.port first in
    (right, small, new, others)

-- a group: its counts, its loads, its stores
pub group-passed : (seen : Seen) (g : GroupPairs) → check_group seen g ≡ passed → (length g.loads ≤ 16) × (length g.stores ≤ 16)
    × (check_pairs (load_rule (length g.stores)) 0 0 seen.loads g.loads ≡ passed)
    × (check_pairs (store_rule g.loads) 0 0 seen.stores g.stores ≡ passed)
unfolding check_group
group-passed seen g e =
    let (counts, pairs) = need-accepts (counts_right (length g.loads) (length g.stores)) bad_counts _ e in
    let (loads, stores) = both-passed (check_pairs (load_rule (length g.stores)) 0 0 seen.loads g.loads) _ pairs in
    let (few, fewer) = counts-few (length g.loads) (length g.stores) counts in
    (few, fewer, loads, stores)

pub group_pass : (seen : Seen) (g : GroupPairs) → counts_right (length g.loads) (length g.stores) ≡ true
    → check_pairs (load_rule (length g.stores)) 0 0 seen.loads g.loads ≡ passed
    → check_pairs (store_rule g.loads) 0 0 seen.stores g.stores ≡ passed → check_group seen g ≡ passed
unfolding check_group
group_pass seen g counts loads stores = rw (counts, loads, stores)

-- the first group, and the others
pub groups-passed : (seen : Seen) (g : GroupPairs) (gs : List GroupPairs) → check_groups seen (g ∷ gs) ≡ passed
    → (check_group seen g ≡ passed) × (check_groups (seen_after g seen) gs ≡ passed)
unfolding check_groups
groups-passed seen g gs e = both-passed (check_group seen g) _ e

-- a table: how many groups, and the groups
pub table-passed : (gs : List GroupPairs) → check_table gs ≡ passed → (1 ≤ length gs) × (length gs ≤ 16) × (check_groups none_seen gs ≡ passed)
unfolding check_table
table-passed gs e =
    let (count, groups) = need-accepts (within 1 16 (length gs)) bad_group_count _ e in
    (leb-true 1 (length gs) (and_left (leb 1 (length gs)) _ count), leb-true (length gs) 16 (and_right (leb 1 (length gs)) _ count), groups)

pub table_pass : (gs : List GroupPairs) → within 1 16 (length gs) ≡ true → check_groups none_seen gs ≡ passed → check_table gs ≡ passed
unfolding check_table
table_pass gs count groups = rw (count, groups)

-- loads that are passed have offsets that never fall
pub rising-checked : (stores low i : ℕ) (seen : List Bool) (l : List Pair) → check_pairs (load_rule stores) low i seen l ≡ passed → Rising low l
rising-checked stores low i seen [] e = tt
rising-checked stores low i seen (p ∷ ps) e =
    let (right, small, new, others) = pairs-passed (load_rule stores) low i seen p ps e in
    (leb-true low p.offset (and_left (leb low p.offset) _ right), rising-checked stores p.offset (suc i) (set seen p.port true) ps others)

-- ---- checking pairs one by one

-- the pairs before the ith are passed, the last of them has the offset `low`, and `marks` are the ports seen after them
pub record Checking (rule : ℕ → ℕ → ℕ → Bool) (seen : List Bool) (l : List Pair) (i low : ℕ) (marks : List Bool) : Type 0 where
  pub is : check_pairs rule 0 0 seen l ≡ check_pairs rule low i marks (drop i l)
  pub seen_are : seeing l seen ≡ seeing (drop i l) marks
  pub long_marks : length marks ≡ length seen

module _ {rule : ℕ → ℕ → ℕ → Bool} {seen : List Bool} {l : List Pair} {i low : ℕ} {marks : List Bool} (w : Checking rule seen l i low marks) where
  module _ (h : i < length l) {p : Pair} (is : get_or l i blank_pair ≡ p) where
    here : drop i l ≡ p ∷ drop (suc i) l
    here = drop-cons l i blank_pair h ∙ rw is

    pub checking-stop : {n : ℕ} → check_pair (rule low i p.offset) marks p.port ≡ refuse n → check_pairs rule 0 0 seen l ≡ refuse n
    unfolding check_pairs
    checking-stop e = rw (w.is, here, e)

    pub checking-more : check_pair (rule low i p.offset) marks p.port ≡ passed → Checking rule seen l (i + 1) p.offset (set marks p.port true)
    unfolding check_pairs seeing
    checking-more e = record {
      is = w.is ∙ rw (here, e, add-one);
      seen_are = w.seen_are ∙ rw (here, add-one);
      long_marks = length-set marks p.port true ∙ w.long_marks;
    }

  pub checking-end : length l ≤ i → (check_pairs rule 0 0 seen l ≡ passed) × (marks ≡ seeing l seen)
  unfolding check_pairs seeing
  checking-end h = (rw (w.is, drop_of_length-le l h), rw (w.seen_are, drop_of_length-le l h))

-- ---- checking a group
module _ (ls ss : List ℕ) (g : Group) (seen : Seen) where
  pub group-counts : counts_right g.loads.count g.stores.count ≡ false → check_group seen (pairs_of ls ss g) ≡ refuse bad_counts
  unfolding check_group
  group-counts e = rw (view-length ls g.loads, view-length ss g.stores, e)

  module _ (right : counts_right g.loads.count g.stores.count ≡ true) where
    pub group-loads : {n : ℕ} → check_pairs (load_rule g.stores.count) 0 0 seen.loads (list_of ls g.loads) ≡ refuse n
        → check_group seen (pairs_of ls ss g) ≡ refuse n
    unfolding check_group
    group-loads e = rw (view-length ls g.loads, view-length ss g.stores, right, e)

    pub group-stores : check_pairs (load_rule g.stores.count) 0 0 seen.loads (list_of ls g.loads) ≡ passed
        → check_group seen (pairs_of ls ss g) ≡ check_pairs (store_rule (list_of ls g.loads)) 0 0 seen.stores (list_of ss g.stores)
    unfolding check_group
    group-stores d = rw (view-length ls g.loads, view-length ss g.stores, right, d)

-- what a check gives is what the whole gives whose last check it is
pub checks-last : {last whole : Reply (Unit {0})} {Then Whole : Type 0} (r : Result (Unit {0}) Refusal) → whole ≡ last → (Then → Whole)
    → Checks last Then r → Checks whole Whole r
checks-last (Ok t) e f (h, k) = (e ∙ h, f k)
checks-last (Err n) e f h = e ∙ h

-- ---- checking groups one by one

pub all_alike : {A : Type 0} {xs : List A} {n : ℕ} {a : A} → AllOfLen (λ x. x ≡ a) xs n → xs ≡ replicate n a
all_alike {A} {xs} {n} {a} all =
    ext_get_or a xs (replicate n a) (all.long ∙ sym (length-replicate n a)) λ k low.
    all.at k a (omega (arith, all.long)) ∙ sym (get_or-replicate n k a a (omega (arith, all.long)))

-- marks that none was made of
pub none_marked : {ports : Ports} → AllOfLen (λ b. b ≡ false) ports.loads 32 × AllOfLen (λ b. b ≡ false) ports.stores 32 → seen_of ports ≡ none_seen
none_marked (loads, stores) = rw (all_alike loads, all_alike stores)

pub record Passing (seen : Seen) (gs : List GroupPairs) (i : ℕ) (now : Seen) : Type 0 where
  pub is : check_groups seen gs ≡ check_groups now (drop i gs)

module _ {seen : Seen} {gs : List GroupPairs} {i : ℕ} {now : Seen} (w : Passing seen gs i now) where
  module _ (g : GroupPairs) (d : GroupPairs) (h : i < length gs) (is : get_or gs i d ≡ g) where
    this : drop i gs ≡ g ∷ drop (suc i) gs
    this = drop-cons gs i d h ∙ rw is

    pub passing-stop : {n : ℕ} → check_group now g ≡ refuse n → check_groups seen gs ≡ refuse n
    unfolding check_groups
    passing-stop e = rw (w.is, this, e)

    pub passing-more : {next : Seen} → check_group now g ≡ passed → next ≡ seen_after g now → Passing seen gs (i + 1) next
    unfolding check_groups
    passing-more e q = record { is = w.is ∙ rw (this, e, q, add-one) }

  pub passing-end : length gs ≤ i → check_groups seen gs ≡ passed
  unfolding check_groups
  passing-end h = rw (w.is, drop_of_length-le gs h)

-- a table's groups, in its record
within_any : {A : Type 0} (l : List A) (i : ℕ) (d e : A) → i < length l → get_or l i d ≡ get_or l i e
within_any [] i d e h = absurd (omega arith)
within_any (x ∷ xs) zero d e h = refl
within_any (x ∷ xs) (suc i) d e h = within_any xs i d e (omega arith)

module _ (t : Table) where
  abbrev parts : List ℕ
  parts = held 0 t.count t.groups

  abbrev part_of : ℕ → GroupPairs
  part_of = meant_in t.loads t.stores

  pub groups-size : length (groups_of t) ≡ t.count
  groups-size = length-map parts part_of ∙ held-length 0 t.count t.groups

  module _ (few : t.count ≤ 16) (i : ℕ) (k : i < t.count) (d : GroupPairs) where
    pub groups-at : get_or (groups_of t) i d ≡ pairs_of t.loads t.stores (group_at t.groups i)
    unfolding group_at
    groups-at =
        within_any (groups_of t) i d (part_of 0) (omega (arith, groups-size))
        ∙ get_or-map part_of parts i 0
        ∙ ap part_of (held-here 0 t.count t.groups i k ∙ sym (get_or-take 16 t.groups i 0 (omega arith)))

    -- what is handed over as the group at a place is that group
    pub group_at_lem : {g : Group} → g ≡ group_at t.groups i → get_or (groups_of t) i d ≡ pairs_of t.loads t.stores g
    group_at_lem e = groups-at ∙ ap (pairs_of t.loads t.stores) (sym e)

  pub table-count : within 1 16 t.count ≡ false → check_table (groups_of t) ≡ refuse bad_group_count
  unfolding check_table
  table-count e = rw (groups-size, e)

  pub table-groups : within 1 16 t.count ≡ true → check_table (groups_of t) ≡ check_groups none_seen (groups_of t)
  unfolding check_table
  table-groups e = rw (groups-size, e)

-- a right offset is at most 16
pub rule_small : (rule : Rule) (low i offset : ℕ) → RuleRight rule → rule_of rule low i offset ≡ true → offset ≤ 16
rule_small (Rule.Stores loads) low i offset w e =
    let l = map pair_in loads.now in
    omega (arith, eqb-true offset (count_where (before_store i) l) e, count_most (before_store i) l, length-map loads.now pair_in, w.0)
rule_small (Rule.Loads stores) low i offset w e = omega (arith, leb-true offset stores (and_right (leb low offset) _ e), w)
