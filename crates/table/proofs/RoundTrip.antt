-- Tables: what is written is read, and what is read was written so. The statements are specs/RoundTrip.antt.
use Prim.Native.Nat.{ℕ, zero, suc}
use mathlib.Core.Path.{◌≡◌, refl, sym, ap, ◌∙◌}
use mathlib.Core.Bool.{Bool, true}
use mathlib.Core.List.{List, [], ◌∷◌, ◌++◌, append-nil, append_assoc}
use native.Mathlib.Omega.{arith}
use native.Mathlib.Nat.{zero-add}
use lib.Dec.{eqb}
use lib.ListN.{length, set, drop}
use borrow.Author.Tests.{eqb-true}
use Rattle.table.specs.declared.Pair.{Pair}
use Rattle.table.specs.declared.Table.{Table}
use Rattle.number.specs.Basics.{flat_map, within}
use Rattle.number.specs.Refusal.{bad_fields, bad_group_count, bad_counts, left_over}
use Rattle.number.specs.Reply.{Reply, refuse, accept, and_then, passed}
use Rattle.number.specs.Number.{got, read_number, bytes_of, Fit, fit_none, fit_one}
use Rattle.table.specs.Group.{GroupPairs}
use Rattle.table.specs.Table.{load_rule, store_rule, check_pair, check_pairs, counts_right, Seen, none_seen, seen_after}
use Rattle.table.specs.Table.{groups_of, check_group, check_groups, check_table}
use Rattle.table.specs.TableBytes.{read_pairs, read_group, read_groups, read_table, pack, table_reply, table_read, table_answer, wrote_table}
use Rattle.table.specs.TableBytes.{pair_numbers, group_numbers, table_numbers, table_bytes}
use Rattle.table.specs.RoundTrip.{FaultsAreRead, TablesReadBack, OnlyRightTables, TablesAreWritten, EqualTablesEqualBytes, TablesWrittenBack, RepliesAreRecords}
use Rattle.number.proofs.ReplyLaws.{refused-accepted, need-accepts, and_then_accepts, then_read_accepts, not_zero, refused_some}
use Rattle.number.proofs.ReplyLaws.{need-then, and_then-then, then_read-then, of_accepted, of_read, both_pass}
use Rattle.number.proofs.RoundTrip.{numbers_read_back, Reads, reads_none, reads_one, reads_append, reads-written}
use Rattle.number.proofs.SpliceLaws.{wrote-fits}
use Rattle.table.proofs.Among.{table_among}
use Rattle.table.proofs.PackedLaws.{AllSmall}
use Rattle.table.proofs.CheckLaws.{group-passed, group_pass, groups-passed, table-passed, table_pass}
use Rattle.table.proofs.PackLaws.{group-small, records_hold_groups}

-- ---- what is written is read, or its first fault is told

-- the bytes of these pairs stand before those of other numbers
pairs-told : (rule : ℕ → ℕ → ℕ → Bool) (low i : ℕ) (seen : List Bool) (ps : List Pair) (ns : List ℕ) → Fit (flat_map pair_numbers ps ++ ns)
    → read_pairs rule (length ps) low i seen (bytes_of (flat_map pair_numbers ps ++ ns))
    ≡ (and_then (check_pairs rule low i seen ps) λ right. accept (got ps (bytes_of ns)))
unfolding read_pairs check_pairs
pairs-told rule low i seen [] ns w = refl
pairs-told rule low i seen (p ∷ ps) ns (fit_one h (fit_one k w)) = rw (
  numbers_read_back p.offset h (bytes_of (p.port ∷ flat_map pair_numbers ps ++ ns)),
  numbers_read_back p.port k (bytes_of (flat_map pair_numbers ps ++ ns)),
  pairs-told rule p.offset (suc i) (set seen p.port true) ps ns w,
  then_read-then (check_pairs rule p.offset (suc i) (set seen p.port true) ps),
  and_then-then (check_pair (rule low i p.offset) seen p.port),
)

-- what stands behind numbers that fit
fit-behind : (ms : List ℕ) {ns : List ℕ} → Fit (ms ++ ns) → Fit ns
fit-behind [] w = w
fit-behind (m ∷ ms) (fit_one h w) = fit-behind ms w

group-told : (seen : Seen) (g : GroupPairs) (ns : List ℕ) → Fit (group_numbers g ++ ns)
    → read_group seen (bytes_of (group_numbers g ++ ns)) ≡ (and_then (check_group seen g) λ right. accept (got g (bytes_of ns)))
unfolding read_group check_group
group-told seen g ns (fit_one h (fit_one k w)) =
    let ls = flat_map pair_numbers g.loads in
    let ss = flat_map pair_numbers g.stores in
    let v : Fit (ls ++ (ss ++ ns)) = rw (append_assoc ls ss ns) at w in
    let loads = check_pairs (load_rule (length g.stores)) 0 0 seen.loads g.loads in
    rw (
      numbers_read_back (length g.loads) h (bytes_of (length g.stores ∷ (ls ++ ss) ++ ns)),
      numbers_read_back (length g.stores) k (bytes_of ((ls ++ ss) ++ ns)),
      append_assoc ls ss ns,
      pairs-told (load_rule (length g.stores)) 0 0 seen.loads g.loads (ss ++ ns) v,
      then_read-then loads,
      pairs-told (store_rule g.loads) 0 0 seen.stores g.stores ns (fit-behind ls v),
      then_read-then (check_pairs (store_rule g.loads) 0 0 seen.stores g.stores),
      need-then,
      and_then-then loads,
    )

groups-told : (seen : Seen) (gs : List GroupPairs) (ns : List ℕ) → Fit (flat_map group_numbers gs ++ ns)
    → read_groups (length gs) seen (bytes_of (flat_map group_numbers gs ++ ns)) ≡ (and_then (check_groups seen gs) λ right. accept (got gs (bytes_of ns)))
unfolding read_groups check_groups
groups-told seen [] ns w = refl
groups-told seen (g ∷ gs) ns w =
    let others = flat_map group_numbers gs ++ ns in
    let v : Fit (group_numbers g ++ others) = rw (append_assoc (group_numbers g) (flat_map group_numbers gs) ns) at w in
    ap (λ (ms : List ℕ). read_groups (suc (length gs)) seen (bytes_of ms)) (append_assoc (group_numbers g) (flat_map group_numbers gs) ns)
    ∙ rw (
      group-told seen g others v,
      then_read-then (check_group seen g),
      groups-told (seen_after g seen) gs ns (fit-behind (group_numbers g) v),
      then_read-then (check_groups (seen_after g seen) gs),
      and_then-then (check_group seen g),
    )

pub faults_are_read : FaultsAreRead
unfolding read_table check_table
faults_are_read gs (fit_one h (fit_one k w)) =
    let numbers = flat_map group_numbers gs in
    let e : read_groups (length gs) none_seen (bytes_of numbers) ≡ (and_then (check_groups none_seen gs) λ right. accept (got gs [])) =
    rw (append-nil numbers) at (groups-told none_seen gs [] (rw (append-nil numbers) w)) in
    rw (
      numbers_read_back 2 h (bytes_of (length gs ∷ numbers)),
      numbers_read_back (length gs) k (bytes_of numbers),
      e,
      then_read-then (check_groups none_seen gs),
      need-then,
    )

-- the numbers of a right table are all small
fit-pairs : (ps : List Pair) {ns : List ℕ} → AllSmall ps → Fit ns → Fit (flat_map pair_numbers ps ++ ns)
fit-pairs [] small w = w
fit-pairs (p ∷ ps) small w =
    fit_one {n = p.offset} (omega (arith, small.0.offset)) (fit_one {n = p.port} (omega (arith, small.0.port)) (fit-pairs ps small.1 w))

fit-groups : (seen : Seen) (gs : List GroupPairs) → check_groups seen gs ≡ passed → Fit (flat_map group_numbers gs)
fit-groups seen [] e = fit_none
fit-groups seen (g ∷ gs) e =
    let (first, others) = groups-passed seen g gs e in
    let (few, fewer, ls, ss) = group-passed seen g first in
    let (loads, stores) = group-small seen g first in
    let pairs : Fit ((flat_map pair_numbers g.loads ++ flat_map pair_numbers g.stores) ++ flat_map group_numbers gs) =
    rw (append_assoc (flat_map pair_numbers g.loads) (flat_map pair_numbers g.stores) (flat_map group_numbers gs))
    (fit-pairs g.loads loads (fit-pairs g.stores stores (fit-groups (seen_after g seen) gs others))) in
    fit_one {n = length g.loads} (omega (arith, few)) (fit_one {n = length g.stores} (omega (arith, fewer)) pairs)

pub tables_read_back : TablesReadBack
tables_read_back gs e =
    let (some, few, groups) = table-passed gs e in
    let w : Fit (table_numbers gs) = fit_one {n = 2} (omega arith) (fit_one {n = length gs} (omega (arith, few)) (fit-groups none_seen gs groups)) in
    faults_are_read gs w ∙ rw e

-- ---- what is read is right, and was written so

-- Pairs that were read: they are right, and their numbers are read one after the other.
pub record PairsWritten (rule : ℕ → ℕ → ℕ → Bool) (n low i : ℕ) (seen : List Bool) (s : List ℕ) (ps : List Pair)
    (rest : List ℕ) : Type 0 where
  pub right : check_pairs rule low i seen ps ≡ passed
  pub many : length ps ≡ n
  pub reads : Reads s (flat_map pair_numbers ps) rest

pub pairs-written : (rule : ℕ → ℕ → ℕ → Bool) (n low i : ℕ) (seen : List Bool) (s : List ℕ) {ps : List Pair} {rest : List ℕ}
    → read_pairs rule n low i seen s ≡ accept (got ps rest) → PairsWritten rule n low i seen s ps rest
unfolding read_pairs check_pairs
pairs-written rule zero low i seen s e = of_read (PairsWritten rule zero low i seen s) e (record { right = refl; many = refl; reads = reads_none })
pairs-written rule (suc n) low i seen s e =
    let (x, s₁, a, e₁) = then_read_accepts (read_number s) _ e in
    let (y, s₂, b, e₂) = then_read_accepts (read_number s₁) _ e₁ in
    let (right, c, e₃) = and_then_accepts (check_pair (rule low i x) seen y) _ e₂ in
    let (l, r, d, q) = then_read_accepts (read_pairs rule n x (suc i) (set seen y true) s₂) _ e₃ in
    let w = pairs-written rule n x (suc i) (set seen y true) s₂ d in
    of_read (PairsWritten rule (suc n) low i seen s) q (record {
      right = both_pass c w.right;
      many = ap suc w.many;
      reads = reads_one a (reads_one b w.reads);
    })

pub record GroupWritten (seen : Seen) (s : List ℕ) (g : GroupPairs) (rest : List ℕ) : Type 0 where
  pub right : check_group seen g ≡ passed
  pub reads : Reads s (group_numbers g) rest

pub group-written : (seen : Seen) (s : List ℕ) {g : GroupPairs} {rest : List ℕ} → read_group seen s ≡ accept (got g rest) → GroupWritten seen s g rest
unfolding read_group
group-written seen s e =
    let (x, s₁, a, e₁) = then_read_accepts (read_number s) _ e in
    let (y, s₂, b, e₂) = then_read_accepts (read_number s₁) _ e₁ in
    let (c, e₃) = need-accepts (counts_right x y) bad_counts _ e₂ in
    let (ls, s₃, d, e₄) = then_read_accepts (read_pairs (load_rule y) x 0 0 seen.loads s₂) _ e₃ in
    let (ss, s₄, f, q) = then_read_accepts (read_pairs (store_rule ls) y 0 0 seen.stores s₃) _ e₄ in
    let l = pairs-written (load_rule y) x 0 0 seen.loads s₂ d in
    let t = pairs-written (store_rule ls) y 0 0 seen.stores s₃ f in
    of_read (GroupWritten seen s) q (record {
      right = group_pass seen (record { loads = ls; stores = ss }) (rw (l.many, t.many) c) (rw t.many l.right) t.right;
      reads = rw (l.many, t.many) (reads_one a (reads_one b (reads_append l.reads t.reads)));
    })

record GroupsWritten (seen : Seen) (n : ℕ) (s : List ℕ) (gs : List GroupPairs) (rest : List ℕ) : Type 0 where
  pub right : check_groups seen gs ≡ passed
  pub many : length gs ≡ n
  pub reads : Reads s (flat_map group_numbers gs) rest

groups-written : (n : ℕ) (seen : Seen) (s : List ℕ) {gs : List GroupPairs} {rest : List ℕ} → read_groups n seen s ≡ accept (got gs rest)
    → GroupsWritten seen n s gs rest
unfolding read_groups check_groups
groups-written zero seen s e = of_read (GroupsWritten seen zero s) e (record { right = refl; many = refl; reads = reads_none })
groups-written (suc n) seen s e =
    let (g, s₁, a, e₁) = then_read_accepts (read_group seen s) _ e in
    let (l, r, b, q) = then_read_accepts (read_groups n (seen_after g seen) s₁) _ e₁ in
    let x = group-written seen s a in
    let w = groups-written n (seen_after g seen) s₁ b in
    of_read (GroupsWritten seen (suc n) s) q (record {
      right = both_pass x.right w.right;
      many = ap suc w.many;
      reads = reads_append x.reads w.reads;
    })

table-reads : (s : List ℕ) {gs : List GroupPairs} → read_table s ≡ accept gs → (check_table gs ≡ passed) × Reads s (table_numbers gs) []
unfolding read_table
table-reads s e =
    let (x, s₁, a, e₁) = then_read_accepts (read_number s) _ e in
    let (two, e₂) = need-accepts (eqb x 2) bad_fields _ e₁ in
    let (n, s₂, b, e₃) = then_read_accepts (read_number s₁) _ e₂ in
    let (count, e₄) = need-accepts (within 1 16 n) bad_group_count _ e₃ in
    let (hs, s₃, c, e₅) = then_read_accepts (read_groups n none_seen s₂) _ e₄ in
    let (none, q) = need-accepts (eqb (length s₃) 0) left_over (accept hs) e₅ in
    let w = groups-written n none_seen s₂ c in
    of_accepted (λ l. (check_table l ≡ passed) × Reads s (table_numbers l) []) q (
      table_pass hs (rw w.many count) w.right,
      to_end (eqb-true x 2 two) w.many (eqb-true (length s₃) 0 none) (reads_one a (reads_one b w.reads)),
    )
  where
    to_end : {x n m : ℕ} {ns rest : List ℕ} → x ≡ 2 → m ≡ n → length rest ≡ 0 → Reads s (x ∷ n ∷ ns) rest → Reads s (2 ∷ m ∷ ns) []
    to_end {rest = []} two many none w = rw (two, ← many) at w
    to_end {rest = y ∷ rest} two many none w = absurd (omega arith)

pub only_right_tables : OnlyRightTables
only_right_tables s gs e = (table-reads s e).0

pub tables_are_written : TablesAreWritten
tables_are_written s gs a = (there, λ w. ap read_table w.1 ∙ tables_read_back gs w.0)
  where
    there : read_table s ≡ accept gs → (check_table gs ≡ passed) × (s ≡ table_bytes gs)
    there e =
        let (right, w) = table-reads s e in
        (right, (reads-written a w).1 ∙ append-nil (table_bytes gs))

pub equal_tables_equal_bytes : EqualTablesEqualBytes
equal_tables_equal_bytes s t gs a b e f = ((tables_are_written s gs a).0 e).1 ∙ sym ((tables_are_written t gs b).0 f).1

-- ---- what a call that reads a table says of the bytes: its record holds the groups that were read, or it has the refusal's number
held_groups : (s : List ℕ) {gs : List GroupPairs} {t : Table} → read_table s ≡ accept gs → t ≡ pack gs → groups_of t ≡ gs
held_groups s {gs} d e = ap groups_of e ∙ records_hold_groups gs (only_right_tables s gs d)

pub table_got : (s : List ℕ) {t : Table} → accept t ≡ table_reply (read_table s) → (read_table s ≡ accept (groups_of t)) × (t ≡ pack (groups_of t))
table_got s {t} e = go (read_table s) refl e
  where
    go : (g : Reply (List GroupPairs)) → read_table s ≡ g → accept t ≡ table_reply g → (read_table s ≡ accept (groups_of t)) × (t ≡ pack (groups_of t))
    go (refuse n) d f = refused-accepted (sym f)
    go (accept gs) d f =
        let p : t ≡ pack gs = cc in
        let held = held_groups s d p in
        (d ∙ ap accept (sym held), p ∙ ap pack (sym held))

pub table_refused : (s : List ℕ) {n : ℕ} → refuse n ≡ table_reply (read_table s) → read_table s ≡ refuse n
table_refused s {n} e = go (read_table s) e
  where
    go : (g : Reply (List GroupPairs)) → refuse n ≡ table_reply g → g ≡ refuse n
    go (refuse m) f = cc
    go (accept gs) f = refused-accepted f

pub replies_are_records : RepliesAreRecords
replies_are_records s r e = ap table_read e ∙ go (read_table s)
  where
    go : (g : Reply (List GroupPairs)) → table_read (table_reply g) ≡ table_answer g
    go (refuse n) = refl
    go (accept gs) = refl

answered : (s : List ℕ) → (table_answer (read_table s)).answer ≡ 0 → read_table s ≡ accept (groups_of (table_answer (read_table s)).table)
answered s zero_is = go (read_table s) refl zero_is
  where
    go : (g : Reply (List GroupPairs)) → read_table s ≡ g → (table_answer g).answer ≡ 0 → g ≡ accept (groups_of (table_answer g).table)
    go (refuse n) d z = absurd (refused_some (read_table s) (table_among not_zero refl s) d z)
    go (accept gs) d z = ap accept (sym (held_groups s d refl))

pub tables_written_back : TablesWrittenBack
unfolding wrote_table
tables_written_back s buffer a answer room =
    let gs = groups_of (table_answer (read_table s)).table in
    let (right, whole) = (tables_are_written s gs a).0 (answered s answer) in
    back gs right whole
  where
    back : (gs : List GroupPairs) → check_table gs ≡ passed → s ≡ table_bytes gs →
        wrote_table gs buffer ≡ record { answer = accept (length s); buffer = s ++ drop (length s) buffer }
    back gs right whole = rw (right, ← whole) (wrote-fits s buffer room ∙ rw zero-add)
