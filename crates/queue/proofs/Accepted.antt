-- The rules read backwards, once: what a call that was accepted found, and what it left.
use Rattle.std.proofs.Common.{◌≡◌, ℕ, true, not, eqb, List, length, take, subst}
use mathlib.Core.Option.{some}
use lib.ListN.{get_elem?}
use Rattle.number.specs.Basics.{any_of, all_of}
use Rattle.number.specs.Reply.{accept}
use Rattle.table.specs.Group.{GroupPairs}
use Rattle.queue.specs.declared.Kind.TheVariants.{Load as load}
use Rattle.queue.specs.declared.arguments.Argument.{Argument}
use Rattle.queue.specs.Entry.{Entry, served, value_of, data_of, written}
use Rattle.queue.specs.Contents.{Contents, place_of, others_before}
use Rattle.queue.specs.Sound.{sound}
use Rattle.queue.specs.Activate.{room, with_group, activate}
use Rattle.queue.specs.Arguments.{kind_of, names_port, in_range, lacks, asked_of, argument_given, give}
use Rattle.queue.specs.Serve.{Served, source, Loaded, loaded_from, may_serve, served_with, serve}
use Rattle.queue.specs.Write.{Written, WordPut, no_conflict, may_write, written_with, write}
use Rattle.queue.specs.Take.{Taken, take_place, taken_with, take_rule}
use Rattle.number.proofs.ReplyLaws.{need-accepts, have-accepts, and_then_accepts}

-- ---- activate: the group is in the table, and there is room for it
pub activate_accepts : (q : Contents) (group : ℕ) {r : Contents} → activate q group ≡ accept r
    → (g : GroupPairs) × (get_elem? q.groups group ≡ some g) × (room q g ≡ true) × (with_group q g ≡ r)
unfolding activate
activate_accepts q group h₀ =
    let (t₁, h₁) = need-accepts (sound q) _ _ h₀ in
    let (g, is, h₂) = have-accepts (get_elem? q.groups group) _ _ h₁ in
    let (fits, h₃) = need-accepts (room q g) _ _ h₂ in
    (g, is, fits, cc)

-- ---- an argument: it is in range, and an entry waits for it
pub give_accepts : (argument : Argument) (q : Contents) (port x : ℕ) {r : Contents} → give argument q port x ≡ accept r
    → (in_range argument q.memory_length x ≡ true) × (any_of (lacks argument port) (asked_of argument q) ≡ true) × (argument_given argument port x q ≡ r)
unfolding give
give_accepts argument q port x h₀ =
    let (t₁, h₁) = need-accepts (sound q) _ _ h₀ in
    let (t₂, h₂) = need-accepts (any_of (names_port (kind_of argument) port) q.groups) _ _ h₁ in
    let (ranged, h₃) = need-accepts (in_range argument q.memory_length x) _ _ h₂ in
    let (waited, h₄) = need-accepts (any_of (lacks argument port) (asked_of argument q)) _ _ h₃ in
    (ranged, waited, cc)

-- ---- serve: the load has an address, and its source gave it a word
pub record MayServe (m : List ℕ) (ss : List Entry) (l : Entry) (v : Loaded) : Type 0 where
  pub unserved : not (served l) ≡ true
  pub address : ℕ
  pub addressed : l.address ≡ some address
  pub gives : loaded_from m address (source address ss) ≡ accept v

may_serve_accepts : (m : List ℕ) (ss : List Entry) (l : Entry) (v : Loaded) → may_serve m ss l ≡ accept v → MayServe m ss l v
may_serve_accepts m ss l v h =
    let (t₁, h₁) = need-accepts (not (served l)) _ _ h in
    let (a, t₂, h₂) = have-accepts l.address _ _ h₁ in
    record { unserved = t₁; address = a; addressed = t₂; gives = h₂ }

pub record Serving (q : Contents) (m : List ℕ) (l : Entry) : Type 0 where
  pub loaded : Loaded
  pub may : MayServe m (others_before q.stores l) l loaded

pub serve_accepts : (q : Contents) (m : List ℕ) (serial : ℕ) {r : Served} → serve q m serial ≡ accept r
    → (sound q ≡ true) × (l : Entry) × (get_elem? q.loads.entries (place_of q.loads serial) ≡ some l) × (s : Serving q m l)
    × (served_with q (place_of q.loads serial) s.loaded ≡ r)
unfolding serve
serve_accepts q m serial h₀ =
    let (t₁, h₁) = need-accepts (sound q) _ _ h₀ in
    let (t₂, h₂) = need-accepts (eqb (length m) q.memory_length) _ _ h₁ in
    let (l, at, h₃) = have-accepts (get_elem? q.loads.entries (place_of q.loads serial)) _ _ h₂ in
    let (v, may, h₄) = and_then_accepts (may_serve m (others_before q.stores l) l) _ h₃ in
    (t₁, l, at, record { loaded = v; may = may_serve_accepts m (others_before q.stores l) l v may }, cc)

-- ---- write: the store has an address and data, and nothing before it conflicts with it
pub record MayWrite (ls : List Entry) (ss : List Entry) (s : Entry) (p : WordPut) : Type 0 where
  pub unwritten : not (written s) ≡ true
  pub addressed : s.address ≡ some p.address
  pub worded : data_of s ≡ some p.word
  pub loads_apart : all_of (no_conflict served p.address) ls ≡ true
  pub stores_apart : all_of (no_conflict written p.address) ss ≡ true

may_write_accepts : (ls : List Entry) (ss : List Entry) (s : Entry) (p : WordPut) → may_write ls ss s ≡ accept p → MayWrite ls ss s p
may_write_accepts ls ss s p h =
    let (t₁, h₁) = need-accepts (not (written s)) _ _ h in
    let (a, t₂, h₂) = have-accepts s.address _ _ h₁ in
    let (w, t₃, h₃) = have-accepts (data_of s) _ _ h₂ in
    let (t₄, h₄) = need-accepts (all_of (no_conflict served a) ls) _ _ h₃ in
    let (t₅, h₅) = need-accepts (all_of (no_conflict written a) ss) _ _ h₄ in
    let put : record { address = a; word = w } ≡ p = cc h₅ in
    subst (MayWrite ls ss s) put (record { unwritten = t₁; addressed = t₂; worded = t₃; loads_apart = t₄; stores_apart = t₅ })

pub record Writing (q : Contents) (place : ℕ) (s : Entry) : Type 0 where
  pub put : WordPut
  pub may : MayWrite (others_before q.loads s) (take place q.stores.entries) s put

pub write_accepts : (q : Contents) (m : List ℕ) (serial : ℕ) {r : Written} → write q m serial ≡ accept r
    → (sound q ≡ true) × (s : Entry) × (get_elem? q.stores.entries (place_of q.stores serial) ≡ some s)
    × (w : Writing q (place_of q.stores serial) s) × (written_with q m (place_of q.stores serial) w.put ≡ r)
unfolding write
write_accepts q m serial h₀ =
    let (t₁, h₁) = need-accepts (sound q) _ _ h₀ in
    let (t₂, h₂) = need-accepts (eqb (length m) q.memory_length) _ _ h₁ in
    let (s, at, h₃) = have-accepts (get_elem? q.stores.entries (place_of q.stores serial)) _ _ h₂ in
    let (p, may, h₄) = and_then_accepts (may_write (others_before q.loads s) (take (place_of q.stores serial) q.stores.entries) s) _ h₃ in
    (t₁, s, at, record { put = p; may = may_write_accepts (others_before q.loads s) (take (place_of q.stores serial) q.stores.entries) s p may }, cc)

-- ---- take: the port's oldest untaken load has a value
pub take_accepts : (q : Contents) (port : ℕ) {r : Taken} → take_rule q port ≡ accept r
    → (l : Entry) × (v : ℕ) × (get_elem? q.loads.entries (take_place q port) ≡ some l) × (value_of l ≡ some v)
    × (taken_with q (take_place q port) v ≡ r)
unfolding take_rule
take_accepts q port h₀ =
    let (t₁, h₁) = need-accepts (sound q) _ _ h₀ in
    let (t₂, h₂) = need-accepts (any_of (names_port load port) q.groups) _ _ h₁ in
    let (l, at, h₃) = have-accepts (get_elem? q.loads.entries (take_place q port)) _ _ h₂ in
    let (v, has, h₄) = have-accepts (value_of l) _ _ h₃ in
    (l, v, at, has, cc)
