-- What serve and write accept goes by the entry and the entries before it, and not by the memory's words; and the serials that
-- pass, gathered from the oldest.
use Rattle.std.proofs.Common.{rules, ◌≡◌, ℕ, zero, suc, ◌+◌, ◌-◌, ◌<◌, ◌≤◌, Bool, true, false, not, eqb, leb, Result, Ok, Err, List, []}
use Rattle.std.proofs.Common.{◌∷◌, ◌++◌, length, get_or, take, drop, sym, refl, ap, ◌∙◌, ap₂, append_assoc, append-nil, le_trans, arith}
use Rattle.std.proofs.Common.{length-append, length-take-le}
use mathlib.Core.Option.{Option, none, some}
use lib.ListN.{length-replicate, get_elem?}
use lib.Seq.{take-append_seam}
use Rattle.number.specs.Basics.{pick, keep_where}
use Rattle.queue.specs.declared.Kind.{Kind}
use Rattle.queue.specs.declared.Kind.TheVariants.{Load as load, Store as store}
use Rattle.queue.specs.declared.Queue.{Queue}
use Rattle.number.specs.declared.refusal.Refusal.{Refusal}
use Rattle.number.specs.Refusal.{too_short, unsound, no_serial, refusal_number}
use Rattle.number.specs.Reply.{Reply, refuse, accept, need, have, and_then, accepted, reply}
use Rattle.queue.specs.Entry.{Entry, entry_in, served}
use Rattle.queue.specs.Contents.{Contents, contents_of, after, age, oldest, place_of, others_before}
use Rattle.queue.specs.Sound.{sound}
use Rattle.queue.specs.Serve.{unsettled, Source, from_store, from_memory, source, loaded_from, may_serve, served_with, serve_at, serve}
use Rattle.queue.specs.Write.{may_write, written_with, write_at, write}
use Rattle.queue.specs.Ready.{serials, count_of, oldest_of, answer_to, any_memory, would, ready_serials, ready, Readied, readied, Readies}
use Rattle.queue.specs.Internal.{may_write_at, load_ready, ready_at, InReach, Serials, serials_listed, Noted, Lists, HandedOut}
use Rattle.queue.proofs.ContentsLaws.{counts_of, side_next, side-count, side-get_elem?, side-take}
use Rattle.number.proofs.AnswerLaws.{refusals_positive}
use Rattle.number.proofs.ReplyLaws.{accepted_number, not_zero}
use Rattle.queue.proofs.Refusals.{proper, need_same, have_same, small-proper, ready-small, serve_proper, write_proper}
use Rattle.queue.proofs.Serials.{place_of_serial, oldest-small}
use Rattle.queue.proofs.SoundLaws.{count_most, before-held}
use Rattle.queue.proofs.ServeLaws.{serve_by_place}
use Rattle.queue.proofs.WriteLaws.{write_by_place, write-held}

-- ---- serving
abbrev pub ready_in : Contents → Option Entry → Bool
ready_in q none = false
ready_in q (some l) = load_ready (others_before q.stores l) l

then_accepts : {A B : Type 0} (x : Reply A) (f : A → B) → accepted (and_then x λ a. accept (f a)) ≡ accepted x
then_accepts (refuse n) f = refl
then_accepts (accept a) f = refl

-- memory's words do not matter to what is accepted
module _ (m m' : List ℕ) where
  loaded-any : (a : ℕ) (x : Source) → accepted (loaded_from m a x) ≡ accepted (loaded_from m' a x)
  loaded-any a unsettled = refl
  loaded-any a (from_store none) = refl
  loaded-any a (from_store (some w)) = refl
  loaded-any a from_memory = refl

  may-any : (ss : List Entry) (l : Entry) → accepted (may_serve m ss l) ≡ accepted (may_serve m' ss l)
  may-any ss l = need_same (not (served l)) _ _ _ (have_same l.address _ _ _ λ a. loaded-any a (source a ss))

serve_accepts_ready : (q : Contents) (memory : List ℕ) (place : ℕ) → accepted (serve_at q memory place) ≡ ready_in q (get_elem? q.loads.entries place)
serve_accepts_ready q memory place = go (get_elem? q.loads.entries place)
  where
    go : (o : Option Entry)
        → accepted (have o no_serial λ l. and_then (may_serve memory (others_before q.stores l) l) λ v. accept (served_with q place v)) ≡ ready_in q o
    go none = refl
    go (some l) = then_accepts (may_serve memory (others_before q.stores l) l) (served_with q place) ∙ may-any memory [] (others_before q.stores l) l

-- ---- writing
abbrev pub writable_in : Contents → ℕ → Option Entry → Bool
writable_in q place none = false
writable_in q place (some s) = accepted (may_write (take s.before q.loads.entries) (take place q.stores.entries) s)

write_accepts_ready : (q : Contents) (memory : List ℕ) (place : ℕ) → accepted (write_at q memory place) ≡ writable_in q place (get_elem? q.stores.entries place)
write_accepts_ready q memory place = go (get_elem? q.stores.entries place)
  where
    go : (o : Option Entry)
        → accepted (have o no_serial λ s.
        and_then (may_write (take s.before q.loads.entries) (take place q.stores.entries) s) λ p. accept (written_with q memory place p))
        ≡ writable_in q place o
    go none = refl
    go (some s) = then_accepts (may_write (take s.before q.loads.entries) (take place q.stores.entries) s) (written_with q memory place)

-- ---- either: what stands at a serial's place decides, whatever the memory's words
abbrev pub stands_ready : Kind → Contents → ℕ → Bool
stands_ready load q place = ready_in q (get_elem? q.loads.entries place)
stands_ready store q place = writable_in q place (get_elem? q.stores.entries place)

module _ (q : Contents) (right : sound q ≡ true) (serial : ℕ) where
  pub answer-ready : (kind : Kind) (memory : List ℕ) → length memory ≡ q.memory_length
      → eqb (answer_to kind q memory serial) 0 ≡ stands_ready kind q (age (oldest_of kind q) serial)
  answer-ready load memory e =
      accepted_number (serve q memory serial) (serve_proper q memory serial)
      ∙ ap accepted (serve_by_place q memory serial right e)
      ∙ serve_accepts_ready q memory (place_of q.loads serial)
  answer-ready store memory e =
      accepted_number (write q memory serial) (write_proper q memory serial)
      ∙ ap accepted (write_by_place q memory serial right e)
      ∙ write_accepts_ready q memory (place_of q.stores serial)

  pub would-ready : (kind : Kind) → would kind q serial ≡ stands_ready kind q (age (oldest_of kind q) serial)
  would-ready kind = answer-ready kind (any_memory q) (length-replicate q.memory_length 0)

-- ---- the entry at a place of a record
pub oldest_in : (kind : Kind) (q : Queue) → oldest_of kind (contents_of q) ≡ oldest (counts_of kind q).next (counts_of kind q).count
oldest_in kind q = ap₂ oldest (side_next kind q) (side-count kind q)

module _ (q : Queue) (right : sound (contents_of q) ≡ true) where
  pub in_reach : length q.load_entries ≡ 64 → length q.store_entries ≡ 64
      → (kind : Kind) (i : ℕ) → i < (counts_of kind q).count → InReach kind q.load_entries q.store_entries i
  in_reach l s load i k =
      (omega (arith, l, count_most q right load), le_trans (before-held q right load i k) (omega (arith, s, count_most q right store)))
  in_reach l s store i k =
      (omega (arith, s, count_most q right store), le_trans (before-held q right store i k) (omega (arith, l, count_most q right load)))

  pub would-at : (kind : Kind) (i : ℕ) → i < (counts_of kind q).count
      → would kind (contents_of q) (after (oldest_of kind (contents_of q)) i) ≡ ready_at kind q.load_entries q.store_entries i
  would-at kind i k =
      let from : ℕ = oldest_of kind (contents_of q) in
      would-ready (contents_of q) right (after from i) kind
      ∙ ap (stands_ready kind (contents_of q)) (place_of_serial from i (oldest-small _ _) (omega (arith, count_most q right kind)))
      ∙ here kind k
    where
      here : (kind : Kind) → i < (counts_of kind q).count → stands_ready kind (contents_of q) i ≡ ready_at kind q.load_entries q.store_entries i
      here load k =
          let e : Entry = entry_in (get_or q.load_entries i 0) in
          ap (ready_in (contents_of q)) (side-get_elem? load q i k)
          ∙ ap (λ (l : List Entry). load_ready l e) (side-take store q e.before (before-held q right load i k))
      here store k =
          let m : List ℕ = any_memory (contents_of q) in
          sym (write_accepts_ready (contents_of q) m i)
          ∙ ap accepted (write-held q m i k (before-held q right store i k))
          ∙ then_accepts (may_write_at q.load_entries q.store_entries i) (written_with (contents_of q) m i)

-- ---- the serials that pass: i of n places have been looked at, `serial` is the next, and `s` has those that are ready. What
-- passes is any test that says of a serial what `ready` says of its place.
pub record ReadyGathering (ready : ℕ → Bool) (from n i serial : ℕ) (s : Serials) : Type 0 where
  pub few : s.count ≤ i
  pub long : length s.numbers ≡ 64
  pub next : serial ≡ after from i
  pub are : (p : ℕ → Bool) → ((j : ℕ) → j < n → p (after from j) ≡ ready j)
      → keep_where p (serials from n) ≡ serials_listed s ++ keep_where p (serials serial (n - i))

-- one more serial, where it is ready
record NotedIf (s : Serials) (serial : ℕ) (ready : Bool) (r : Serials) : Type 0 where
  few : r.count ≤ s.count + 1
  long : length r.numbers ≡ length s.numbers
  are : serials_listed r ≡ serials_listed s ++ pick ready (serial ∷ []) []

module _ {ready : ℕ → Bool} {from n i serial : ℕ} {s : Serials} (w : ReadyGathering ready from n i serial s) where
  gathering-more : i < n → {now : Bool} → now ≡ ready i → {r : Serials} → NotedIf s serial now r → {next : ℕ} → next ≡ after serial 1
      → ReadyGathering ready from n (i + 1) next r
  gathering-more h {now} e {r} c {next} d =
      let few = w.few in
      let more = c.few in
      let place = w.next in
      record { few = omega arith; long = c.long ∙ w.long; next = omega arith; are = are }
    where
      pass : (p : ℕ → Bool) (t : Bool)
          → pick t (serial ∷ keep_where p (serials (after serial 1) (n - (i + 1)))) (keep_where p (serials (after serial 1) (n - (i + 1))))
          ≡ pick t (serial ∷ []) [] ++ keep_where p (serials (after serial 1) (n - (i + 1)))
      pass p true = refl
      pass p false = refl

      are : (p : ℕ → Bool) → ((j : ℕ) → j < n → p (after from j) ≡ ready j)
          → keep_where p (serials from n) ≡ serials_listed r ++ keep_where p (serials next (n - (i + 1)))
      are p agrees =
          let m : n - i ≡ suc (n - (i + 1)) = omega arith in
          let k : p serial ≡ now = ap p w.next ∙ agrees i h ∙ sym e in
          let split : keep_where p (serials serial (n - i)) ≡ pick now (serial ∷ []) [] ++ keep_where p (serials next (n - (i + 1))) =
          rw (m, d, ← k) (pass p (p serial)) in
          w.are p agrees ∙ rw (split, c.are) (sym (append_assoc (serials_listed s) (pick now (serial ∷ []) []) (keep_where p (serials next (n - (i + 1))))))

  pub gathering-ready : i < n → true ≡ ready i → {r : Serials} → Noted s serial r → {next : ℕ} → next ≡ after serial 1
      → ReadyGathering ready from n (i + 1) next r
  gathering-ready h e c d = gathering-more h e (record { few = omega (arith, c.few); long = c.long; are = c.are }) d

  pub gathering-unready : i < n → false ≡ ready i → {next : ℕ} → next ≡ after serial 1 → ReadyGathering ready from n (i + 1) next s
  gathering-unready h e d = gathering-more h e (record { few = omega arith; long = refl; are = sym (append-nil (serials_listed s)) }) d

  pub gathering-end : n ≤ i → (p : ℕ → Bool) → ((j : ℕ) → j < n → p (after from j) ≡ ready j)
      → serials_listed s ≡ keep_where p (serials from n)
  gathering-end h p agrees =
      let m : n - i ≡ 0 = omega arith in
      sym (w.are p agrees ∙ rw (m, append-nil))

-- ---- the serials of a record, once all of a kind's places have been looked at
module _ (kind : Kind) (q : Queue) (right : sound (contents_of q) ≡ true) where
  pub gathered : {from n i serial : ℕ} {s : Serials} → ReadyGathering (ready_at kind q.load_entries q.store_entries) from n i serial s
      → from ≡ oldest_of kind (contents_of q) → n ≡ (counts_of kind q).count → i ≤ n → n ≤ i → Lists (ready_serials kind (contents_of q)) s
  unfolding ready_serials
  gathered {from} {n} {i} {serial} {s} w e d most end =
      let few : s.count ≤ 64 = omega (arith, w.few, count_most q right kind) in
      let passed = gathering-end w end (would kind (contents_of q)) (λ j k. rw e (would-at q right kind j (rw d at k))) in
      let are : serials_listed s ≡ keep_where (would kind (contents_of q)) (serials (oldest_of kind (contents_of q)) (count_of kind (contents_of q))) =
      passed ∙ ap₂ (λ (x y : ℕ). keep_where (would kind (contents_of q)) (serials x y)) e (d ∙ sym (side-count kind q)) in
      record { few = few; size = sym (length-take-le s.count s.numbers (omega (arith, w.long))) ∙ ap length are; are = are }

-- ---- 40 and 10
module _ (kind : Kind) (q : Contents) (run : List ℕ) where
  pub ready-unsound : sound q ≡ false → ready kind q run ≡ refuse unsound
  unfolding ready
  ready-unsound e = rw e

  pub ready-sound : sound q ≡ true → ready kind q run ≡ need (leb (length (ready_serials kind q)) (length run)) too_short (accept (ready_serials kind q))
  unfolding ready
  ready-sound right = rw right

-- serials that were handed out are what the rule gives
pub handed : (q : Queue) {found lent run : List ℕ} {r : Result ℕ Refusal} → HandedOut found lent r run
    → Readies q lent (need (leb (length found) (length lent)) too_short (accept found)) (readied r q) run
handed q {found} {lent} {run} {r} h = go (leb (length found) (length lent)) h.gives h.leaves
  where
    go : (room : Bool) → reply r ≡ need room too_short (accept (length found)) → run ≡ pick room (found ++ drop (length found) lent) lent
        → Readies q lent (need room too_short (accept found)) (readied r q) run
    go true e d = record { outcome = rw e; run_is = d }
    go false e d = record { outcome = rw e; run_is = d }

not-zero : {B : Type 0} (n : ℕ) → n ≡ 0 → not_zero n ≡ true → B
not-zero zero e p = search rules
not-zero (suc n) e p = absurd (omega (arith, e))

-- the front part that is handed back, and what a refused call told
module _ (kind : Kind) (q : Queue) (lent run : List ℕ) where
  pub fronts : (count : ℕ) → Readies q lent (ready kind (contents_of q) lent) (readied (Ok count) q) run
      → (count ≤ length run) × (ready kind (contents_of q) lent ≡ accept (take count run))
  fronts count w = go (ready kind (contents_of q) lent) (small-proper (ready kind (contents_of q) lent) (ready-small kind (contents_of q) lent)) w
    where
      go : (rule : Reply (List ℕ)) → proper rule ≡ true → Readies q lent rule (readied (Ok count) q) run
          → (count ≤ length run) × (rule ≡ accept (take count run))
      go (refuse n) p v = let z : 0 ≡ n = ap (λ (r : Readied). r.answer) v.outcome in not-zero n (sym z) p
      go (accept found) p v =
          let e : count ≡ length found = ap (λ (r : Readied). r.count) v.outcome in
          rw (v.run_is, e) (simp length-append (omega arith), ap accept (sym (take-append_seam found (drop (length found) lent))))

  pub refused : (e : Refusal) → Readies q lent (ready kind (contents_of q) lent) (readied (Err e) q) run
      → ready kind (contents_of q) lent ≡ refuse (refusal_number e)
  refused e w = go (ready kind (contents_of q) lent) w
    where
      go : (rule : Reply (List ℕ)) → Readies q lent rule (readied (Err e) q) run → rule ≡ refuse (refusal_number e)
      go (refuse n) v = ap refuse (sym (ap (λ (r : Readied). r.answer) v.outcome))
      go (accept found) v =
          let z : refusal_number e ≡ 0 = ap (λ (r : Readied). r.answer) v.outcome in
          absurd (omega (arith, z, refusals_positive e))
