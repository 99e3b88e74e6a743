-- The ready lists are exactly what serve and write would accept.
use Rattle.std.proofs.Common.{◌≡◌, ℕ, zero, suc, ◌+◌, ◌^◌, ◌<◌, ◌≤◌, Bool, true, false, ◌&&◌, ◌||◌, eqb, ltb, List, [], ◌∷◌, sym, refl, ap}
use Rattle.std.proofs.Common.{◌∙◌, le_trans, arith, ltb-false, ltb-true, le-ltb, lt-ltb, eqb-true, leb-true}
use borrow.Author.Tests.{eqb-false}
use Rattle.number.specs.Basics.{pick, any_of, keep_where}
use Rattle.number.specs.Reply.{Reply, refuse, accept, accepted}
use Rattle.number.proofs.ReplyLaws.{accepted_number}
use Rattle.queue.specs.declared.Kind.{Kind}
use Rattle.queue.specs.declared.Kind.TheVariants.{Load as load, Store as store}
use Rattle.queue.specs.Contents.{Contents, side_of, after, age, place_of}
use Rattle.queue.specs.Sound.{sound}
use Rattle.queue.specs.Serve.{serve}
use Rattle.queue.specs.Write.{write}
use Rattle.queue.specs.Ready.{serials, count_of, oldest_of, answer_to, any_memory, would, ready_serials, ReadyExactly}
use Rattle.queue.proofs.Lists.{false-true, get_elem?-short}
use Rattle.queue.proofs.Refusals.{serve_proper, write_proper}
use Rattle.queue.proofs.Accepted.{serve_accepts, write_accepts}
use Rattle.queue.proofs.SoundLaws.{within_most, sound-parts}
use Rattle.queue.proofs.Serials.{oldest-small}
use Rattle.queue.proofs.ReadyLaws.{answer-ready, would-ready}

-- ---- which serials run from a first one on
age-step : (serial from : ℕ) → serial < 2 ^ 32 → from < 2 ^ 32 → (serial ≡ from → ⊥) → age from serial ≡ age (after from 1) serial + 1
age-step serial from h k apart = omega arith

any_serial : (serial n from : ℕ) → serial < 2 ^ 32 → from < 2 ^ 32 → n ≤ 2 ^ 32 → any_of (eqb serial) (serials from n) ≡ ltb (age from serial) n
any_serial serial zero from h k m = sym (le-ltb (age from serial) 0 (omega arith))
any_serial serial (suc n) from h k m = go (any_serial serial n (after from 1) h (omega arith) (omega arith)) (eqb serial from) refl
  where
    go : any_of (eqb serial) (serials (after from 1) n) ≡ ltb (age (after from 1) serial) n → (t : Bool) → eqb serial from ≡ t
        → (eqb serial from || any_of (eqb serial) (serials (after from 1) n)) ≡ ltb (age from serial) (suc n)
    go next true e =
        let q : serial ≡ from = eqb-true serial from e in
        rw e (sym (lt-ltb (age from serial) (suc n) (omega arith)))
    go next false e = rw (e, next) (step (ltb (age (after from 1) serial) n) refl)
      where
        one : age from serial ≡ age (after from 1) serial + 1
        one = age-step serial from h k (eqb-false serial from e)

        step : (t : Bool) → ltb (age (after from 1) serial) n ≡ t → ltb (age (after from 1) serial) n ≡ ltb (age from serial) (suc n)
        step true d =
            let b = ltb-true (age (after from 1) serial) n d in
            d ∙ sym (lt-ltb (age from serial) (suc n) (omega (arith, one)))
        step false d =
            let b = ltb-false (age (after from 1) serial) n d in
            d ∙ sym (le-ltb (age from serial) (suc n) (omega (arith, one)))

-- ---- a serial is in what passes of a list where it passes and is in the list
any_keep_where : (w : ℕ → Bool) (serial : ℕ) (l : List ℕ) → any_of (eqb serial) (keep_where w l) ≡ w serial && any_of (eqb serial) l
any_keep_where w serial [] = go (w serial)
  where
    go : (t : Bool) → false ≡ t && false
    go true = refl
    go false = refl
any_keep_where w serial (x ∷ xs) = go (any_keep_where w serial xs) (eqb serial x) (w x) refl refl
  where
    go : any_of (eqb serial) (keep_where w xs) ≡ w serial && any_of (eqb serial) xs → (t b : Bool) → eqb serial x ≡ t → w x ≡ b
        → any_of (eqb serial) (pick b (x ∷ keep_where w xs) (keep_where w xs)) ≡ w serial && (t || any_of (eqb serial) xs)
    go rest true true e h =
        let same : w serial ≡ true = ap w (eqb-true serial x e) ∙ h in
        rw (e, same)
    go rest true false e h =
        let same : w serial ≡ false = ap w (eqb-true serial x e) ∙ h in
        rest ∙ rw same
    go rest false true e h = rw (e, rest)
    go rest false false e h = rest

-- ---- what is accepted: the queue is sound, and the serial is that of an entry
reply_accepts : {A : Type 0} (x : Reply A) → accepted x ≡ true → (a : A) × (x ≡ accept a)
reply_accepts (refuse n) h = false-true h
reply_accepts (accept a) h = (a, refl)

held : (kind : Kind) (q : Contents) (memory : List ℕ) (serial : ℕ) → eqb (answer_to kind q memory serial) 0 ≡ true
    → (sound q ≡ true) × (age (oldest_of kind q) serial < count_of kind q)
held load q memory serial h =
    let (r, e) = reply_accepts (serve q memory serial) (sym (accepted_number (serve q memory serial) (serve_proper q memory serial)) ∙ h) in
    let (right, l, at, s, is) = serve_accepts q memory serial e in
    (right, get_elem?-short q.loads.entries (place_of q.loads serial) at)
held store q memory serial h =
    let (r, e) = reply_accepts (write q memory serial) (sym (accepted_number (write q memory serial) (write_proper q memory serial)) ∙ h) in
    let (right, s, at, w, is) = write_accepts q memory serial e in
    (right, get_elem?-short q.stores.entries (place_of q.stores serial) at)

-- so it is among the serials of the queue
listed : (kind : Kind) (q : Contents) (memory : List ℕ) (serial : ℕ) → serial < 2 ^ 32 → eqb (answer_to kind q memory serial) 0 ≡ true
    → any_of (eqb serial) (serials (oldest_of kind q) (count_of kind q)) ≡ true
listed kind q memory serial small h =
    let (right, low) = held kind q memory serial h in
    let side = (sound-parts q right).sides kind in
    let few : count_of kind q ≤ 64 = le_trans (leb-true _ _ side.few) (within_most 1 64 (side_of kind q).depth side.depth) in
    any_serial serial (count_of kind q) (oldest_of kind q) small (oldest-small _ _) (omega arith) ∙ lt-ltb _ _ low

pub ready-exactly : ReadyExactly
unfolding ready_serials
ready-exactly kind q memory serial e h =
    any_keep_where (would kind q) serial (serials (oldest_of kind q) (count_of kind q))
    ∙ go (would kind q serial) (eqb (answer_to kind q memory serial) 0) refl refl
  where
    -- of a sound queue the answer does not depend on the memory's words
    alike : sound q ≡ true → would kind q serial ≡ eqb (answer_to kind q memory serial) 0
    alike right = would-ready q right serial kind ∙ sym (answer-ready q right serial kind memory e)

    go : (t b : Bool) → would kind q serial ≡ t → eqb (answer_to kind q memory serial) 0 ≡ b
        → (t && any_of (eqb serial) (serials (oldest_of kind q) (count_of kind q))) ≡ b
    go false false w a = refl
    go false true w a = sym w ∙ alike (held kind q memory serial a).0 ∙ a
    go true false w a = false-true (sym a ∙ sym (alike (held kind q (any_memory q) serial w).0) ∙ w)
    go true true w a = listed kind q memory serial h a
