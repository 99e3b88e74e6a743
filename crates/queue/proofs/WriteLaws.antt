-- What writing the store at a place answers, by what the record holds there.
use Rattle.std.proofs.Common.{◌≡◌, ℕ, ◌<◌, ◌≤◌, Bool, true, false, List, length, get_or, take, sym, refl, ap, ◌∙◌, arith, eq-eqb, ne_eqb}
use mathlib.Core.Option.{Option}
use Rattle.number.specs.Basics.{all_of}
use Rattle.queue.specs.declared.Kind.TheVariants.{Load as load, Store as store}
use Rattle.queue.specs.declared.Entry.{Entry as EntryStruct}
use Rattle.queue.specs.declared.Queue.{Queue}
use Rattle.number.specs.Refusal.{unsound, wrong_memory, no_serial, already_done, no_address, no_data, load_conflict, store_conflict}
use Rattle.number.specs.Reply.{refuse, accept, have, and_then}
use Rattle.queue.specs.Entry.{Entry, entry_of, unpacked, served, written}
use Rattle.queue.specs.Contents.{Contents, contents_of, age, oldest, place_of, entries_held, others_before}
use Rattle.queue.specs.Sound.{sound}
use Rattle.queue.specs.Write.{no_conflict, WordPut, may_write, written_with, write_at, write}
use Rattle.queue.specs.Internal.{may_write_at}
use Rattle.number.proofs.ReplyLaws.{refused-accepted}
use Rattle.queue.proofs.ContentsLaws.{side-past, side-get_elem?, side-take, side-place, words-held}

-- ---- 26, 27, 29, 31, 32, in the order of checking
module _ (ls : List Entry) (ss : List Entry) (e : EntryStruct) where
  pub may-not-again : e.finished ≡ true → may_write ls ss (entry_of e) ≡ refuse already_done
  may-not-again w = rw w

  module _ (w : e.finished ≡ false) where
    pub may-no-address : e.addressed ≡ false → may_write ls ss (entry_of e) ≡ refuse no_address
    may-no-address a = rw (w, a)

    module _ (a : e.addressed ≡ true) where
      pub may-no-data : e.filled ≡ false → may_write ls ss (entry_of e) ≡ refuse no_data
      may-no-data f = rw (w, a, f)

      module _ (f : e.filled ≡ true) where
        pub may_load : all_of (no_conflict served e.address) ls ≡ false → may_write ls ss (entry_of e) ≡ refuse load_conflict
        may_load l = rw (w, a, f, l)

        pub may-store : all_of (no_conflict served e.address) ls ≡ true → all_of (no_conflict written e.address) ss ≡ false
            → may_write ls ss (entry_of e) ≡ refuse store_conflict
        may-store l s = rw (w, a, f, l, s)

        pub may-put : all_of (no_conflict served e.address) ls ≡ true → all_of (no_conflict written e.address) ss ≡ true
            → may_write ls ss (entry_of e) ≡ accept (record { address = e.address; word = e.word })
        may-put l s = rw (w, a, f, l, s)

  -- where it may be written, it has an address and data, and puts them
  pub record Puts : Type 0 where
    pub unwritten : e.finished ≡ false
    pub addressed : e.addressed ≡ true
    pub filled : e.filled ≡ true
    pub put : may_write ls ss (entry_of e) ≡ accept (record { address = e.address; word = e.word })

  pub may-puts : {p : WordPut} → may_write ls ss (entry_of e) ≡ accept p → Puts
  may-puts h = go e.finished e.addressed e.filled (all_of (no_conflict served e.address) ls) (all_of (no_conflict written e.address) ss) refl
      refl refl refl refl
    where
      go : (w a f l s : Bool) → e.finished ≡ w → e.addressed ≡ a → e.filled ≡ f → all_of (no_conflict served e.address) ls ≡ l
          → all_of (no_conflict written e.address) ss ≡ s → Puts
      go true a f l s ew ea ef el es = refused-accepted (sym (may-not-again ew) ∙ h)
      go false false f l s ew ea ef el es = refused-accepted (sym (may-no-address ew ea) ∙ h)
      go false true false l s ew ea ef el es = refused-accepted (sym (may-no-data ew ea ef) ∙ h)
      go false true true false s ew ea ef el es = refused-accepted (sym (may_load ew ea ef el) ∙ h)
      go false true true true false ew ea ef el es = refused-accepted (sym (may-store ew ea ef el es) ∙ h)
      go false true true true true ew ea ef el es = record { unwritten = ew; addressed = ea; filled = ef; put = may-put ew ea ef el es }

-- ---- 25, and the store at a place
module _ (q : Queue) (memory : List ℕ) (place : ℕ) where
  pub write-none : q.frame.stores.count ≤ place → write_at (contents_of q) memory place ≡ refuse no_serial
  write-none h = rw (side-past store q place h)

  module _ (k : place < q.frame.stores.count)
      (b : (unpacked (get_or q.store_entries place 0)).before ≤ q.frame.loads.count) where
    pub write-held : write_at (contents_of q) memory place ≡ and_then (may_write_at q.load_entries q.store_entries place) λ p. accept
        (written_with (contents_of q) memory place p)
    write-held =
        let e : EntryStruct = unpacked (get_or q.store_entries place 0) in
        ap (λ (o : Option Entry). have o no_serial λ s. and_then
        (may_write (others_before (contents_of q).loads s) (take place (contents_of q).stores.entries) s) λ p. accept
        (written_with (contents_of q) memory place p)) (side-get_elem? store q place k)
        ∙ ap (λ (l : List Entry). and_then (may_write l (take place (contents_of q).stores.entries) (entry_of e)) λ p. accept
        (written_with (contents_of q) memory place p)) (side-take load q e.before b)
        ∙ ap (λ (l : List Entry). and_then (may_write (entries_held e.before q.load_entries) l (entry_of e)) λ p. accept
        (written_with (contents_of q) memory place p)) (side-take store q place (omega arith))

-- ---- 40 and 30, and the place that a serial names
pub write_by_place : (q : Contents) (memory : List ℕ) (serial : ℕ) → sound q ≡ true → length memory ≡ q.memory_length
    → write q memory serial ≡ write_at q memory (place_of q.stores serial)
unfolding write
write_by_place q memory serial right e = rw (right, eq-eqb (length memory) q.memory_length e)

module _ (q : Queue) (memory : List ℕ) (serial : ℕ) where
  pub write-unsound : sound (contents_of q) ≡ false → write (contents_of q) memory serial ≡ refuse unsound
  unfolding write
  write-unsound e = rw e

  module _ (right : sound (contents_of q) ≡ true) where
    pub write-memory : (length memory ≡ q.frame.memory_length → ⊥) → write (contents_of q) memory serial ≡ refuse wrong_memory
    unfolding write
    write-memory e = rw (right, words-held q, ne_eqb (length memory) q.frame.memory_length e)

    pub write-place : length memory ≡ q.frame.memory_length
        → write (contents_of q) memory serial ≡ write_at (contents_of q) memory (age (oldest q.frame.stores.next q.frame.stores.count) serial)
    write-place e =
        write_by_place (contents_of q) memory serial right (e ∙ sym (words-held q))
        ∙ ap (write_at (contents_of q) memory) (side-place store q serial)
