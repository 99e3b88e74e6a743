-- What serving the load at a place answers, by what the record holds there.
use Rattle.std.proofs.Common.{◌≡◌, ℕ, ◌<◌, ◌≤◌, Bool, true, false, Ok, List, length, get_or, sym, refl, ap, ◌∙◌, eq-eqb, ne_eqb}
use mathlib.Core.Option.{Option, some}
use Rattle.counts.specs.declared.Counts.{Counts}
use Rattle.counts.specs.Counts.{counted}
use Rattle.queue.specs.declared.Kind.TheVariants.{Load as load, Store as store}
use Rattle.queue.specs.declared.Entry.{Entry as EntryStruct}
use Rattle.queue.specs.declared.Queue.{Queue}
use Rattle.number.specs.Refusal.{unsound, wrong_memory, no_serial, already_done, no_address}
use Rattle.number.specs.Reply.{refuse, accept, have, and_then}
use Rattle.queue.specs.Entry.{Entry, entry_of, unpacked, with_word}
use Rattle.queue.specs.Contents.{Contents, contents_of, age, oldest, place_of, others_before}
use Rattle.queue.specs.Sound.{sound}
use Rattle.queue.specs.Serve.{Source, source, loaded_from, may_serve, served_with, serve_at, serve}
use Rattle.queue.specs.Outcome.{gave, with_counts, ServedWell}
use Rattle.queue.specs.Parts.{queue_of}
use Rattle.queue.specs.Internal.{Has64, may_serve_at, MadeAnew}
use Rattle.queue.proofs.ContentsLaws.{side-past, side-get_elem?, side-take, side-place, side-anew, words-held}

-- ---- 26, 27, and then by the source
module _ (memory : List ℕ) (ss : List Entry) (e : EntryStruct) where
  pub may-again : e.filled ≡ true → may_serve memory ss (entry_of e) ≡ refuse already_done
  may-again f = rw f

  module _ (f : e.filled ≡ false) where
    pub may-no-address : e.addressed ≡ false → may_serve memory ss (entry_of e) ≡ refuse no_address
    may-no-address a = rw (f, a)

    pub may_load : e.addressed ≡ true → {found : Source} → found ≡ source e.address ss
        → may_serve memory ss (entry_of e) ≡ loaded_from memory e.address found
    may_load a s = rw (f, a, s)

module _ (q : Queue) (memory : List ℕ) (place : ℕ) where
  pub serve-none : q.frame.loads.count ≤ place → serve_at (contents_of q) memory place ≡ refuse no_serial
  serve-none h = rw (side-past load q place h)

  module _ (k : place < q.frame.loads.count) (b : (unpacked (get_or q.load_entries place 0)).before ≤ q.frame.stores.count) where
    pub serve-held : serve_at (contents_of q) memory place
        ≡ and_then (may_serve_at memory q.load_entries q.store_entries place) λ v. accept (served_with (contents_of q) place v)
    serve-held =
        let e : EntryStruct = unpacked (get_or q.load_entries place 0) in
        ap (λ (o : Option Entry). have o no_serial λ l.
        and_then (may_serve memory (others_before (contents_of q).stores l) l) λ v. accept (served_with (contents_of q) place v)) (side-get_elem? load q place k)
        ∙ ap (λ (l : List Entry). and_then (may_serve memory l (entry_of e)) λ v. accept (served_with (contents_of q) place v)) (side-take store q e.before b)

-- ---- an accepted serve: the load at the place has its value
pub served-well : (q : Queue) (counts : Counts) (place word : ℕ) (forwarded : Bool) {r : ℕ} {after : Counts} {left : List ℕ} → Has64 q.load_entries
    → q.frame.loads.count ≤ 64 → place < q.frame.loads.count
    → r ≡ word → after ≡ counted forwarded counts → MadeAnew (with_word word) place q.load_entries left
    → ServedWell (served_with (contents_of q) place (record { value = word; forwarded = forwarded })) counts
    (with_counts (gave (Ok r) (queue_of q.frame left q.store_entries)) after)
served-well q counts place word forwarded whole few k e d f =
    let w : q.frame.loads.count ≤ length q.load_entries = rw whole few in
    record { answer = refl; gives = ap some e; holds = side-anew load q place w k f; counts = d }

-- ---- 40 and 30, and the place that a serial names
pub serve_by_place : (q : Contents) (memory : List ℕ) (serial : ℕ) → sound q ≡ true → length memory ≡ q.memory_length
    → serve q memory serial ≡ serve_at q memory (place_of q.loads serial)
unfolding serve
serve_by_place q memory serial right e = rw (right, eq-eqb (length memory) q.memory_length e)

module _ (q : Queue) (memory : List ℕ) (serial : ℕ) where
  pub serve-unsound : sound (contents_of q) ≡ false → serve (contents_of q) memory serial ≡ refuse unsound
  unfolding serve
  serve-unsound e = rw e

  module _ (right : sound (contents_of q) ≡ true) where
    pub serve-memory : (length memory ≡ q.frame.memory_length → ⊥) → serve (contents_of q) memory serial ≡ refuse wrong_memory
    unfolding serve
    serve-memory e = rw (right, words-held q, ne_eqb (length memory) q.frame.memory_length e)

    pub serve-place : length memory ≡ q.frame.memory_length
        → serve (contents_of q) memory serial ≡ serve_at (contents_of q) memory (age (oldest q.frame.loads.next q.frame.loads.count) serial)
    serve-place e =
        serve_by_place (contents_of q) memory serial right (e ∙ sym (words-held q))
        ∙ ap (serve_at (contents_of q) memory) (side-place load q serial)
