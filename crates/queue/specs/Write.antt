-- "A written store puts its data in memory." "Write: 30; 25; 26 already written; 27; 29 no data; 31 an earlier unserved load
-- has no address or the same one; 32 an earlier unwritten store has no address or the same one."
use Rattle.std.specs.Prelude.{ℕ, Bool, not, ◌||◌, List, take, slice_set}
use Rattle.std.proofs.Math.ListN.{get_elem?}
use Rattle.number.specs.Basics.{all_of}
use Rattle.number.specs.Refusal.{no_serial, already_done, no_address, no_data, load_conflict, store_conflict}
use Rattle.number.specs.Reply.{Reply, accept, need, have, and_then}
use Rattle.queue.specs.declared.Kind.TheVariants.{Store as store}
use Rattle.queue.specs.Entry.{Entry, served, data_of, written, mark_finished}
use Rattle.queue.specs.Contents.{Contents, with_entries, place_of, others_before, update_at}
use Rattle.queue.specs.Touch.{touch, is_apart}
use Rattle.queue.specs.Sound.{with_memory}
use Rattle.queue.specs.Retire.{retire}

-- what an accepted write gives
pub record Written : Type 0 where
  pub memory : List ℕ
  pub queue : Contents

-- an earlier entry that does not conflict with a write to the address: it is done with the memory (a served load, a written store),
-- or has another address
abbrev pub no_conflict : (Entry → Bool) → ℕ → Entry → Bool
no_conflict done a e = done e || is_apart (touch a e.address)

-- a word and the address that it is put at
pub record WordPut : Type 0 where
  pub address : ℕ
  pub word : ℕ

-- what writing a store puts where, with these loads and these stores before it: 26, 27, 29, 31, 32
abbrev pub may_write : List Entry → List Entry → Entry → Reply WordPut
may_write loads stores s =
    need (not (written s)) already_done
    (have s.address no_address λ a.
    have (data_of s) no_data λ w.
    need (all_of (no_conflict served a) loads) load_conflict
    (need (all_of (no_conflict written a) stores) store_conflict
    (accept (record { address = a; word = w }))))

-- the store at a place is written
abbrev pub written_with : Contents → List ℕ → ℕ → WordPut → Written
written_with q memory place p = record {
  memory = slice_set memory p.address p.word;
  queue = retire (with_entries store q (update_at mark_finished place q.stores.entries));
}

-- writing the store at a place: 25, and then as the store may be written
abbrev pub write_at : Contents → List ℕ → ℕ → Reply Written
write_at q memory place =
    have (get_elem? q.stores.entries place) no_serial λ s.
    and_then (may_write (others_before q.loads s) (take place q.stores.entries) s) λ p.
    accept (written_with q memory place p)

-- writing the store with a serial: 40, 30, and then by its place
unfoldable pub write : Contents → List ℕ → ℕ → Reply Written
write q memory serial = with_memory q memory (write_at q memory (place_of q.stores serial))
