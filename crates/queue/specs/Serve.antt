-- S-7: "Walk back over the queued earlier stores, nearest first. A store without address gives 28; an unwritten one to the load's address
-- supplies the data, or gives 29; a written one to that address sends the load to memory." A load that a store supplies counts as forwarded,
-- and one that the walk finds no store for gets the memory word, as in document 01. "Serve: 30 lent memory has another length than at
-- opening; 25 serial not in the queue; 26 already served; 27 no address"; then 28 and 29 as S-7 says.
use Rattle.std.specs.Prelude.{◌≡◌, ℕ, Bool, true, false, not, List, [], ◌∷◌, ◌++◌, reverse, slice_index}
use Rattle.std.proofs.Math.Option.{Option, none, some}
use Rattle.std.proofs.Math.ListN.{get_elem?}
use Rattle.number.specs.Refusal.{no_serial, already_done, no_address, earlier_store_unknown, no_data}
use Rattle.number.specs.Reply.{Reply, refuse, accept, need, have, and_then}
use Rattle.queue.specs.declared.Kind.TheVariants.{Load as load}
use Rattle.queue.specs.Entry.{Entry, served, data_of, written, with_word}
use Rattle.queue.specs.Contents.{Contents, with_entries, place_of, others_before, update_at}
use Rattle.queue.specs.Touch.{Touch, apart, unknown, same, touch}
use Rattle.queue.specs.Sound.{with_memory}

-- what an accepted serve gives
pub record Served : Type 0 where
  pub value : ℕ
  pub forwarded : Bool
  pub queue : Contents

-- Where a load's word comes from, as the walk finds it: it is not settled, since a store without address may come to have the load's; it is a
-- store, with its data or none yet; or it is memory. What S-7 calls a source, a store of the whole list or the opening word, is `Origin` of
-- the crate `origins`: memory may hold the word of a store that has left.
pub data Source : Type 0 where
  unsettled : Source
  from_store : Option ℕ → Source
  from_memory : Source

-- One store on the walk, by what it is to the load's address, whether it is written, and its data; `farther` is what the stores farther
-- back give. One to another address is passed. "A store without address gives 28", written or not. "An unwritten one to the load's address
-- supplies the data, or gives 29; a written one to that address sends the load to memory": behind these the walk does not look.
abbrev pub decided : Touch → Bool → Option ℕ → Source → Source
decided apart is_written word farther = farther
decided unknown is_written word farther = unsettled
decided same false word farther = from_store word
decided same true word farther = from_memory

-- "Walk back over the queued earlier stores, nearest first": they are listed so here. Where none is left it is memory.
abbrev pub walk_back : ℕ → List Entry → Source
walk_back a [] = from_memory
walk_back a (s ∷ farther) = decided (touch a s.address) (written s) (data_of s) (walk_back a farther)

-- the source of a load of the address, with these stores before it, listed from the oldest as a queue holds them
unfoldable pub source : ℕ → List Entry → Source
source a stores = walk_back a (reverse stores)

-- What each of S-7's sentences says of the source, without `decided` and `walk_back`: of a load of the address a whose nearest earlier store is
-- s, and `older` the stores behind that one. The proof is in proofs/SourceLaws.antt. Which source gives 28 and 29 is `loaded_from` below.
pub record WalkSays (a : ℕ) (older : List Entry) (s : Entry) : Type 0 where
  pub unaddressed : s.address ≡ none → source a (older ++ s ∷ []) ≡ unsettled
  pub supplies : s.address ≡ some a → written s ≡ false → source a (older ++ s ∷ []) ≡ from_store (data_of s)
  pub sends : s.address ≡ some a → written s ≡ true → source a (older ++ s ∷ []) ≡ from_memory
  pub passes : (b : ℕ) → s.address ≡ some b → ¬ (b ≡ a) → source a (older ++ s ∷ []) ≡ source a older

abbrev pub SourcesAreWalked : Type 0
SourcesAreWalked = (a : ℕ) → (source a [] ≡ from_memory) × ((older : List Entry) (s : Entry) → WalkSays a older s)

-- a load's word, and whether it was forwarded
pub record Loaded : Type 0 where
  pub value : ℕ
  pub forwarded : Bool

-- what a load of the address gets from its source: 28, 29
abbrev pub loaded_from : List ℕ → ℕ → Source → Reply Loaded
loaded_from memory a unsettled = refuse earlier_store_unknown
loaded_from memory a (from_store word) = have word no_data λ w. accept (record { value = w; forwarded = true })
loaded_from memory a from_memory = accept (record { value = slice_index memory a; forwarded = false })

-- what serving a load gives it, with these stores before it: 26, 27, and then by its source
abbrev pub may_serve : List ℕ → List Entry → Entry → Reply Loaded
may_serve memory stores l =
    need (not (served l)) already_done
    (have l.address no_address λ a.
    loaded_from memory a (source a stores))

-- the load at a place is served
abbrev pub served_with : Contents → ℕ → Loaded → Served
served_with q place v = record {
  value = v.value;
  forwarded = v.forwarded;
  queue = with_entries load q (update_at (with_word v.value) place q.loads.entries);
}

-- serving the load at a place: 25, and then as the load may be served
abbrev pub serve_at : Contents → List ℕ → ℕ → Reply Served
serve_at q memory place =
    have (get_elem? q.loads.entries place) no_serial λ l.
    and_then (may_serve memory (others_before q.stores l) l) λ v.
    accept (served_with q place v)

-- serving the load with a serial: 40, 30, and then by its place
unfoldable pub serve : Contents → List ℕ → ℕ → Reply Served
serve q memory serial = with_memory q memory (serve_at q memory (place_of q.loads serial))
