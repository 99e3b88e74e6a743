-- The load that a serve finds is the nth of all loads, and its answer is that of its source in the log: from this the promises of
-- specs/Exactly.antt.
use Prim.Native.Nat.{ℕ, ◌+◌, ◌≤◌}
use native.Mathlib.Nat.{le_trans}
use native.Mathlib.Omega.{arith}
use mathlib.Core.Path.{◌≡◌, refl, sym, ap, ◌∙◌}
use mathlib.Core.Logic.{◌⊎◌, inl, inr}
use mathlib.Core.Bool.{Bool, true, false}
use mathlib.Core.List.{List}
use mathlib.Core.Option.{some}
use lib.Dec.{leb}
use lib.ListN.{length, get_elem?}
use borrow.Author.Tests.{leb-true}
use Rattle.number.specs.Basics.{count_where}
use Rattle.number.specs.Refusal.{earlier_store_unknown}
use Rattle.number.specs.Reply.{number}
use Rattle.number.proofs.Both.{and_right}
use Rattle.table.specs.Group.{GroupPairs, is_load}
use Rattle.queue.specs.declared.Kind.TheVariants.{Load}
use Rattle.queue.specs.Entry.{Entry, with_before}
use Rattle.queue.specs.Contents.{after, place_of, others_before}
use Rattle.queue.specs.Serve.{Source, source, loaded_from}
use Rattle.queue.proofs.Lists.{get_elem?-short}
use Rattle.sequential.specs.Calls.{Call}
use Rattle.sequential.specs.Answers.{Machine, answers, machine_after}
use Rattle.sequential.specs.Plain.{accesses, Filling}
use Rattle.sequential.specs.Demand3.{told, Opening}
use Rattle.sequential.proofs.Log.{LogEntry, loads, stores, own_in, loads-stores}
use Rattle.sequential.proofs.Window.{Located, locate}
use Rattle.sequential.proofs.PlainRun.{seen-count, loads-uncounted}
use Rattle.sequential.proofs.Invariant.{Invariant}
use Rattle.sequential.proofs.Serials.{reached-counted}
use Rattle.sequential.proofs.Steps.Serve.{queued-source}
use Rattle.sequential.proofs.Run.{reached}
use Rattle.origins.specs.Origins.{origin_of}
use Rattle.origins.specs.Exactly.{Latest, serve_of_nth, past27, ServesNameLoads, TwoOrigins, ServesExactly}
use Rattle.origins.specs.Exactly.{ServedOneOrigin}
use Rattle.origins.proofs.Fillings.{is_settled}
use Rattle.origins.proofs.Loaded.{count-loads, settled_same, unsettled-differ}
use Rattle.origins.proofs.Numbers.{serial_of_load, number_of}
use Rattle.origins.proofs.Answers.{PastServe, past_serve, waits-unsettled, unsettled-waits}

-- ---- a queued load and its number

module _ {groups : List GroupPairs} {memory : List ℕ} {m : Machine} (o : Opening groups memory m) (calls : List Call) where
  abbrev total : ℕ
  total = count_where is_load (accesses groups (told (answers m calls)))

  few : length (machine_after m calls).queue.loads.entries ≤ 64
  few =
      le_trans ((reached o calls).holds.room Load)
      (leb-true _ 64 (and_right (leb 1 (machine_after m calls).queue.loads.depth) _ (reached o calls).holds.limits.load_depth_right))

  -- as many loads are activated as have left and are queued
  numbered : {i : ℕ} {pre : List LogEntry} {it : Entry} {post : List LogEntry}
      → Located loads stores (reached o calls).log (machine_after m calls).queue.loads.entries (machine_after m calls).queue.stores.entries i pre it post
      → length (own_in loads pre) + length (machine_after m calls).queue.loads.entries ≡ total + i
  numbered l = rw (sym (count-loads (reached o calls).log) ∙ seen-count (reached o calls).seen is_load loads-uncounted) at l.nth

pub serves_name_loads : ServesNameLoads
serves_name_loads groups memory m o calls serial small past =
    let p = past_serve (machine_after m calls).queue (machine_after m calls).memory serial past in
    let (pre, it, post, l) = locate loads stores loads-stores (reached o calls).holds.windows (place_of (machine_after m calls).queue.loads serial) p.at in
    let inside = get_elem?-short (machine_after m calls).queue.loads.entries (place_of (machine_after m calls).queue.loads serial) p.at in (
      length (own_in loads pre),
      record { activated = omega (arith, numbered o calls l); latest = omega (arith, numbered o calls l, few o calls) },
      serial_of_load o.first (total o calls) (machine_after m calls).queue.loads.next (length (machine_after m calls).queue.loads.entries)
          (place_of (machine_after m calls).queue.loads serial) (length (own_in loads pre)) serial ((reached-counted o calls).next Load) (few o calls) small
          (numbered o calls l) refl,
    )

-- ---- the load that a serve finds

module _ {groups : List GroupPairs} {memory : List ℕ} {m : Machine} (o : Opening groups memory m) (calls : List Call) (n : ℕ)
    (named : Latest groups (told (answers m calls)) n) where
  abbrev left : Machine
  left = machine_after m calls

  abbrev serial : ℕ
  serial = after o.first n

  st : Invariant groups memory (answers m calls) (machine_after m calls)
  st = reached o calls

  -- a queued load with the nth serial is the nth load
  pub is-nth : {i : ℕ} {pre : List LogEntry} {it x : Entry} {post : List LogEntry} → place_of left.queue.loads serial ≡ i
      → get_elem? left.queue.loads.entries i ≡ some x
      → Located loads stores (reached o calls).log left.queue.loads.entries left.queue.stores.entries i pre it post
      → length (own_in loads pre) ≡ n
  is-nth {i} {pre} place at l =
      number_of o.first n (total o calls) left.queue.loads.next (length left.queue.loads.entries) i (length (own_in loads pre))
      ((reached-counted o calls).next Load) named.activated named.latest (few o calls) (get_elem?-short left.queue.loads.entries i at)
      (numbered o calls l) place

  -- the load that the serve finds: its place in the log, its address, and that the answer is that of its source there
  record Found : Type 0 where
    pre : List LogEntry
    it : Entry
    post : List LogEntry
    place : Located loads stores st.log left.queue.loads.entries left.queue.stores.entries (place_of left.queue.loads serial) pre it post
    address : ℕ
    addressed : it.address ≡ some address
    nth : length (own_in loads pre) ≡ n
    answer : serve_of_nth left o.first n ≡ number (loaded_from left.memory address (source address (own_in stores pre)))

  found : past27 (serve_of_nth left o.first n) ≡ true → Found
  unfolding st
  found h = from (past_serve left.queue left.memory serial h)
    where
      from : PastServe left.queue left.memory serial → Found
      from p =
          let (pre, it, post, l) = locate loads stores loads-stores st.holds.windows (place_of left.queue.loads serial) p.at in
          let same : p.load ≡ with_before l.number it = cc (p.at, l.at) in
          record {
            pre = pre;
            it = it;
            post = post;
            place = l;
            address = p.address;
            addressed = ap (λ (e : Entry). e.address) (sym same) ∙ p.addressed;
            nth = is-nth refl p.at l;
            answer =
                p.answer
                ∙ ap (λ (e : Entry). number (loaded_from left.memory p.address (source p.address (others_before left.queue.stores e)))) same
                ∙ ap (λ (x : Source). number (loaded_from left.memory p.address x)) (queued-source st.holds l p.address);
          }

  -- where it stops, and what follows
  abbrev source_found : Found → Source
  source_found f = source f.address (own_in stores f.pre)

  settled-or-waits : (f : Found) → (is_settled (source_found f) ≡ true) ⊎ (serve_of_nth left o.first n ≡ earlier_store_unknown)
  settled-or-waits f = go (is_settled (source_found f)) refl
    where
      go : (t : Bool) → is_settled (source_found f) ≡ t → (is_settled (source_found f) ≡ true) ⊎ (serve_of_nth left o.first n ≡ earlier_store_unknown)
      go true e = inl e
      go false e = inr (f.answer ∙ unsettled-waits left.memory f.address (source_found f) e)

  one-origin : (f : Found) → is_settled (source_found f) ≡ true → (one other : Filling)
      → origin_of groups memory (told (answers m calls)) one n ≡ origin_of groups memory (told (answers m calls)) other n
  one-origin f e one other = rw f.nth at (settled_same st f.place f.addressed e one other)

  two-origins : (f : Found) → serve_of_nth left o.first n ≡ earlier_store_unknown → 2 ≤ length memory → TwoOrigins groups memory (told (answers m calls)) n
  two-origins f e two =
      rw f.nth at
      (unsettled-differ st f.place f.addressed (waits-unsettled left.memory f.address (source_found f) (sym f.answer ∙ e)) two)

pub served_one_origin : ServedOneOrigin
served_one_origin groups memory m o calls n named past served one other one-low other-low = go (settled-or-waits o calls n named f)
  where
    f : Found o calls n named
    f = found o calls n named past

    go : (is_settled (source_found o calls n named f) ≡ true) ⊎ (serve_of_nth (machine_after m calls) o.first n ≡ earlier_store_unknown)
        → origin_of groups memory (told (answers m calls)) one n ≡ origin_of groups memory (told (answers m calls)) other n
    go (inl e) = one-origin o calls n named f e one other
    go (inr e) = absurd (served e)

-- S-7, EXACTLY.
pub serves-exactly : ServesExactly
serves-exactly groups memory m o two calls n named past = (λ e. two-origins o calls n named f e two, λ t. go t (settled-or-waits o calls n named f))
  where
    f : Found o calls n named
    f = found o calls n named past

    go : TwoOrigins groups memory (told (answers m calls)) n
        → (is_settled (source_found o calls n named f) ≡ true) ⊎ (serve_of_nth (machine_after m calls) o.first n ≡ earlier_store_unknown)
        → serve_of_nth (machine_after m calls) o.first n ≡ earlier_store_unknown
    go t (inl e) = absurd (t.differ (one-origin o calls n named f e t.one t.other))
    go t (inr e) = e
