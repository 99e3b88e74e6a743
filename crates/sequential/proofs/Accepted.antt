-- What a call was answered, read backwards, once: a call that was refused left everything as it was, and one that was accepted found
-- what its rule asks for and left what its rule says.
use Prim.Native.Nat.{ℕ, ◌^◌, ◌<◌}
use mathlib.Core.Path.{◌≡◌, refl, ap, subst}
use mathlib.Core.Bool.{true, false}
use mathlib.Core.List.{List}
use mathlib.Core.Option.{none, some}
use lib.Dec.{eqb}
use lib.ListN.{get_elem?}
use Rattle.number.specs.Basics.{any_of}
use Rattle.number.specs.Reply.{Reply, refuse, accept, number}
use Rattle.table.specs.Group.{GroupPairs}
use Rattle.counts.specs.declared.Counts.{Counts}
use Rattle.queue.specs.declared.Kind.{Kind}
use Rattle.queue.specs.declared.arguments.Argument.{Argument}
use Rattle.queue.specs.Entry.{Entry}
use Rattle.queue.specs.Contents.{Contents, place_of}
use Rattle.queue.specs.Activate.{room, with_group, activate}
use Rattle.queue.specs.Arguments.{in_range, argument_given, give, lacks, asked_of}
use Rattle.queue.specs.Serve.{Served, served_with, serve}
use Rattle.queue.specs.Write.{Written, written_with, write}
use Rattle.queue.specs.Take.{Taken, take_place, taken_with, take_rule}
use Rattle.queue.specs.Ready.{ready}
use Rattle.number.proofs.ReplyLaws.{refusal_not_zero}
use Rattle.queue.proofs.Refusals.{small, small-proper, number_small, activate-small, give-small, serve-small, write-small, take-small, ready-small}
use Rattle.queue.proofs.Accepted.{activate_accepts, give_accepts, Serving, serve_accepts, Writing, write_accepts, take_accepts}
use Rattle.sequential.specs.Calls.{Call, Activate, Give, Serve, Write, Take, Ready}
use Rattle.sequential.specs.Answers.{Machine, Response, move_response, serve_response, write_response, take_response, step}

pub data Stepped (m : Machine) : Call → Response → Type 0 where
  refused : {c : Call} (n : ℕ) → eqb n 0 ≡ false → n < 2 ^ 8 → Stepped m c (record { number = n; value = none; machine = m })
  activated : {group : ℕ} (g : GroupPairs) → get_elem? m.queue.groups group ≡ some g → room m.queue g ≡ true
      → Stepped m (Activate group) (move_response m (accept (with_group m.queue g)))
  gave : {argument : Argument} {port x : ℕ} → in_range argument m.queue.memory_length x ≡ true
      → any_of (lacks argument port) (asked_of argument m.queue) ≡ true
      → Stepped m (Give argument port x) (move_response m (accept (argument_given argument port x m.queue)))
  served : {counts : Counts} {serial : ℕ} (l : Entry) → get_elem? m.queue.loads.entries (place_of m.queue.loads serial) ≡ some l
      → (s : Serving m.queue m.memory l)
      → Stepped m (Serve counts serial) (serve_response m (accept (served_with m.queue (place_of m.queue.loads serial) s.loaded)))
  wrote : {serial : ℕ} (s : Entry) → get_elem? m.queue.stores.entries (place_of m.queue.stores serial) ≡ some s
      → (w : Writing m.queue (place_of m.queue.stores serial) s)
      → Stepped m (Write serial) (write_response m (accept (written_with m.queue m.memory (place_of m.queue.stores serial) w.put)))
  took : {port : ℕ} (l : Entry) (v : ℕ) → get_elem? m.queue.loads.entries (take_place m.queue port) ≡ some l → l.word ≡ some v
      → Stepped m (Take port) (take_response m (accept (taken_with m.queue (take_place m.queue port) v)))
  -- whether it was refused or not: it moves neither the queue nor the memory
  readied : {kind : Kind} {run : List ℕ} (n : ℕ) → n < 2 ^ 8 → Stepped m (Ready kind run) (record { number = n; value = none; machine = m })

-- a rule's reply, where a refusal changes nothing
module _ (m : Machine) {A : Type 0} (c : Call) (respond : Reply A → Response)
    (same : (n : ℕ) → respond (refuse n) ≡ record { number = n; value = none; machine = m }) where
  by-reply : (rule : Reply A) → small rule ≡ true → ((r : A) → rule ≡ accept r → Stepped m c (respond (accept r))) → Stepped m c (respond rule)
  by-reply rule low accepted = go rule refl
    where
      go : (r : Reply A) → rule ≡ r → Stepped m c (respond r)
      go (refuse n) e =
          rw (same n)
          (refused n (refusal_not_zero rule n (small-proper rule low) e) (rw (ap (λ (x : Reply A). number x) e) at (number_small rule low)))
      go (accept r) e = accepted r e

pub stepped : (m : Machine) (c : Call) → Stepped m c (step m c)
stepped m (Activate group) =
    by-reply m (Activate group) (move_response m) (λ n. refl) (activate m.queue group) (activate-small m.queue group) λ r e.
    let (g, is, fits, result) = activate_accepts m.queue group e in
    subst (λ (x : Contents). Stepped m (Activate group) (move_response m (accept x))) result (activated g is fits)
stepped m (Give argument port x) =
    by-reply m (Give argument port x) (move_response m) (λ n. refl) (give argument m.queue port x) (give-small argument m.queue port x) λ r e.
    let (ranged, waited, result) = give_accepts argument m.queue port x e in
    subst (λ (q : Contents). Stepped m (Give argument port x) (move_response m (accept q))) result (gave ranged waited)
stepped m (Serve counts serial) =
    by-reply m (Serve counts serial) (serve_response m) (λ n. refl) (serve m.queue m.memory serial) (serve-small m.queue m.memory serial) λ r e.
    let (right, l, at, s, result) = serve_accepts m.queue m.memory serial e in
    subst (λ (x : Served). Stepped m (Serve counts serial) (serve_response m (accept x))) result (served l at s)
stepped m (Write serial) =
    by-reply m (Write serial) (write_response m) (λ n. refl) (write m.queue m.memory serial) (write-small m.queue m.memory serial) λ r e.
    let (right, s, at, w, result) = write_accepts m.queue m.memory serial e in
    subst (λ (x : Written). Stepped m (Write serial) (write_response m (accept x))) result (wrote s at w)
stepped m (Take port) =
    by-reply m (Take port) (take_response m) (λ n. refl) (take_rule m.queue port) (take-small m.queue port) λ r e.
    let (l, v, at, has, result) = take_accepts m.queue port e in
    subst (λ (x : Taken). Stepped m (Take port) (take_response m (accept x))) result (took l v at has)
stepped m (Ready kind run) = readied (number (ready kind m.queue run)) (number_small (ready kind m.queue run) (ready-small kind m.queue run))
