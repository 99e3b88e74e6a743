-- No refusal number of a rule is 0 or above a byte.
use Rattle.std.proofs.Common.{◌≡◌, ℕ, ◌<◌, Bool, true, false, not, ◌&&◌, eqb, ltb, leb, List, length, take, refl, arith, ltb-true}
use mathlib.Core.Option.{Option, none, some}
use lib.ListN.{get_elem?}
use Rattle.queue.specs.declared.Kind.{Kind}
use Rattle.number.specs.Reply.{Reply, refuse, accept, need, have, number, accepted}
use Rattle.queue.specs.Entry.{Entry, written, served, value_of, data_of}
use Rattle.queue.specs.Contents.{Contents, place_of, others_before}
use Rattle.queue.specs.Sound.{sound}
use Rattle.queue.specs.Activate.{activate, room}
use Rattle.queue.specs.Arguments.{kind_of, names_port, in_range, give, lacks, asked_of}
use Rattle.queue.specs.Serve.{unsettled, Source, from_store, from_memory, source, loaded_from, may_serve, serve}
use Rattle.queue.specs.Write.{no_conflict, may_write, write}
use Rattle.queue.specs.Take.{take_rule, take_place}
use Rattle.queue.specs.Ready.{ready_serials, ready}
use Rattle.number.specs.Basics.{any_of, all_of}
use Rattle.queue.specs.declared.Kind.TheVariants.{Load as load}
use Rattle.queue.specs.declared.arguments.Argument.{Argument}
use Rattle.number.proofs.Both.{and_left, and_right}
use Rattle.number.proofs.ReplyLaws.{refuses_among, need-among, have-among, and_then_among, not_zero}

-- two rules with the same tests accept alike where what follows does
pub need_same : {A B : Type 0} (b : Bool) (n : ℕ) (x : Reply A) (y : Reply B) → accepted x ≡ accepted y
    → accepted (need b n x) ≡ accepted (need b n y)
need_same true n x y e = e
need_same false n x y e = refl

pub have_same : {A B C : Type 0} (o : Option C) (n : ℕ) (x : C → Reply A) (y : C → Reply B) → ((c : C) → accepted (x c) ≡ accepted (y c))
    → accepted (have o n x) ≡ accepted (have o n y)
have_same none n x y e = refl
have_same (some c) n x y e = e c

-- ---- the refusal numbers of the calls on a queue are bytes other than 0
abbrev byte : ℕ → Bool
byte n = not_zero n && ltb n 256

module _ {A : Type 0} where
  abbrev pub proper : Reply A → Bool
  proper r = refuses_among not_zero r

  abbrev pub small : Reply A → Bool
  small r = refuses_among byte r

  pub number_small : (r : Reply A) → small r ≡ true → number r < 256
  number_small (refuse n) h = ltb-true n 256 (and_right (not_zero n) (ltb n 256) h)
  number_small (accept a) h = omega arith

  pub small-proper : (r : Reply A) → small r ≡ true → proper r ≡ true
  small-proper (refuse n) h = and_left (not_zero n) (ltb n 256) h
  small-proper (accept a) h = refl

pub activate-small : (q : Contents) (g : ℕ) → small (activate q g) ≡ true
unfolding activate
activate-small q g = need-among byte (sound q) _ _ refl (have-among byte (get_elem? q.groups g) _ _ refl λ p. need-among byte (room q p) _ _ refl refl)

pub give-small : (argument : Argument) (q : Contents) (port x : ℕ) → small (give argument q port x) ≡ true
unfolding give
give-small argument q port x =
    need-among byte (sound q) _ _ refl
    (need-among byte (any_of (names_port (kind_of argument) port) q.groups) _ _ refl
    (need-among byte (in_range argument q.memory_length x) _ _ refl (need-among byte (any_of (lacks argument port) (asked_of argument q)) _ _ refl refl)))

loaded-small : (m : List ℕ) (a : ℕ) (x : Source) → small (loaded_from m a x) ≡ true
loaded-small m a unsettled = refl
loaded-small m a (from_store word) = have-among byte word _ _ refl λ w. refl
loaded-small m a from_memory = refl

may_serve_small : (m : List ℕ) (ss : List Entry) (l : Entry) → small (may_serve m ss l) ≡ true
may_serve_small m ss l =
    need-among byte (not (served l)) _ _ refl (have-among byte l.address _ _ refl λ a. loaded-small m a (source a ss))

pub serve-small : (q : Contents) (m : List ℕ) (serial : ℕ) → small (serve q m serial) ≡ true
unfolding serve
serve-small q m serial =
    need-among byte (sound q) _ _ refl
    (need-among byte (eqb (length m) q.memory_length) _ _ refl
    (have-among byte (get_elem? q.loads.entries (place_of q.loads serial)) _ _ refl λ l.
    and_then_among byte (may_serve m (others_before q.stores l) l) _ (may_serve_small m (others_before q.stores l) l) λ v. refl))

may_write_small : (ls : List Entry) (ss : List Entry) (s : Entry) → small (may_write ls ss s) ≡ true
may_write_small ls ss s =
    need-among byte (not (written s)) _ _ refl
    (have-among byte s.address _ _ refl λ a.
    have-among byte (data_of s) _ _ refl λ w.
    need-among byte (all_of (no_conflict served a) ls) _ _ refl (need-among byte (all_of (no_conflict written a) ss) _ _ refl refl))

pub write-small : (q : Contents) (m : List ℕ) (serial : ℕ) → small (write q m serial) ≡ true
unfolding write
write-small q m serial =
    need-among byte (sound q) _ _ refl
    (need-among byte (eqb (length m) q.memory_length) _ _ refl
    (have-among byte (get_elem? q.stores.entries (place_of q.stores serial)) _ _ refl λ s.
    and_then_among byte (may_write (others_before q.loads s) (take (place_of q.stores serial) q.stores.entries) s) _
    (may_write_small (others_before q.loads s) (take (place_of q.stores serial) q.stores.entries) s) λ p. refl))

pub take-small : (q : Contents) (port : ℕ) → small (take_rule q port) ≡ true
unfolding take_rule
take-small q port =
    need-among byte (sound q) _ _ refl
    (need-among byte (any_of (names_port load port) q.groups) _ _ refl
    (have-among byte (get_elem? q.loads.entries (take_place q port)) _ _ refl λ l. have-among byte (value_of l) _ _ refl λ v. refl))

pub ready-small : (kind : Kind) (q : Contents) (run : List ℕ) → small (ready kind q run) ≡ true
unfolding ready
ready-small kind q run = need-among byte (sound q) _ _ refl (need-among byte (leb (length (ready_serials kind q)) (length run)) _ _ refl refl)

-- so none is 0
pub serve_proper : (q : Contents) (m : List ℕ) (serial : ℕ) → proper (serve q m serial) ≡ true
serve_proper q m serial = small-proper (serve q m serial) (serve-small q m serial)

pub write_proper : (q : Contents) (m : List ℕ) (serial : ℕ) → proper (write q m serial) ≡ true
write_proper q m serial = small-proper (write q m serial) (write-small q m serial)

pub take_proper : (q : Contents) (port : ℕ) → proper (take_rule q port) ≡ true
take_proper q port = small-proper (take_rule q port) (take-small q port)
