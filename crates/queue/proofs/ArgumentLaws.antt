-- An argument on the record: where the oldest entry that waits stands, the rule by the record's parts, and what giving the
-- argument makes of the record.
use Rattle.std.proofs.Common.{◌≡◌, ℕ, suc, ◌<◌, ◌≤◌, Bool, true, false, ◌||◌, ltb, Result, List, [], ◌∷◌, ◌++◌, length, take, drop, sym}
use Rattle.std.proofs.Common.{refl, ◌∙◌, ap₂, arith, length-take-le, ltb-false, ltb-true, le-ltb, lt-ltb}
use Rattle.std.proofs.lemmas.List.{take-append-drop}
use Rattle.number.specs.Basics.{pick, any_of}
use Rattle.number.specs.declared.refusal.Refusal.{Refusal}
use Rattle.number.specs.Refusal.{unsound, no_port, bad_address, none_waits}
use Rattle.number.specs.Reply.{accept, need, passed, reply}
use Rattle.table.specs.Table.{groups_of}
use Rattle.queue.specs.declared.Side.{Side as SideStruct}
use Rattle.queue.specs.declared.Frame.{Frame}
use Rattle.queue.specs.declared.Queue.{Queue}
use Rattle.queue.specs.declared.Kind.{Kind}
use Rattle.queue.specs.declared.arguments.Argument.{Argument}
use Rattle.queue.specs.declared.arguments.Argument.TheVariants.{LoadAddress, StoreAddress, StoreData}
use Rattle.queue.specs.Entry.{unpacked, entry_in, number_of}
use Rattle.queue.specs.Contents.{of_kind, contents_of, with_entries, update_at, first_place}
use Rattle.queue.specs.Sound.{sound}
use Rattle.queue.specs.Arguments.{kind_of, names_port, in_range, with_argument, lacks, asked_of, argument_given, give}
use Rattle.queue.specs.Outcome.{Moves, moved}
use Rattle.queue.specs.Parts.{queue_of, queue_of_kind}
use Rattle.queue.specs.Internal.{Checked, lacks_mark, mark_of, set_argument, waiting_at, GivenAt, Given}
use Rattle.queue.proofs.ContentsLaws.{mapped-few, anew-held, counts_of, numbers_of, with_numbers, same_numbers, side-held, side-count, side-anew}
use Rattle.queue.proofs.EntryLaws.{address_number, word_number}
use Rattle.queue.proofs.PartsLaws.{loads-room, stores-room}

-- some element passes where the first that does is a place of the list
pub any_place : {A : Type 0} (p : A → Bool) (l : List A) → any_of p l ≡ ltb (first_place p l) (length l)
any_place p [] = refl
any_place p (x ∷ l) = go (p x) (any_place p l)
  where
    shift : (a b : ℕ) → ltb a b ≡ ltb (suc a) (suc b)
    shift a b = at (ltb a b) refl
      where
        at : (t : Bool) → ltb a b ≡ t → ltb a b ≡ ltb (suc a) (suc b)
        at true e = let k = ltb-true a b e in e ∙ sym (lt-ltb (suc a) (suc b) (omega arith))
        at false e = let k = ltb-false a b e in e ∙ sym (le-ltb (suc a) (suc b) (omega arith))

    go : (t : Bool) → any_of p l ≡ ltb (first_place p l) (length l) → (t || any_of p l) ≡ ltb (pick t 0 (suc (first_place p l))) (suc (length l))
    go true e = sym (lt-ltb 0 (suc (length l)) (omega arith))
    go false e = e ∙ shift (first_place p l) (length l)

-- ---- once an argument is given
-- an address within the memory is one that an entry has room for
pub in_range_most : (argument : Argument) (words x : ℕ) → words ≤ 4096 → in_range argument words x ≡ true → in_range argument 65536 x ≡ true
in_range_most LoadAddress words a k h = let b = ltb-true a words h in lt-ltb a 65536 (omega arith)
in_range_most StoreAddress words a k h = let b = ltb-true a words h in lt-ltb a 65536 (omega arith)
in_range_most StoreData words w k h = refl

-- the number that is put in the entry's place holds the entry with the argument
pub argument_number : (argument : Argument) (x n : ℕ) → x < 4294967296 → in_range argument 65536 x ≡ true → {y : ℕ}
    → y ≡ number_of (set_argument argument x (unpacked n)) → entry_in y ≡ with_argument argument x (entry_in n)
argument_number LoadAddress a n k h = address_number a n (ltb-true a 65536 h)
argument_number StoreAddress a n k h = address_number a n (ltb-true a 65536 h)
argument_number StoreData w n k h = word_number w n k

lacks_mark_lem : (argument : Argument) (port : ℕ) → lacks argument port ≡ lacks_mark (mark_of argument) port
lacks_mark_lem LoadAddress port = refl
lacks_mark_lem StoreAddress port = refl
lacks_mark_lem StoreData port = refl

-- What giving answers and leaves is what the rest of the rule asks.
given_moves : (argument : Argument) (q : Queue) {port x : ℕ} {answer : Result (Unit {0}) Refusal} {left : List ℕ}
    → let kind = kind_of argument in
    let n = (counts_of kind q).count in
    let own = numbers_of kind q in
    n ≤ length own → Given argument port x (take n own) answer left
    → Moves q (need (any_of (lacks argument port) (asked_of argument (contents_of q))) none_waits (accept (argument_given argument port x (contents_of q))))
    (moved answer (with_numbers kind q (left ++ drop n own)))
given_moves argument q {port} {x} {answer} {left} w given =
    let kind : Kind = kind_of argument in
    let n : ℕ = (counts_of kind q).count in
    let own : List ℕ = numbers_of kind q in
    let size : length (take n own) ≡ n = length-take-le n own w in
    let is : first_place (lacks argument port) (asked_of argument (contents_of q)) ≡ waiting_at argument port (take n own) =
    ap₂ first_place (lacks_mark_lem argument port) (side-held kind q ∙ mapped-few entry_in 0 n own w) in
    rw (any_place (lacks argument port) (asked_of argument (contents_of q)), side-count kind q, is)
    (go (waiting_at argument port (take n own)) _ refl (rw size at given.answers) (rw size at given.leaves))
  where
    go : (at : ℕ) (t : Bool) → ltb at (counts_of (kind_of argument) q).count ≡ t → reply answer ≡ need t none_waits passed
        → GivenAt t argument x at (take (counts_of (kind_of argument) q).count (numbers_of (kind_of argument) q)) left
        → Moves q
        (need t none_waits (accept (with_entries (kind_of argument) (contents_of q) (update_at (with_argument argument x) at (asked_of argument (contents_of q))))))
        (moved answer (with_numbers (kind_of argument) q (left ++ drop (counts_of (kind_of argument) q).count (numbers_of (kind_of argument) q))))
    go at true e a m =
        let k = ltb-true at _ e in
        rw a (record { answer = refl; gives = refl; holds = side-anew (kind_of argument) q at w k (anew-held _ _ k m) })
    go at false e a same =
        rw (a, same, take-append-drop (counts_of (kind_of argument) q).count (numbers_of (kind_of argument) q), same_numbers (kind_of argument) q)

-- ---- the rule on the record
pub give_record : (argument : Argument) (q : Queue) (port x : ℕ) → give argument (contents_of q) port x ≡
    need (sound (contents_of q)) unsound
    (need (any_of (names_port (kind_of argument) port) (groups_of q.frame.table)) no_port
    (need (in_range argument q.frame.memory_length x) bad_address
    (need (any_of (lacks argument port) (asked_of argument (contents_of q))) none_waits
    (accept (argument_given argument port x (contents_of q))))))
unfolding give contents_of
give_record argument q port x = refl

-- by the entries of the argument's own kind and those of the other
abbrev pub queue_for : Argument → Frame → List ℕ → List ℕ → Queue
queue_for argument frame own others = queue_of_kind (kind_of argument) frame own others

abbrev pub side_for : Argument → Frame → SideStruct
side_for argument frame = of_kind (kind_of argument) frame.loads frame.stores

pub own_room : (argument : Argument) (frame : Frame) (own others : List ℕ)
    → (let q = queue_for argument frame own others in Checked q.frame q.load_entries q.store_entries) → (side_for argument frame).count ≤ length own
own_room LoadAddress frame own others f = loads-room f
own_room StoreAddress frame own others f = stores-room f
own_room StoreData frame own others f = stores-room f

-- what giving the argument to the oldest answers and leaves is what the rest of the rule asks
pub gives : (argument : Argument) (frame : Frame) (own others : List ℕ) {port x : ℕ} {answer : Result (Unit {0}) Refusal} {left : List ℕ}
    → let n = (side_for argument frame).count in
    n ≤ length own → Given argument port x (take n own) answer left
    → let q = queue_for argument frame own others in
    Moves q (need (any_of (lacks argument port) (asked_of argument (contents_of q))) none_waits (accept (argument_given argument port x (contents_of q))))
    (moved answer (queue_for argument frame (left ++ drop n own) others))
gives LoadAddress frame own others = given_moves LoadAddress (queue_of frame own others)
gives StoreAddress frame own others = given_moves StoreAddress (queue_of frame others own)
gives StoreData frame own others = given_moves StoreData (queue_of frame others own)
