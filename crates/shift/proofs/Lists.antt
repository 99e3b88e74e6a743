-- The page after whole lists of calls. First one port alone: what the record has of it follows the values taken there, whatever the other
-- calls do. Then a page is what its ports show, and demand 3 says that the values taken are the plain run's. Last the records that the
-- calls themselves hand back: they are the ones that the list leaves, so the page is theirs too.
use Prim.Native.Nat.{ℕ, zero, suc, ◌+◌, ◌≤◌, ◌<◌}
use native.Mathlib.Nat.{zero-add}
use native.Mathlib.Omega.{arith}
use mathlib.Core.Path.{◌≡◌, refl, sym, ap, ap₂, ◌∙◌}
use mathlib.Core.Bool.{Bool, true, false, ◌&&◌}
use mathlib.Core.List.{List, [], ◌∷◌, ◌++◌, map}
use mathlib.Core.Option.{Option, none, some}
use lib.Dec.{eqb, ltb, eqb-suc-zero}
use lib.ListN.{length, get_or, get_elem?, length-set, get_or-replicate}
use lib.Seq.{get_or-set_same, get_or-set_other}
use borrow.Author.Tests.{ltb-true, ltb-false, eqb-true, eqb-false, ne_eqb}
use Rattle.number.specs.Basics.{pick, flat_map}
use Rattle.table.specs.Group.{GroupPairs}
use Rattle.table.specs.Table.{groups_of}
use Rattle.queue.specs.declared.Queue.{Queue}
use Rattle.number.specs.Reply.{Reply, refuse, accept}
use Rattle.queue.specs.Contents.{contents_of}
use Rattle.queue.specs.Take.{Taken, take_rule}
use Rattle.queue.specs.Outcome.{Outcome, Takes}
use Rattle.queue.specs.Parts.{queue_of}
use Rattle.number.proofs.ReplyLaws.{refusal_not_zero}
use Rattle.queue.proofs.Refusals.{proper, take_proper}
use Rattle.queue.proofs.Lists.{false-true, length-update_at}
use Rattle.queue.proofs.ContentsLaws.{update-set}
use Rattle.sequential.specs.Calls.{Call, Activate, Give, Serve, Write, Take, Ready}
use Rattle.sequential.specs.Answers.{Machine, Answered, take_response, step, answers}
use Rattle.sequential.specs.Plain.{Filling, cons_option, plain_loads}
use Rattle.sequential.specs.Demand3.{told, take_of, taken_at}
use Rattle.sequential.specs.Records.{Hands, Runs, run_none, run_one, answered_with, machine_of}
use Rattle.sequential.proofs.Demand3.{demand3}
use Rattle.sequential.proofs.RecordsDemand3.{runs-agree, records_demand3}
use Rattle.sequential.proofs.RunsOnParts.{parts_are_records, parts-demand3}
use Rattle.shift.specs.declared.ShiftRecord.{ShiftRecord}
use Rattle.shift.specs.Record.{takes_of, last_value_of, no_takes, one_more, recorded, after_take}
use Rattle.shift.specs.Page.{port_line, up_from, header, footer, with_line_feed, page_with, value_or_zero, value_shown, page}
use Rattle.shift.specs.Outcome.{TakesRecorded, with_record}
use Rattle.shift.specs.Lists.{after_accepted, after_call, record_after, stopped, last_or, nth_of, accepted_takes, list_page}
use Rattle.shift.specs.Lists.{RecordsKeep, Shows, PagesShow, RecordsShow, PartsShow}
use Rattle.shift.specs.Lists.{HandsRecord, RunsRecorded, recorded_none, recorded_one, RecordsAreKept, RunsKeepRecords}

-- a test whose two arms are the same
pick_same : {A : Type 0} (b : Bool) (a : A) → pick b a a ≡ a
pick_same true a = refl
pick_same false a = refl

-- ---- a port of the record

-- One take more on a count that stops: the record asks whether the count is full, the list whether its number is still below.
one_more_stopped : (n : ℕ) → one_more (stopped n) ≡ stopped (suc n)
one_more_stopped n = go (ltb n 4294967295) (ltb (suc n) 4294967295) refl refl
  where
    go : (b c : Bool) → ltb n 4294967295 ≡ b → ltb (suc n) 4294967295 ≡ c → one_more (pick b n 4294967295) ≡ pick c (suc n) 4294967295
    go true true e k =
        let low : suc n < 4294967295 = ltb-true (suc n) 4294967295 k in
        rw (ne_eqb n 4294967295 (λ (q : n ≡ 4294967295). omega arith)) (omega arith)
    go true false e k =
        let low : n < 4294967295 = ltb-true n 4294967295 e in
        let high : 4294967295 ≤ suc n = ltb-false (suc n) 4294967295 k in
        rw (ne_eqb n 4294967295 (λ (q : n ≡ 4294967295). omega arith)) (omega arith)
    go false true e k =
        let high : 4294967295 ≤ n = ltb-false n 4294967295 e in
        let low : suc n < 4294967295 = ltb-true (suc n) 4294967295 k in
        absurd (omega arith)
    go false false e k = refl

-- The record has a place for the port, and there this many takes, up to where the count stops, and this value.
record Has (r : ShiftRecord) (port n v : ℕ) : Type 0 where
  room : port < length r.takes
  room_too : port < length r.values
  takes : takes_of r port ≡ stopped n
  value : last_value_of r port ≡ v

-- a take at the port
has-taken : {r : ShiftRecord} {port n v : ℕ} (w : ℕ) → Has r port n v → Has (recorded port w r) port (suc n) w
has-taken {r} {port} {n} w h = record {
  room = rw (length-update_at one_more port r.takes) h.room;
  room_too = rw (length-set r.values port w) h.room_too;
  takes =
      ap (λ (l : List ℕ). get_or l port 0) (update-set one_more r.takes port 0)
      ∙ get_or-set_same r.takes port (one_more (takes_of r port)) 0 h.room
      ∙ ap one_more h.takes
      ∙ one_more_stopped n;
  value = get_or-set_same r.values port w 0 h.room_too;
}

-- a take at another port, which the record may have or not
has_kept : {r : ShiftRecord} {port n v : ℕ} (p w : ℕ) → (p ≡ port → ⊥) → Has r port n v → Has (recorded p w r) port n v
has_kept {r} {port} p w other h = record {
  room = rw (length-update_at one_more p r.takes) h.room;
  room_too = rw (length-set r.values p w) h.room_too;
  takes =
      ap (λ (l : List ℕ). get_or l port 0) (update-set one_more r.takes p 0)
      ∙ get_or-set_other r.takes p port (one_more (takes_of r p)) 0 (λ e. other (sym e))
      ∙ h.takes;
  value = get_or-set_other r.values p port w 0 (λ e. other (sym e)) ∙ h.value;
}

has_none_lem : (port : ℕ) → port < 32 → Has no_takes port 0 0
has_none_lem port low = record { room = low; room_too = low; takes = get_or-replicate 32 port 0 0 low; value = get_or-replicate 32 port 0 0 low }

-- After calls that take these values at the port: as many takes more, and the last of the values.
abbrev Adds : List Answered → ℕ → List ℕ → ShiftRecord → ℕ → ℕ → Type 0
Adds log port vs r n v = Has (record_after r log) port (n + length vs) (last_or v vs)

-- One call before such calls, accepted or refused: where it is an accepted take at the port, its value stands before theirs.
module _ (log : List Answered) (port : ℕ) (vs : List ℕ) (rest : (r : ShiftRecord) (n v : ℕ) → Has r port n v → Adds log port vs r n v) where
  adds-take : (r : ShiftRecord) (n v : ℕ) → Has r port n v → (p : ℕ) (value : Option ℕ) (same : Bool) → eqb p port ≡ same
      → Adds log port (pick same (cons_option value vs) vs) (after_take r p value) n v
  adds-take r n v h p none same e = rw (pick_same same vs) (rest r n v h)
  adds-take r n v h p (some w) true e =
      let one : n + suc (length vs) ≡ suc n + length vs = omega arith in
      rw (one, eqb-true p port e) (rest (recorded port w r) (suc n) w (has-taken w h))
  adds-take r n v h p (some w) false e = rest (recorded p w r) n v (has_kept p w (eqb-false p port e) h)

  adds-call : (r : ShiftRecord) (n v : ℕ) → Has r port n v → (ok : Bool) (c : Call) (value : Option ℕ)
      → Adds log port (pick (take_of port c) (pick ok (cons_option value vs) vs) vs) (pick ok (after_accepted r c value) r) n v
  adds-call r n v h false c value = rw (pick_same (take_of port c) vs) (rest r n v h)
  adds-call r n v h true (Activate g) value = rest r n v h
  adds-call r n v h true (Give kind p x) value = rest r n v h
  adds-call r n v h true (Serve counts s) value = rest r n v h
  adds-call r n v h true (Write s) value = rest r n v h
  adds-call r n v h true (Take p) value = adds-take r n v h p value (eqb p port) refl
  adds-call r n v h true (Ready kind run) value = rest r n v h

adds-log : (log : List Answered) (port : ℕ) (r : ShiftRecord) (n v : ℕ) → Has r port n v → Adds log port (taken_at port log) r n v
adds-log [] port r n v h = let e : n + 0 ≡ n = omega arith in rw e h
adds-log (a ∷ log) port r n v h = adds-call log port (taken_at port log) (adds-log log port) r n v h (eqb a.number 0) a.call a.value

pub records_keep : RecordsKeep
records_keep log port low =
    let h = adds-log log port no_takes 0 0 (has_none_lem port low) in
    record { takes = h.takes ∙ ap stopped (zero-add (length (taken_at port log))); last = h.value }

-- ---- a page is what its ports show

map_from : {A : Type 0} (f g : ℕ → A) (many first : ℕ) → ((k : ℕ) → first ≤ k → k < first + many → f k ≡ g k)
    → map f (up_from first many) ≡ map g (up_from first many)
map_from f g zero first same = refl
map_from {A} f g (suc many) first same =
    ap₂ (λ (x : A) (xs : List A). x ∷ xs)
    (same first (omega arith) (omega arith))
    (map_from f g many (suc first) (λ (k : ℕ) (low : suc first ≤ k) (high : k < suc first + many). same k (omega arith) (omega arith)))

page-alike : (f g h k : ℕ → ℕ) → ((port : ℕ) → port < 32 → f port ≡ g port) → ((port : ℕ) → port < 32 → h port ≡ k port)
    → page_with f h ≡ page_with g k
page-alike f g h k takes values =
    ap (λ (lines : List (List ℕ)). flat_map with_line_feed (header ∷ (lines ++ footer ∷ [])))
    (map_from (λ (port : ℕ). port_line port (f port) (h port)) (λ (port : ℕ). port_line port (g port) (k port)) 32 0
    (λ (port : ℕ) (above : 0 ≤ port) (below : port < 32). ap₂ (port_line port) (takes port below) (values port below)))

-- a port with no takes shows 0, and one that has some shows its value: a count that stops does not stop at 0
shown_last : (vs : List ℕ) (takes value : ℕ) → takes ≡ stopped (length vs) → value ≡ last_or 0 vs → value_or_zero takes value ≡ last_or 0 vs
shown_last [] takes value t v = rw t
shown_last (x ∷ vs) takes value t v = rw (t, v) (go (ltb (suc (length vs)) 4294967295))
  where
    go : (low : Bool) → value_or_zero (pick low (suc (length vs)) 4294967295) (last_or x vs) ≡ last_or x vs
    go true = rw (eqb-suc-zero (length vs))
    go false = refl

-- the last of some values stands at the same place there, so the other list is as long or longer
last_stands : (x : ℕ) (xs : List ℕ) → get_elem? (x ∷ xs) (length xs) ≡ some (last_or x xs)
last_stands x [] = refl
last_stands x (y ∷ xs) = last_stands y xs

at_place : (ys : List ℕ) (n v : ℕ) → get_elem? ys n ≡ some v → (n < length ys) × (get_or ys n 0 ≡ v)
at_place [] n v e = let f : false ≡ true = cc in false-true f
at_place (y ∷ ys) zero v e = let same : y ≡ v = cc in (omega arith, same)
at_place (y ∷ ys) (suc n) v e = let (low, is) = at_place ys n v e in (omega (arith, low), is)

module _ (xs ys : List ℕ) (at : (n v : ℕ) → get_elem? xs n ≡ some v → get_elem? ys n ≡ some v) where
  nth-is-last : nth_of (length xs) ys ≡ last_or 0 xs
  nth-is-last = go xs at
    where
      go : (xs : List ℕ) → ((n v : ℕ) → get_elem? xs n ≡ some v → get_elem? ys n ≡ some v) → nth_of (length xs) ys ≡ last_or 0 xs
      go [] at = refl
      go (x ∷ xs) at = (at_place ys (length xs) (last_or x xs) (at (length xs) (last_or x xs) (last_stands x xs))).1

  no_more : length xs ≤ length ys
  no_more = go xs at
    where
      go : (xs : List ℕ) → ((n v : ℕ) → get_elem? xs n ≡ some v → get_elem? ys n ≡ some v) → length xs ≤ length ys
      go [] at = omega arith
      go (x ∷ xs) at = let low = (at_place ys (length xs) (last_or x xs) (at (length xs) (last_or x xs) (last_stands x xs))).0 in omega (arith, low)

-- ---- an accepted take gives a value, and no other call does
module _ (port : ℕ) (rest : List Answered) (same : accepted_takes port (told rest) ≡ length (taken_at port rest)) where
  abbrev Counted : Call → ℕ → Option ℕ → Type 0
  Counted c number value =
      let a : Answered = record { call = c; number = number; value = value } in
      accepted_takes port (told (a ∷ rest)) ≡ length (taken_at port (a ∷ rest))

  counted-take : (m : Machine) (p : ℕ) (rule : Reply Taken) → proper rule ≡ true
      → Counted (Take p) (take_response m rule).number (take_response m rule).value
  counted-take m p rule fine = go (eqb p port) rule fine
    where
      go : (this : Bool) (rule : Reply Taken) → proper rule ≡ true
          → pick (this && eqb (take_response m rule).number 0) (suc (accepted_takes port (told rest))) (accepted_takes port (told rest)) ≡ length
          (pick this
          (pick (eqb (take_response m rule).number 0) (cons_option (take_response m rule).value (taken_at port rest)) (taken_at port rest))
          (taken_at port rest))
      go false rule fine = same
      go true (refuse n) fine = rw (refusal_not_zero {A = Taken} (refuse n) n fine refl) same
      go true (accept t) fine = ap suc same

  counted-call : (m : Machine) (c : Call) → Counted c (step m c).number (step m c).value
  counted-call m (Activate g) = same
  counted-call m (Give kind p x) = same
  counted-call m (Serve counts s) = same
  counted-call m (Write s) = same
  counted-call m (Take p) = counted-take m p (take_rule m.queue p) (take_proper m.queue p)
  counted-call m (Ready kind run) = same

taken-accepted : (m : Machine) (calls : List Call) (port : ℕ) → accepted_takes port (told (answers m calls)) ≡ length (taken_at port (answers m calls))
taken-accepted m [] port = refl
taken-accepted m (c ∷ calls) port =
    counted-call port (answers (step m c).machine calls) (taken-accepted (step m c).machine calls port) m c

-- the page, where each value taken at a port is the plain run's, and each accepted take gave one
shows : (groups : List GroupPairs) (memory : List ℕ) (log : List Answered) (fill : Filling)
    → ((port n v : ℕ) → get_elem? (taken_at port log) n ≡ some v → get_elem? (plain_loads groups memory (told log) fill port) n ≡ some v)
    → ((port : ℕ) → accepted_takes port (told log) ≡ length (taken_at port log))
    → Shows groups memory log fill (record_after no_takes log)
unfolding page
shows groups memory log fill plain counted =
    let r : ShiftRecord = record_after no_takes log in
    let keeps = records_keep log in
    let counts : ℕ → ℕ = λ port. stopped (accepted_takes port (told log)) in
    let lasts : ℕ → ℕ = λ port. last_or 0 (taken_at port log) in
    let loads : ℕ → List ℕ = λ port. plain_loads groups memory (told log) fill port in
    let listed : page r ≡ list_page log =
    page-alike (takes_of r) counts (value_shown r) lasts
    (λ port low. (keeps port low).takes ∙ ap stopped (sym (counted port)))
    (λ port low. shown_last (taken_at port log) (takes_of r port) (last_value_of r port) (keeps port low).takes (keeps port low).last) in
    record {
      by_list = listed;
      by_plain =
          listed
          ∙ page-alike counts counts lasts (λ port. nth_of (accepted_takes port (told log)) (loads port))
          (λ port low. refl)
          (λ port low. sym (ap (λ (n : ℕ). nth_of n (loads port)) (counted port) ∙ nth-is-last (taken_at port log) (loads port) (plain port)));
      loaded = λ port. rw (counted port) (no_more (taken_at port log) (loads port) (plain port));
    }

pub pages_show : PagesShow
pages_show groups memory m o calls fill below =
    shows groups memory (answers m calls) fill (demand3 groups memory m o calls fill below).takes (taken-accepted m calls)

-- ---- the records that the calls hand back

-- What a call hands over with a record kept is what it hands over without, and the record that its answer leaves. A refused take gives no
-- value, so its answer leaves the record whatever its number is.
take-kept : (q : Queue) (kept next : ShiftRecord) (p : ℕ) (rule : Reply Taken) (r : Outcome) → TakesRecorded q kept p rule (with_record r next)
    → Takes q rule r × (next ≡ after_call kept (answered_with (Take p) r))
take-kept q kept next p (refuse n) r w =
    let none_given : r.value ≡ none = ap (λ (x : Outcome). x.value) w.outcome in
    (w.outcome, w.kept_is ∙ sym (rw none_given (pick_same (eqb r.answer 0) kept)))
take-kept q kept next p (accept t) r w = (w.outcome, w.kept_is ∙ sym (rw (w.outcome.answer, w.outcome.gives)))

call_kept : (q : Queue) (m : List ℕ) (kept next : ShiftRecord) (c : Call) (r : Outcome) (left : List ℕ) → HandsRecord q m kept c r left next
    → Hands q m c r left × (next ≡ after_call kept (answered_with c r))
call_kept q m kept next (Activate g) r left (h, e) = (h, e ∙ sym (pick_same (eqb r.answer 0) kept))
call_kept q m kept next (Give kind p x) r left (h, e) = (h, e ∙ sym (pick_same (eqb r.answer 0) kept))
call_kept q m kept next (Serve lent s) r left (h, e) = (h, e ∙ sym (pick_same (eqb r.answer 0) kept))
call_kept q m kept next (Write s) r left (h, e) = (h, e ∙ sym (pick_same (eqb r.answer 0) kept))
call_kept q m kept next (Take p) r left (w, e) = let (h, k) = take-kept q kept next p (take_rule (contents_of q) p) r w in ((h, e), k)
call_kept q m kept next (Ready kind run) r left (h, e) = (h, e ∙ sym (pick_same (eqb r.answer 0) kept))

run-kept : {q last : Queue} {m left : List ℕ} {kept end : ShiftRecord} {calls : List Call} {log : List Answered}
    → RunsRecorded q m kept calls log last left end → Runs q m calls log last left × (end ≡ record_after kept log)
run-kept recorded_none = (run_none, refl)
run-kept (recorded_one {q = q} {m = m} {m₁ = m₁} {kept = kept} {kept₁ = kept₁} {c = c} {log = log} r h rest) =
    let (hands, e) = call_kept q m kept kept₁ c r m₁ h in
    let (runs, ends) = run-kept rest in
    (run_one r hands runs, ends ∙ ap (λ (s : ShiftRecord). record_after s log) e)

pub records_are_kept : RecordsAreKept
records_are_kept q m kept calls log last left end run = run-kept run

-- The other way: what a call hands over, beside the record that its answer leaves. So no run of calls is lost by keeping a record.
take_with_record : (q : Queue) (kept : ShiftRecord) (p : ℕ) (rule : Reply Taken) (r : Outcome) → Takes q rule r
    → TakesRecorded q kept p rule (with_record r (after_call kept (answered_with (Take p) r)))
take_with_record q kept p (refuse n) r w =
    let none_given : r.value ≡ none = ap (λ (x : Outcome). x.value) w in
    record { outcome = w; kept_is = rw none_given (pick_same (eqb r.answer 0) kept) }
take_with_record q kept p (accept t) r w = record { outcome = w; kept_is = rw (w.answer, w.gives) }

call_with_record : (q : Queue) (m : List ℕ) (kept : ShiftRecord) (c : Call) (r : Outcome) (left : List ℕ) → Hands q m c r left
    → HandsRecord q m kept c r left (after_call kept (answered_with c r))
call_with_record q m kept (Activate g) r left h = (h, pick_same (eqb r.answer 0) kept)
call_with_record q m kept (Give kind p x) r left h = (h, pick_same (eqb r.answer 0) kept)
call_with_record q m kept (Serve lent s) r left h = (h, pick_same (eqb r.answer 0) kept)
call_with_record q m kept (Write s) r left h = (h, pick_same (eqb r.answer 0) kept)
call_with_record q m kept (Take p) r left (w, e) = (take_with_record q kept p (take_rule (contents_of q) p) r w, e)
call_with_record q m kept (Ready kind run) r left h = (h, pick_same (eqb r.answer 0) kept)

run_with_record : {q last : Queue} {m left : List ℕ} {calls : List Call} {log : List Answered} (kept : ShiftRecord)
    → Runs q m calls log last left → RunsRecorded q m kept calls log last left (record_after kept log)
run_with_record kept run_none = recorded_none
run_with_record kept (run_one {q = q} {m = m} {m₁ = m₁} {c = c} r h rest) =
    recorded_one r (call_with_record q m kept c r m₁ h) (run_with_record (after_call kept (answered_with c r)) rest)

pub runs_keep_records : RunsKeepRecords
runs_keep_records q m kept calls log last left run = run_with_record kept run

-- the accepted takes of a run of records are those of the list that it is
run-accepted : {q last : Queue} {m left : List ℕ} {calls : List Call} {log : List Answered} → Runs q m calls log last left
    → (port : ℕ) → accepted_takes port (told log) ≡ length (taken_at port log)
run-accepted {q} {m = m} {calls = calls} run port = rw (← (runs-agree run).says) (taken-accepted (machine_of q m) calls port)

pub records_show : RecordsShow
records_show table memory o w calls log q left kept run fill below =
    let (runs, e) = run-kept run in
    rw e (shows (groups_of table) memory log fill (records_demand3 table memory o w calls log q left runs fill below).takes (run-accepted runs))

pub parts-show : PartsShow
parts-show table load_depth store_depth first memory o serial opens accepted loads stores many many-too calls log q left run fill below =
    shows (groups_of table) memory log fill
    (parts-demand3 table load_depth store_depth first memory o serial opens accepted loads stores many many-too calls log q left run fill below).takes
    (run-accepted (parts_are_records (queue_of o.frame loads stores) q memory left calls log many many-too run))
