-- The store at the place: refused by the rule in its order, or its word is put in memory, it is marked finished, and finished entries leave.
use Rattle.std.proofs.Common.{◌≡◌, ◌<◌, ◌≤◌, length, get_or, refl, ap, ◌∙◌, le_trans, arith, length-set, rules}
use mathlib.Core.Option.{none}
use Rattle.number.specs.Reply.{accept, and_then, passed, check_of}
use Rattle.number.proofs.AnswerLaws.{check_refused, check_passed}
use Rattle.queue.specs.declared.Entry.{Entry as EntryStruct}
use Rattle.queue.specs.declared.Queue.{Queue}
use Rattle.queue.specs.declared.Kind.TheVariants as Kind
use Rattle.queue.specs.Entry.{unpacked, number_of, entry_of, entry_in, mark_finished}
use Rattle.queue.specs.Contents.{contents_of, entries_held}
use Rattle.queue.specs.Write.{written_with, write_at}
use Rattle.queue.specs.Retire.{retire}
use Rattle.queue.specs.Parts.{queue_of}
use Rattle.queue.specs.Internal.{set_finished, may_write_at}
use Rattle.queue.proofs.ContentsLaws.{side-anew}
use Rattle.queue.proofs.EntryLaws.{finished_number}
use Rattle.queue.proofs.SoundLaws.{count_most, before-held, address-low}
use Rattle.queue.proofs.WriteLaws.{Puts, may-puts, write-none, write-held}
use Rattle.queue.proofs.writing.write_at.Goals as goal
use Rattle.queue.proofs.writing.write_at.Goals.{After-write_fault}

-- the queue of these parts, the store at the place, and what the rule says of it
abbrev queue : After-write_fault → Queue
queue c = queue_of c.args.frame.now c.args.load_entries.now c.args.store_entries.now

abbrev store : After-write_fault → EntryStruct
store c = unpacked (get_or c.args.store_entries.now c.args.place 0)

stores_room : (c : After-write_fault) → c.args.frame.now.stores.count ≤ length c.args.store_entries.now
stores_room c = omega (arith, count_most (queue c) c.requires.0.right Kind.Store, c.requires.0.stores_whole)

loads_room : (c : After-write_fault) → c.args.frame.now.loads.count ≤ length c.args.load_entries.now
loads_room c = omega (arith, count_most (queue c) c.requires.0.right Kind.Load, c.requires.0.loads_whole)

placed : (c : After-write_fault) → c.args.place < length c.args.store_entries.now
placed c = le_trans c.if-frame-place.false (stores_room c)

before_few : (c : After-write_fault) → (store c).before ≤ c.args.frame.now.loads.count
before_few c = before-held (queue c) c.requires.0.right Kind.Store c.args.place c.if-frame-place.false

-- where the check passed, what it puts
puts : (c : After-write_fault) → passed ≡ check_of (may_write_at c.args.load_entries.now c.args.store_entries.now c.args.place)
    → Puts (entries_held (store c).before c.args.load_entries.now) (entries_held c.args.place c.args.store_entries.now) (store c)
puts c e =
    may-puts (entries_held (store c).before c.args.load_entries.now) (entries_held c.args.place c.args.store_entries.now) (store c)
    (check_passed (may_write_at c.args.load_entries.now c.args.store_entries.now c.args.place) e).1

held : (c : After-write_fault) → write_at (contents_of (queue c)) c.args.memory.now c.args.place
    ≡ and_then (may_write_at c.args.load_entries.now c.args.store_entries.now c.args.place) λ p. accept
    (written_with (contents_of (queue c)) c.args.memory.now c.args.place p)
held c = write-held (queue c) c.args.memory.now c.args.place c.if-frame-place.false (before_few c)

pub returns-then-frame-place-clause-writes : goal.returns-then-frame-place-clause-writes
returns-then-frame-place-clause-writes c =
    rw (write-none (queue_of c.args.frame.now c.args.load_entries.now c.args.store_entries.now) c.args.memory.now c.args.place
    c.if-frame-place.true)
    (record { outcome = refl; memory_is = refl })

pub write_fault-requires : goal.write_fault-requires
write_fault-requires c =
    let q : Queue = queue_of c.args.frame.now c.args.load_entries.now c.args.store_entries.now in
    let few = before-held q c.requires.0.right Kind.Store c.args.place c.if-frame-place.false in (
      le_trans c.if-frame-place.false (omega (arith, count_most q c.requires.0.right Kind.Store, c.requires.0.stores_whole)),
      le_trans few (omega (arith, count_most q c.requires.0.right Kind.Load, c.requires.0.loads_whole)),
    )

pub returns-in_err-write_fault-clause-writes : goal.returns-in_err-write_fault-clause-writes
returns-in_err-write_fault-clause-writes c =
    let p = (goal.at.returns-in_err-write_fault-clause-writes c).After-write_fault in
    rw (held p, check_refused (may_write_at c.args.load_entries.now c.args.store_entries.now c.args.place) c.in_err-write_fault.ensures)
    (record { outcome = search rules; memory_is = refl })

pub bounds-store_entries-at : goal.bounds-store_entries-at
bounds-store_entries-at c = placed (goal.at.bounds-store_entries-at c).After-write_fault

pub bounds-memory-store : goal.bounds-memory-store
bounds-memory-store c =
    let p = (goal.at.bounds-memory-store c).After-write_fault in
    rw (c.requires.1, c.unpack-store.ensures)
    (address-low (queue p) c.requires.0.right Kind.Store c.args.place c.if-frame-place.false (puts p c.in_ok-write_fault.ensures).addressed)

pub bounds-store_entries-at-2 : goal.bounds-store_entries-at-2
bounds-store_entries-at-2 c = placed (goal.at.bounds-store_entries-at-2 c).After-write_fault

pub retire-requires-clause-loads : goal.retire-requires-clause-loads
retire-requires-clause-loads c = loads_room (goal.at.retire-requires-clause-loads c).After-write_fault

pub retire-requires-clause-stores : goal.retire-requires-clause-stores
retire-requires-clause-stores c =
    rw (length-set c.args.store_entries.now c.args.place c.pack.result) (stores_room (goal.at.retire-requires-clause-stores c).After-write_fault)

pub returns-clause-writes : goal.returns-clause-writes
returns-clause-writes c =
    let p = (goal.at.returns-clause-writes c).After-write_fault in
    let put : entry_in c.pack.result ≡ mark_finished (entry_of (store p)) = finished_number (get_or c.args.store_entries.now c.args.place 0)
    (c.pack.ensures ∙ ap (λ (e : EntryStruct). number_of (set_finished e)) c.unpack-store.ensures) in
    rw (held p, (puts p c.in_ok-write_fault.ensures).put)
    (record {
      outcome = record {
        answer = refl {a = 0};
        gives = refl {a = none};
        holds = c.retire.ensures.retires
            ∙ ap retire (side-anew Kind.Store (queue p) c.args.place (stores_room p) c.if-frame-place.false
            (record { number = c.pack.result; holds = put; leaves = refl }));
      };
      memory_is = rw c.unpack-store.ensures;
    })
