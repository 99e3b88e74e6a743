-- What taking from a port answers, by what the record holds.
use Rattle.std.proofs.Common.{◌≡◌, ℕ, ◌<◌, ◌≤◌, true, false, get_or, ◌∙◌}
use mathlib.Core.Option.{some}
use lib.ListN.{get_elem?}
use Rattle.number.specs.Basics.{any_of}
use Rattle.table.specs.Table.{groups_of}
use Rattle.queue.specs.declared.Entry.{Entry as EntryStruct}
use Rattle.queue.specs.declared.Queue.{Queue}
use Rattle.number.specs.Refusal.{unsound, no_port, none_untaken, not_served}
use Rattle.number.specs.Reply.{refuse, accept}
use Rattle.queue.specs.Entry.{entry_of, unpacked, mark_finished, entry_in}
use Rattle.queue.specs.Contents.{contents_of, with_entries, update_at, first_place, entries_held}
use Rattle.queue.specs.Sound.{sound}
use Rattle.queue.specs.Arguments.{names_port}
use Rattle.queue.specs.Take.{untaken, take_rule}
use Rattle.queue.specs.Retire.{retire}
use Rattle.queue.specs.declared.Kind.TheVariants.{Load as load}
use Rattle.queue.proofs.ContentsLaws.{get_elem?_past, mapped_get_elem?, mapped-length}

module _ (q : Queue) (port : ℕ) where
  pub take-unsound : sound (contents_of q) ≡ false → take_rule (contents_of q) port ≡ refuse unsound
  unfolding take_rule
  take-unsound e = rw e

  module _ (right : sound (contents_of q) ≡ true) where
    pub take-no-port : any_of (names_port load port) (groups_of q.frame.table) ≡ false → take_rule (contents_of q) port ≡ refuse no_port
    unfolding take_rule contents_of
    take-no-port e = rw (right, e)

    module _ (known : any_of (names_port load port) (groups_of q.frame.table) ≡ true) (place : ℕ)
        (is : place ≡ first_place (untaken port) (entries_held q.frame.loads.count q.load_entries)) where
      pub take_none : q.frame.loads.count ≤ place → take_rule (contents_of q) port ≡ refuse none_untaken
      unfolding take_rule contents_of
      take_none h = rw (
        right,
        known,
        ← is,
        get_elem?_past (entries_held q.frame.loads.count q.load_entries) place
            (rw (mapped-length entry_in 0 q.frame.loads.count q.load_entries) h),
      )

      module _ (k : place < q.frame.loads.count) (e : EntryStruct) (at : unpacked (get_or q.load_entries place 0) ≡ e) where
        here : get_elem? (entries_held q.frame.loads.count q.load_entries) place ≡ some (entry_of e)
        here = mapped_get_elem? entry_in 0 q.frame.loads.count q.load_entries place k ∙ rw at

        pub take-unserved : e.filled ≡ false → take_rule (contents_of q) port ≡ refuse not_served
        unfolding take_rule contents_of
        take-unserved s = rw (right, known, ← is, here, s)

        pub take-served : e.filled ≡ true
            → take_rule (contents_of q) port ≡ accept
            (record { value = e.word; queue = retire (with_entries load (contents_of q) (update_at mark_finished place (contents_of q).loads.entries)) })
        unfolding take_rule contents_of
        take-served s = rw (right, known, ← is, here, s)
