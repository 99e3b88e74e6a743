-- The first i places hold the entries from the `gone`th on, which remember the fewer of the other kind; the rest is as it was.
use Rattle.std.proofs.Common.{rules, ◌≡◌, ℕ, ◌+◌, ◌-◌, get_or, sym, ap, ◌∙◌, arith}
use Rattle.queue.specs.Entry.{entry_in}
use Rattle.queue.specs.Contents.{entries_held}
use Rattle.queue.specs.Retire.{after_retiring}
use Rattle.queue.proofs.RetireLaws.{lowered_in, moved_more, moved-side, lowered_number}
use Rattle.queue.proofs.retiring.shift.Goals as goal

pub loop-i-preserved : goal.loop-i-preserved
loop-i-preserved c =
    let put : c.pack.result ≡ lowered_in c.args.others (get_or c.loop-i.entries (c.loop-i.i + c.args.gone) 0) =
    c.pack.ensures ∙ rw (c.unpack-entry.ensures) (search rules) in
    moved_more c.loop-i.invariant 0 put (omega (arith, c.requires, c.loop-i-test.true))

pub returns : goal.returns
returns c =
    let n : ℕ = c.args.gone + c.args.left in
    let left : n - c.args.gone ≡ c.args.left = omega arith in
    record {
      holds = ap (λ (m : ℕ). entries_held m c.loop-i.entries) (sym left)
          ∙ moved-side c.loop-i.invariant entry_in 0 (after_retiring c.args.others) (lowered_number c.args.others) n (omega (arith, c.loop-i.auto.i-end, c.loop-i-test.false)) (omega arith) (omega (arith, c.requires));
    }
