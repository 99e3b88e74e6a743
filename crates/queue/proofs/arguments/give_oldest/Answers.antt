use Rattle.std.proofs.Common.{◌≡◌, ◌<◌, length, get_or, sym, refl, ap, ◌∙◌, arith, lt-ltb}
use lib.ListN.{length-map}
use Rattle.queue.specs.Entry.{entry_in, number_of}
use Rattle.queue.specs.Contents.{first_place}
use Rattle.queue.specs.Arguments.{with_argument}
use Rattle.queue.specs.Internal.{entries_in, waiting_at, lacks_mark, set_argument}
use Rattle.queue.specs.declared.entries.Mark.{Mark}
use Rattle.queue.proofs.ArgumentLaws.{argument_number}
use Rattle.queue.proofs.arguments.give_oldest.Goals as goal

pub returns : goal.returns
returns c =
    let a = c.args in
    let place : c.in-Some.at ≡ waiting_at a.argument a.port a.entries.now =
    sym c.in-Some.ensures.0 ∙ ap (λ (mark : Mark). first_place (lacks_mark mark a.port) (entries_in a.entries.now)) c.mark_of.ensures in
    let fits : c.in-Some.at < length a.entries.now = rw length-map at c.in-Some.ensures.1 in
    let given : entry_in c.pack.result ≡ with_argument a.argument a.number (entry_in (get_or a.entries.now c.in-Some.at 0)) =
    argument_number a.argument a.number _ (omega arith) c.requires
    (c.pack.ensures ∙ ap number_of (c.set_argument.ensures ∙ ap (set_argument a.argument a.number) c.unpack-entry.ensures)) in
    record {
      answers = rw (← place, lt-ltb _ _ fits);
      leaves = rw (← place, lt-ltb _ _ fits) (record { number = c.pack.result; holds = given; leaves = refl });
    }
