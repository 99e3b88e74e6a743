-- The entries are those held, and behind them the group's first j.
use Rattle.std.proofs.Common.{◌≡◌, ℕ, ◌<◌, ◌≤◌, List, map, length, get_or, sym, ◌∙◌, arith, take_all}
use lib.ListN.{length-map}
use Rattle.table.specs.declared.Pair.{Pair}
use Rattle.table.specs.Packed.{pair_in}
use Rattle.table.specs.Group.{blank_pair}
use Rattle.table.proofs.CheckLaws.{pair-at}
use Rattle.queue.specs.Entry.{entry_in}
use Rattle.queue.specs.Internal.{entry_after}
use Rattle.queue.proofs.AppendLaws.{pasted-more, mapped_appended, number_after, after_number}
use Rattle.queue.proofs.activation.append.Goals as goal
use Rattle.queue.proofs.activation.append.Goals.{After-unpack_pair-pair}

-- the pair at this place, which is one of the group's
here : (c : After-unpack_pair-pair) → get_or (map pair_in c.args.pairs.now) c.loop-j.j blank_pair ≡ c.unpack_pair-pair.result
here c = pair-at c.args.pairs.now c.loop-j.j ∙ sym c.unpack_pair-pair.ensures

inside : (c : After-unpack_pair-pair) → c.loop-j.j < length (map pair_in c.args.pairs.now)
inside c = rw length-map c.loop-j-test.true

pub overflow_add-entry : goal.overflow_add-entry
overflow_add-entry c =
    let p = (goal.at.overflow_add-entry c).After-unpack_pair-pair in
    let few : c.unpack_pair-pair.result.offset ≤ 16 = rw (here p) at (c.requires.0.offsets c.loop-j.j (inside p)) in
    omega (arith, few, c.requires.1)

pub loop-j-preserved : goal.loop-j-preserved
loop-j-preserved c =
    let p = (goal.at.loop-j-preserved c).After-unpack_pair-pair in
    rw c.pack.ensures
    (pasted-more c.loop-j.invariant blank_pair (here p) (omega (arith, c.requires.2, c.requires.0.room, inside p)) (inside p))

pub returns : goal.returns
returns c =
    let listed : List Pair = map pair_in c.args.pairs.now in
    let size : length listed ≡ length c.args.pairs.now = length-map c.args.pairs.now pair_in in
    let fits : (i : ℕ) → i < length listed → let p = get_or listed i blank_pair in entry_in (number_after c.args.others p) ≡ entry_after c.args.others p =
    λ i k. after_number c.args.others _ c.requires.1 (c.requires.0.ports i k) (c.requires.0.offsets i k) in
    record {
      holds = rw (take_all (length listed) listed (omega arith)) at (mapped_appended entry_in 0 (number_after c.args.others) (entry_after c.args.others) blank_pair
          c.loop-j.invariant (length listed) (omega (arith, c.loop-j.auto.j-end, c.loop-j-test.false)) (omega (arith, c.requires.2, c.requires.0.room))
          (omega arith) fits);
    }
