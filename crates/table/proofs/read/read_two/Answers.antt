-- Two numbers, one after the other: what the call that read each found.
use borrow.Author.Rules.{rules}
use Rattle.number.proofs.NumberLaws.{place_drop}
use Rattle.number.proofs.RoundTrip.{number_got, number_refused}
use Rattle.table.specs.Internal.{read_two}
use Rattle.table.proofs.read.read_two.Goals as goal

pub returns-in_err-first : goal.returns-in_err-first
unfolding read_two
returns-in_err-first c = rw (number_refused _ _ c.in_err-first.ensures) (search rules)

pub returns-in_err-second : goal.returns-in_err-second
unfolding read_two
returns-in_err-second c =
    let first = number_got c.args.bytes.now c.args.at c.in_ok-first.ensures in
    rw (first.is, number_refused c.args.bytes.now c.in_ok-first.place c.in_err-second.ensures) (search rules)

pub returns : goal.returns
unfolding read_two
returns c =
    let first = number_got c.args.bytes.now c.args.at c.in_ok-first.ensures in
    let second = number_got c.args.bytes.now c.in_ok-first.place c.in_ok-second.ensures in
    rw (first.is, second.is, place_drop _ _ second.inside)
