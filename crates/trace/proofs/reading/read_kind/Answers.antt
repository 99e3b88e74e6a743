-- What follows a kind is read number by number: what the call that read each found.
use borrow.Author.Rules.{rules}
use borrow.Author.Tests.{le-leb}
use Rattle.number.proofs.NumberLaws.{place_drop}
use Rattle.number.proofs.RoundTrip.{number_got, number_refused}
use Rattle.trace.proofs.reading.read_kind.Goals as goal

pub returns-in_err-second : goal.returns-in_err-second
returns-in_err-second c =
    let first = number_got c.args.bytes.now c.args.at c.in_ok-first.ensures in
    rw (
      le-leb _ _ c.if-kind-gt6.false,
      first.is,
      le-leb _ _ c.if-kind-lt1.false,
      le-leb _ _ c.if-kind-gt3.false,
      number_refused _ _ c.in_err-second.ensures,
    ) (search rules)

pub returns : goal.returns
returns c =
    let first = number_got c.args.bytes.now c.args.at c.in_ok-first.ensures in
    let second = number_got c.args.bytes.now c.in_ok-first.place c.in_ok-second.ensures in
    rw (
      c.event_of-2.ensures,
      le-leb _ _ c.if-kind-gt6.false,
      first.is,
      le-leb _ _ c.if-kind-lt1.false,
      le-leb _ _ c.if-kind-gt3.false,
      second.is,
      place_drop _ _ second.inside,
    )
