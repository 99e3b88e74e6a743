-- Four numbers, one after the other: what the call that read each found.
use borrow.Author.Rules.{rules}
use Rattle.number.proofs.NumberLaws.{place_drop}
use Rattle.number.proofs.RoundTrip.{number_got, number_refused}
use Rattle.trace.specs.Event.{read_header}
use Rattle.trace.proofs.reading.read_header.Goals as goal

pub returns-in_err-load_depth : goal.returns-in_err-load_depth
unfolding read_header
returns-in_err-load_depth c = rw (number_refused c.args.bytes.now 0 c.in_err-load_depth.ensures) (search rules)

pub returns-in_err-store_depth : goal.returns-in_err-store_depth
unfolding read_header
returns-in_err-store_depth c =
    let first = number_got c.args.bytes.now 0 c.in_ok-load_depth.ensures in
    rw (first.is, number_refused _ _ c.in_err-store_depth.ensures) (search rules)

pub returns-in_err-first : goal.returns-in_err-first
unfolding read_header
returns-in_err-first c =
    let first = number_got c.args.bytes.now 0 c.in_ok-load_depth.ensures in
    let second = number_got c.args.bytes.now c.in_ok-load_depth.place c.in_ok-store_depth.ensures in
    rw (first.is, second.is, number_refused _ _ c.in_err-first.ensures) (search rules)

pub returns-in_err-memory_length : goal.returns-in_err-memory_length
unfolding read_header
returns-in_err-memory_length c =
    let first = number_got c.args.bytes.now 0 c.in_ok-load_depth.ensures in
    let second = number_got c.args.bytes.now c.in_ok-load_depth.place c.in_ok-store_depth.ensures in
    let third = number_got c.args.bytes.now c.in_ok-store_depth.place c.in_ok-first.ensures in
    rw (first.is, second.is, third.is, number_refused _ _ c.in_err-memory_length.ensures) (search rules)

pub returns : goal.returns
unfolding read_header
returns c =
    let first = number_got c.args.bytes.now 0 c.in_ok-load_depth.ensures in
    let second = number_got c.args.bytes.now c.in_ok-load_depth.place c.in_ok-store_depth.ensures in
    let third = number_got c.args.bytes.now c.in_ok-store_depth.place c.in_ok-first.ensures in
    let fourth = number_got c.args.bytes.now c.in_ok-first.place c.in_ok-memory_length.ensures in
    rw (first.is, second.is, third.is, fourth.is, place_drop _ _ fourth.inside)
