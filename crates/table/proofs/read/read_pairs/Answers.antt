-- i pairs have been read into the array; what is left to read is the rest, with the marks and the last offset so far.
use mathlib.Core.Path.{◌≡◌, sym}
use mathlib.Core.List.{map}
use native.Mathlib.Omega.{arith}
use borrow.Author.Rules.{rules}
use lib.ListN.{take, drop}
use Rattle.std.specs.Prelude.{Err}
use Rattle.number.specs.Reply.{passed}
use Rattle.table.specs.Packed.{pair, SmallPair, pair_in}
use Rattle.table.specs.Table.{check_pair}
use Rattle.table.specs.Internal.{rule_of, read_two}
use Rattle.number.proofs.RoundTrip.{read_refused}
use Rattle.table.proofs.CheckLaws.{all_alike, pair-passed, rule_small}
use Rattle.table.proofs.ReadLaws.{two-answer, reading_none, reading-refused, reading-fault, reading-more, reading-end, packed, held-pairs}
use Rattle.table.proofs.read.read_pairs.Goals as goal
use Rattle.table.proofs.read.read_pairs.Goals.{In_ok-check_pair}

right : (c : In_ok-check_pair) → check_pair (rule_of c.args.rule c.loop-i.low c.loop-i.i c.in_ok-offset.offset) c.loop-i.seen c.in_ok-offset.port ≡ passed
right c = rw c.allows.ensures at (sym c.in_ok-check_pair.ensures)

small : (c : In_ok-check_pair) → SmallPair (pair c.in_ok-offset.offset c.in_ok-offset.port)
small c =
    let (allowed, port, new) = pair-passed _ c.loop-i.seen c.in_ok-offset.port (right c) in
    let offset = rule_small c.args.rule c.loop-i.low c.loop-i.i c.in_ok-offset.offset c.requires.2 allowed in
    record { offset = omega (arith, offset); port = omega (arith, port) }

pub loop-i-init : goal.loop-i-init
loop-i-init c = reading_none c.requires.1 (all_alike c.default-pairs.ensures.1)

pub returns-in_err-offset : goal.returns-in_err-offset
returns-in_err-offset c =
    let s = c.args.bytes.now in
    let r : c.from_residual.result ≡ Err c.in_err-offset.field-0.0 = search rules in
    rw r (reading-refused c.loop-i.invariant c.loop-i-test.true (read_refused s (read_two (drop c.loop-i.place s)) c.in_err-offset.ensures))

pub returns-in_err-check_pair : goal.returns-in_err-check_pair
returns-in_err-check_pair c =
    let two = two-answer c.args.bytes.now c.loop-i.place c.in_ok-offset.ensures in
    let fault = rw c.allows.ensures at (sym c.in_err-check_pair.ensures) in
    let r : c.from_residual-in_err-check_pair.result ≡ Err c.in_err-check_pair.field-0.0 = search rules in
    rw r (reading-fault c.loop-i.invariant c.loop-i-test.true two fault)

pub overflow_cast-offset : goal.overflow_cast-offset
overflow_cast-offset c = let fits = (small (goal.at.overflow_cast-offset c).In_ok-check_pair).offset in omega arith

pub loop-i-preserved : goal.loop-i-preserved
loop-i-preserved c =
    let p = (goal.at.loop-i-preserved c).In_ok-check_pair in
    let two = two-answer c.args.bytes.now c.loop-i.place c.in_ok-offset.ensures in
    reading-more c.loop-i.invariant c.loop-i-test.true two c.requires.0 (right p) (small p) _ c.pack_pair.ensures

pub returns : goal.returns
returns c =
    let w = c.loop-i.invariant in
    let i = c.loop-i.i in
    let places = c.loop-i.pairs.places in
    let n : c.args.count ≡ i = omega (arith, c.loop-i-test.false, c.loop-i.auto.i-end) in
    let e = reading-end w c.requires.0 c.loop-i-test.false (omega (arith, n)) in
    record {
      what = map pair_in (take i places);
      is = e.0;
      inside = w.inside;
      found = record {
        pairs = packed _ i places n e.2 e.1 w.packs;
        holds = held-pairs _ i places n e.2 (omega (arith, w.long, n, c.requires.0));
        marks = w.marks_are;
      };
    }
