-- A number's digits are those of its tenth, and one more: the function calls itself with a tenth of the number.
use Rattle.std.proofs.Common.{◌+◌, ◌-◌, ◌/◌, ◌<◌, length, sym, ap, arith}
use Rattle.number.specs.Texts.{digits_up_to}
use Rattle.number.proofs.PutLaws.{puts_none, puts_as, puts-length, put_byte, digits_zero, digits-one, digits_more, digits-room}
use Rattle.printed.proofs.put.+put_digits.Goals as goal

-- the last digit that may stand
pub bounds-out-at : goal.bounds-out-at
bounds-out-at t c = omega (arith, c.requires, ap length (digits_zero c.args.more c.args.n c.if-more-eq0.true))

pub returns-then-more-eq0 : goal.returns-then-more-eq0
returns-then-more-eq0 t c =
    let one = digits_zero c.args.more c.args.n c.if-more-eq0.true in
    puts_as (sym one) (put_byte _ puts_none (omega (arith, c.requires, ap length one)))

-- a number of one digit
pub bounds-out-at-then-n-lt10 : goal.bounds-out-at-then-n-lt10
bounds-out-at-then-n-lt10 t c = omega (arith, c.requires, ap length (digits-one c.args.more c.args.n c.if-more-eq0.false c.if-n-lt10.true))

pub returns-then-n-lt10 : goal.returns-then-n-lt10
returns-then-n-lt10 t c =
    let one = digits-one c.args.more c.args.n c.if-more-eq0.false c.if-n-lt10.true in
    puts_as (sym one) (put_byte _ puts_none (omega (arith, c.requires, ap length one)))

-- a tenth of it first
pub put_digits-place-requires : goal.put_digits-place-requires
put_digits-place-requires t c =
    (omega (arith, c.if-more-eq0.false), omega (arith, c.requires, digits-room c.args.more c.args.n c.if-more-eq0.false c.if-n-lt10.false))

-- room for the digit behind them
pub bounds-out-place : goal.bounds-out-place
bounds-out-place t c =
    let room : c.args.at + length (digits_up_to (c.args.more - 1) (c.args.n / 10)) < length c.args.out.now =
    omega (arith, c.requires, digits-room c.args.more c.args.n c.if-more-eq0.false c.if-n-lt10.false) in
    let w = c.put_digits-place.ensures in
    omega (arith, room, w.ends, puts-length w (omega (arith, room)))

pub returns : goal.returns
returns t c =
    let room : c.args.at + length (digits_up_to (c.args.more - 1) (c.args.n / 10)) < length c.args.out.now =
    omega (arith, c.requires, digits-room c.args.more c.args.n c.if-more-eq0.false c.if-n-lt10.false) in
    puts_as (sym (digits_more c.args.more c.args.n c.if-more-eq0.false c.if-n-lt10.false)) (put_byte _ c.put_digits-place.ensures room)
