use Rattle.std.proofs.Common.{◌≡◌, decimal, arith}
use Rattle.std.proofs.lemmas.Fmt.{decimal_digit}
use Rattle.text_tokens.proofs.TextBehind.{text_behind}
use Rattle.text_tokens.proofs.room.put_digits.Goals as goal

pub returns-clause-text : goal.returns-clause-text
returns-clause-text c =
    let from : c.write_digits.result ≡ c.args.at = omega arith in
    let old = c.args.room.now in
    rw c.digit_count.ensures.count
    (text_behind old c.write_digits.new.buf (decimal c.args.number) _ c.args.at (omega arith) (rw from at c.write_digits.ensures.before) (rw from at c.write_digits.ensures.written))

pub returns-then-number-lt10-clause-place : goal.returns-then-number-lt10-clause-place
returns-then-number-lt10-clause-place c = rw (decimal_digit c.args.number c.if-number-lt10.true) (omega (arith, c.put.ensures.place))

pub returns-then-number-lt10-clause-text : goal.returns-then-number-lt10-clause-text
returns-then-number-lt10-clause-text c = rw (decimal_digit c.args.number c.if-number-lt10.true) c.put.ensures.text
