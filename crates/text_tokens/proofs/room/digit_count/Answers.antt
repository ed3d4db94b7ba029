use Rattle.std.proofs.Common.{◌/◌, sym, arith}
use Rattle.itoa.proofs.Decimal.{length_one, length_two, length_pair, length_four}
use Rattle.text_tokens.proofs.room.digit_count.Goals as goal

pub returns-then-number-lt10-clause-count : goal.returns-then-number-lt10-clause-count
returns-then-number-lt10-clause-count c = sym (length_one c.args.number (omega arith))

pub returns-then-number-lt100-clause-count : goal.returns-then-number-lt100-clause-count
returns-then-number-lt100-clause-count c = sym (length_two c.args.number (omega arith) (omega arith))

pub returns-then-number-lt1000-clause-count : goal.returns-then-number-lt1000-clause-count
returns-then-number-lt1000-clause-count c = omega (arith, length_pair c.args.number (omega arith) (omega arith), length_one (c.args.number / 100) (omega arith))

pub returns-then-number-lt10000-clause-count : goal.returns-then-number-lt10000-clause-count
returns-then-number-lt10000-clause-count c = omega (arith, length_pair c.args.number (omega arith) (omega arith), length_two (c.args.number / 100) (omega arith) (omega arith))

pub returns-else-number-lt10000-clause-count : goal.returns-else-number-lt10000-clause-count
returns-else-number-lt10000-clause-count c = omega (arith, length_four c.args.number (omega arith) (omega arith), length_one (c.args.number / 10000) (omega arith))
