use Rattle.std.proofs.Common.{◌<◌, ◌^◌, ◌∙◌, arith, sym}
use Rattle.text_tokens.proofs.Decimal.{digit_at, value_step, small_step, small_within, value_end}
use Rattle.text_tokens.proofs.tokens.decimal.Goals as goal

pub overflow_mul-value : goal.overflow_mul-value
overflow_mul-value c = let s : c.loop-digit.value < 10 ^ 8 = small_within c.loop-digit.value c.loop-digit.digit-index 8 c.loop-digit.invariant.small (omega arith) in omega arith

pub overflow_add-value : goal.overflow_add-value
overflow_add-value c =
    let s : c.loop-digit.value < 10 ^ 8 = small_within c.loop-digit.value c.loop-digit.digit-index 8 c.loop-digit.invariant.small (omega arith) in
    let d = digit_at c.args.digits.now c.loop-digit.digit-index c.loop-digit-test.true c.requires.digits in
    omega arith

pub loop-digit-preserved : goal.loop-digit-preserved
loop-digit-preserved c =
    let d = digit_at c.args.digits.now c.loop-digit.digit-index c.loop-digit-test.true c.requires.digits in
    record {
      rest = value_step c.args.digits.now c.loop-digit.digit-index c.loop-digit.value c.loop-digit-test.true ∙ c.loop-digit.invariant.rest;
      small = small_step c.loop-digit.value _ c.loop-digit.digit-index c.loop-digit.invariant.small (omega arith);
    }

pub returns-clause-value : goal.returns-clause-value
returns-clause-value c = sym (value_end c.args.digits.now c.loop-digit.digit-index c.loop-digit.value c.loop-digit-test.false) ∙ c.loop-digit.invariant.rest

pub returns-clause-small : goal.returns-clause-small
returns-clause-small c = small_within c.loop-digit.value c.loop-digit.digit-index 9 c.loop-digit.invariant.small (omega arith)
