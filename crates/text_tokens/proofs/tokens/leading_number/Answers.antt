use Rattle.std.proofs.Common.{◌≡◌, ◌+◌, ◌-◌, ◌*◌, ◌^◌, ◌<◌, length, get_or, true, ap, sym, ◌∙◌, arith}
use Rattle.text_tokens.specs.Text.{is_digit}
use Rattle.text_tokens.proofs.Decimal.{digit_range, digit_more, value_more, small_step, small_within}
use Rattle.text_tokens.proofs.tokens.leading_number.Goals as goal

pub overflow_mul-value : goal.overflow_mul-value
overflow_mul-value c = let s : c.loop-len.value < 10 ^ 8 = small_within c.loop-len.value c.loop-len.len 8 c.loop-len.invariant.small (omega arith) in omega arith

pub overflow_add-value : goal.overflow_add-value
overflow_add-value c =
    let s : c.loop-len.value < 10 ^ 8 = small_within c.loop-len.value c.loop-len.len 8 c.loop-len.invariant.small (omega arith) in
    let d = digit_range (get_or c.args.bytes.now c.loop-len.len 0) (sym c.is_digit.ensures ∙ c.if-is_digit.true) in
    omega arith

pub loop-len-preserved : goal.loop-len-preserved
loop-len-preserved c =
    let inside : c.loop-len.len < length c.args.bytes.now = omega arith in
    let is : is_digit (get_or c.args.bytes.now c.loop-len.len 0) ≡ true = sym c.is_digit.ensures ∙ c.if-is_digit.true in
    let d = digit_range (get_or c.args.bytes.now c.loop-len.len 0) is in
    let more = digit_more c.args.bytes.now c.loop-len.len inside is in
    let rest = c.loop-len.invariant.rest in
    record {
      rest = omega arith;
      value = ap (λ v. 10 * v + (get_or c.args.bytes.now c.loop-len.len 0 - 48)) c.loop-len.invariant.value ∙ sym (value_more c.args.bytes.now c.loop-len.len inside);
      small = small_step c.loop-len.value _ c.loop-len.len c.loop-len.invariant.small (omega arith);
      within = omega arith;
    }

pub returns-then-len-most_bytes-clause-stands : goal.returns-then-len-most_bytes-clause-stands
returns-then-len-most_bytes-clause-stands c = c.fault.ensures.stands c.args.bytes.now
