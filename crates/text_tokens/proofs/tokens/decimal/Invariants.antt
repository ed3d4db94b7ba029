use Rattle.std.proofs.Common.{◌≡◌, ◌+◌, ◌-◌, ◌*◌, ◌^◌, ◌<◌, drop, length}
use Rattle.text_tokens.specs.Cursor.{number_value}
use Rattle.text_tokens.proofs.tokens.decimal.Given as goal

abbrev pub invariant-loop-digit : goal.invariant-loop-digit
invariant-loop-digit l = record {
  rest : l.value * 10 ^ (length l.digits - l.digit-index) + number_value (drop l.digit-index l.digits) ≡ number_value l.digits;
  small : l.value < 10 ^ l.digit-index;
}
