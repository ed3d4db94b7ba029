use Rattle.std.proofs.Common.{◌≡◌, ◌+◌, ◌-◌, ◌^◌, ◌<◌, ◌≤◌, length, take, drop}
use Rattle.std.specs.List.{prefix_len}
use Rattle.text_tokens.specs.Text.{is_digit}
use Rattle.text_tokens.specs.Cursor.{number_value}
use Rattle.text_tokens.proofs.tokens.leading_number.Given as goal

-- the length is what was counted, and what stands behind it
abbrev pub invariant-loop-len : goal.invariant-loop-len
invariant-loop-len l = record {
  rest : l.len + prefix_len is_digit (drop l.len l.bytes) ≡ prefix_len is_digit l.bytes;
  value : l.value ≡ number_value (take l.len l.bytes);
  small : l.value < 10 ^ l.len;
  within : l.len ≤ 9;
}

abbrev pub decreases-loop-len : goal.decreases-loop-len
decreases-loop-len l = length l.bytes - l.len
