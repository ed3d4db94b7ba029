use Rattle.std.proofs.Common.{◌≡◌, ◌+◌, ◌-◌, ◌≤◌, ℕ, length, drop, true}
use Rattle.text_tokens.specs.Scan.{skip}
use Rattle.text_tokens.proofs.tokens.comment_end.Given as goal

abbrev pub invariant-loop-at : goal.invariant-loop-at
invariant-loop-at l = record {
  rest : (start line : ℕ) → skip true (start + l.at) line (drop l.at l.bytes) ≡ skip true (start + l.from) line (drop l.from l.bytes);
  behind : l.from ≤ l.at;
  within : l.at ≤ length l.bytes;
}

abbrev pub decreases-loop-at : goal.decreases-loop-at
decreases-loop-at l = length l.bytes - l.at
