use Rattle.std.proofs.Common.{◌≡◌, ◌+◌, ◌-◌, ◌≤◌, ℕ, length, drop, false}
use Rattle.text_tokens.specs.Scan.{skip}
use Rattle.text_tokens.proofs.tokens.skip.Given as goal

abbrev pub invariant-loop-at : goal.invariant-loop-at
invariant-loop-at l = record {
  rest : (start : ℕ) → skip false (start + l.at) l.line_now (drop l.at l.bytes) ≡ skip false start l.line l.bytes;
  line : l.line_now ≤ l.line + l.at;
  within : l.at ≤ length l.bytes;
}

abbrev pub decreases-loop-at : goal.decreases-loop-at
decreases-loop-at l = length l.bytes - l.at
