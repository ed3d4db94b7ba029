use Rattle.std.proofs.Common.{◌≡◌, ◌-◌, length, drop}
use Rattle.std.specs.Str.{bytes_eq}
use Rattle.text_tokens.proofs.tokens.is_same.Given as goal

-- what was compared is the same
abbrev pub invariant-loop-at : goal.invariant-loop-at
invariant-loop-at l = record {
  rest : bytes_eq (drop l.at l.text) (drop l.at l.other) ≡ bytes_eq l.text l.other;
  long : length l.text ≡ length l.other;
}

abbrev pub decreases-loop-at : goal.decreases-loop-at
decreases-loop-at l = length l.other - l.at
