-- What follows from the definitions alone.
use Rattle.std.specs.Prelude.{◌≡◌}
use Rattle.amoebot_state.specs.declared.verdict.Verdict.{Verdict}
use Rattle.amoebot_state.specs.Zones.{Shown}
use Rattle.claim_rule.specs.Tokens.{Token}
use Rattle.node_claims.specs.declared.turn.Turn.{Turn}
use Rattle.node_claims.specs.Answers.{HasAnswered}

-- from one seat to another there is at most one answer: so Done, Idle,
-- Failed and Busy exclude each other
abbrev pub AnswerIsUnique : {D : Type 0} → Type 0 → (D → Shown → Verdict) → Type 0
AnswerIsUnique {D} W verdict =
    (old new : Token D) (one two : Turn W)
    → HasAnswered verdict old new one
    → HasAnswered verdict old new two
    → one ≡ two
