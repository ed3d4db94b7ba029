use Rattle.std.proofs.Common.{◌≡◌}
use Rattle.claim_rule.specs.Tokens.{IsOf, number_in}
use Rattle.tests_turns.proofs.closed_fields.turns_of.Given as goal

abbrev pub invariant-loop-turn : goal.invariant-loop-turn
invariant-loop-turn g l = IsOf l.fn.field l.seat × (number_in l.seat ≡ number_in l.fn.seat)
