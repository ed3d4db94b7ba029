use Rattle.std.proofs.Common.{◌≡◌}
use Rattle.claim_rule.specs.Tokens.{IsOf, number_in}
use Rattle.tests_claims.proofs.field_fixtures.won.Given as goal

abbrev pub invariant-loop-cell : goal.invariant-loop-cell
invariant-loop-cell g l = IsOf l.fn.field l.held × (number_in l.held ≡ number_in l.fn.held)
