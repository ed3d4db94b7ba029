use Rattle.std.proofs.Common.{◌∙◌}
use Rattle.claim_rule.proofs.SeatsLemmas.{back_again}
use Rattle.tests_claims.proofs.seats.+take_and_give.Goals as goal

pub returns-in_ok-take_and_give-in-Some : goal.returns-in_ok-take_and_give-in-Some
returns-in_ok-take_and_give-in-Some g t c = back_again c.args.seats.now _ c.give.new.self c.in-Some.seat (c.in-Some.ensures {u = tt}).first.0.there (c.in_ok-take_and_give-in-Some.ensures ∙ (c.in-Some.ensures {u = tt}).first.1) c.give.ensures
