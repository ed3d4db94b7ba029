use Rattle.claim_rule.proofs.Places.{is_out, is_back}
use Rattle.tests_turns.proofs.closed_fields.+after_turns.Goals as goal

pub give-requires-clause-out : goal.give-requires-clause-out
give-requires-clause-out g t c κs within = is_out c.args.seats.now _ c.after_turns.new.seats c.in-Some.seat c.in_ok-seat-in-Some.seat (c.in-Some.ensures {u = tt}).first.0.there (c.in-Some.ensures {u = tt}).first.1 c.in_ok-after_turns-in-Some.ensures.there c.in_ok-seat-in-Some.ensures.same

pub returns-in_ok-after_turns-in-Some-clause-there : goal.returns-in_ok-after_turns-in-Some-clause-there
returns-in_ok-after_turns-in-Some-clause-there g t c = is_back c.args.seats.now _ c.after_turns.new.seats c.in-Some.seat c.in_ok-seat-in-Some.seat (c.in-Some.ensures {u = tt}).first.0.there (c.in-Some.ensures {u = tt}).first.1 c.in_ok-after_turns-in-Some.ensures.there c.in_ok-seat-in-Some.ensures.same c.give.new.self c.give.ensures
