use Rattle.amoebot_state.proofs.Shows.{found_with}
use Rattle.amoebot_state.proofs.found.Found.of_parts.Goals as goal

pub invariant_of-result : goal.invariant_of-result
invariant_of-result c = found_with _ c.args.own c.args.ways c.requires.shown c.requires.own c.requires.known
