use Rattle.amoebot_state.proofs.Directions.{global_and_local_are_inverse}
use Rattle.amoebot_state.proofs.laws.global_and_local_are_inverse.Goals as goal

pub returns : goal.returns
returns c = global_and_local_are_inverse
