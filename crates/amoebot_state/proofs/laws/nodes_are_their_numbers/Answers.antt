use Rattle.amoebot_state.proofs.Walls.{nodes_are_their_numbers}
use Rattle.amoebot_state.proofs.laws.nodes_are_their_numbers.Goals as goal

pub returns : goal.returns
returns c = nodes_are_their_numbers
