use Rattle.amoebot_state.proofs.Shows.{beside_has_the_same_walls}
use Rattle.amoebot_state.proofs.laws.beside_has_the_same_walls.Goals as goal

pub returns : goal.returns
returns c = beside_has_the_same_walls
