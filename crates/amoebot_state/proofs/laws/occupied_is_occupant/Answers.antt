use Rattle.amoebot_state.proofs.Occupied.{occupied_is_occupant}
use Rattle.amoebot_state.proofs.laws.occupied_is_occupant.Goals as goal

pub returns : goal.returns
returns c = occupied_is_occupant
