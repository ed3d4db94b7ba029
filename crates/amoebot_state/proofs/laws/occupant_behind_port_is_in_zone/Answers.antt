use Rattle.amoebot_state.proofs.BehindPorts.{occupant_behind_port_is_in_zone}
use Rattle.amoebot_state.proofs.laws.occupant_behind_port_is_in_zone.Goals as goal

pub returns : goal.returns
returns c = occupant_behind_port_is_in_zone
