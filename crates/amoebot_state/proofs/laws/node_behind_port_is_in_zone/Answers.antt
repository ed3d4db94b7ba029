use Rattle.amoebot_state.proofs.BehindPorts.{node_behind_port_is_in_zone}
use Rattle.amoebot_state.proofs.laws.node_behind_port_is_in_zone.Goals as goal

pub returns : goal.returns
returns c = node_behind_port_is_in_zone
