use Rattle.amoebot_state.proofs.Counts.{six_ports_lead_to_six_nodes}
use Rattle.amoebot_state.proofs.laws.six_ports_lead_to_six_nodes.Goals as goal

pub returns : goal.returns
returns c = six_ports_lead_to_six_nodes
