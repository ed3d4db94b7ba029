use Rattle.amoebot_state.proofs.Counts.{ten_ports_lead_to_eight_nodes}
use Rattle.amoebot_state.proofs.laws.ten_ports_lead_to_eight_nodes.Goals as goal

pub returns : goal.returns
returns c = ten_ports_lead_to_eight_nodes
