use Rattle.amoebot_state.proofs.Counts.{expanded_has_ten_ports}
use Rattle.amoebot_state.proofs.laws.expanded_has_ten_ports.Goals as goal

pub returns : goal.returns
returns c = expanded_has_ten_ports
