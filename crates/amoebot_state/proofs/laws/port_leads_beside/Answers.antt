use Rattle.amoebot_state.proofs.Directions.{port_leads_beside}
use Rattle.amoebot_state.proofs.laws.port_leads_beside.Goals as goal

pub returns : goal.returns
returns c = port_leads_beside
