use Rattle.amoebot_state.proofs.Counts.{contracted_has_six_ports}
use Rattle.amoebot_state.proofs.laws.contracted_has_six_ports.Goals as goal

pub returns : goal.returns
returns c = contracted_has_six_ports
