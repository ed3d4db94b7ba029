use Rattle.amoebot_state.proofs.Once.{zone_lists_each_cell_once}
use Rattle.amoebot_state.proofs.laws.zone_lists_each_cell_once.Goals as goal

pub returns : goal.returns
returns c = zone_lists_each_cell_once
