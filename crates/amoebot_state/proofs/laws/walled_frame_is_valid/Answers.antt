use Rattle.amoebot_state.proofs.Faults.{walled_frame_is_valid}
use Rattle.amoebot_state.proofs.laws.walled_frame_is_valid.Goals as goal

pub returns : goal.returns
returns c = walled_frame_is_valid
