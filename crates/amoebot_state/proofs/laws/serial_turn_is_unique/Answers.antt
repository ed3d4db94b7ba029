use Rattle.amoebot_state.proofs.SerialTurns.{serial_turn_is_unique}
use Rattle.amoebot_state.proofs.laws.serial_turn_is_unique.Goals as goal

pub returns : goal.returns
returns c = serial_turn_is_unique
