use Rattle.amoebot_state.proofs.Known.{shown_holds_values}
use Rattle.amoebot_state.proofs.laws.shown_holds_values.Goals as goal

pub returns : goal.returns
returns c = shown_holds_values
