use Rattle.amoebot_state.proofs.ShownAlone.{shown_has_the_walls}
use Rattle.amoebot_state.proofs.laws.shown_has_the_walls.Goals as goal

pub returns : goal.returns
returns c = shown_has_the_walls
