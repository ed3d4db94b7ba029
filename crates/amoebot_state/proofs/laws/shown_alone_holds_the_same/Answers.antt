use Rattle.amoebot_state.proofs.ShownAlone.{shown_alone_holds_the_same}
use Rattle.amoebot_state.proofs.laws.shown_alone_holds_the_same.Goals as goal

pub returns : goal.returns
returns c = shown_alone_holds_the_same
