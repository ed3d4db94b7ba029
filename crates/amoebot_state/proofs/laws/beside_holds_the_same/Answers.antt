use Rattle.amoebot_state.proofs.Shows.{beside_holds_the_same}
use Rattle.amoebot_state.proofs.laws.beside_holds_the_same.Goals as goal

pub returns : goal.returns
returns c = beside_holds_the_same
