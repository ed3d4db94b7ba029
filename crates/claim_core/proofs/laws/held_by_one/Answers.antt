use Rattle.claim_core.proofs.Steady.{held_by_one}
use Rattle.claim_core.proofs.laws.held_by_one.Goals as goal

pub returns : goal.returns
returns c = held_by_one
