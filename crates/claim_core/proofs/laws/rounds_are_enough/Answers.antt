use Rattle.claim_core.proofs.Ranks.{rounds_are_enough}
use Rattle.claim_core.proofs.laws.rounds_are_enough.Goals as goal

pub returns : goal.returns
returns c = rounds_are_enough
