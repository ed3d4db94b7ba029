use Rattle.claim_core.proofs.Steady.{ended_stays}
use Rattle.claim_core.proofs.laws.ended_stays.Goals as goal

pub returns : goal.returns
returns c = ended_stays
