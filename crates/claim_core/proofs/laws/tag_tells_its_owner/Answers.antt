use Rattle.claim_core.proofs.Steady.{tag_tells_its_owner}
use Rattle.claim_core.proofs.laws.tag_tells_its_owner.Goals as goal

pub returns : goal.returns
returns c = tag_tells_its_owner
