use Rattle.claim_core.proofs.Sounds.{always}
use Rattle.claim_core.proofs.laws.is_always_sound.Goals as goal

pub returns : goal.returns
returns c = always
