use Rattle.claim_core.proofs.Unfolding.{tickets_are_sound}
use Rattle.claim_core.proofs.laws.tickets_are_sound.Goals as goal

pub returns : goal.returns
returns g = tickets_are_sound
