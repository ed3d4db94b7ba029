use Rattle.amoebot_state.proofs.Patched.{patched_is_unique}
use Rattle.amoebot_state.proofs.laws.patched_is_unique.Goals as goal

pub returns : goal.returns
returns c = patched_is_unique
