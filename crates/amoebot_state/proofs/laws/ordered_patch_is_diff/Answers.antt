use Rattle.amoebot_state.proofs.OldValues.{ordered_patch_is_diff}
use Rattle.amoebot_state.proofs.laws.ordered_patch_is_diff.Goals as goal

pub returns : goal.returns
returns c = ordered_patch_is_diff
