use Rattle.amoebot_state.proofs.Patched.{patch_lists_what_differs}
use Rattle.amoebot_state.proofs.laws.patch_lists_what_differs.Goals as goal

pub returns : goal.returns
returns c = patch_lists_what_differs
