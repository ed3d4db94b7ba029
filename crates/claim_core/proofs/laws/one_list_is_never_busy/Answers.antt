use Rattle.claim_core.proofs.OneList.{never_busy}
use Rattle.claim_core.proofs.laws.one_list_is_never_busy.Goals as goal

pub returns : goal.returns
returns c = never_busy
