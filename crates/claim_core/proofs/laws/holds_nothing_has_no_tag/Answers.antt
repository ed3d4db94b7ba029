use Rattle.claim_core.proofs.Steady.{holds_nothing_has_no_tag}
use Rattle.claim_core.proofs.laws.holds_nothing_has_no_tag.Goals as goal

pub returns : goal.returns
returns c = holds_nothing_has_no_tag
