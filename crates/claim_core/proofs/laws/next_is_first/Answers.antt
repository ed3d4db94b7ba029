use Rattle.claim_core.proofs.Merging.{next_is_first, no_place_no_entry}
use Rattle.claim_core.proofs.laws.next_is_first.Goals as goal

pub returns-clause-first : goal.returns-clause-first
returns-clause-first c = next_is_first

pub returns-clause-end : goal.returns-clause-end
returns-clause-end c = no_place_no_entry
