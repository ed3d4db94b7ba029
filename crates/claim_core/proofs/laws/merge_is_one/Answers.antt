use Rattle.claim_core.proofs.Merging.{merge_is_one, small_merge_is_one}
use Rattle.claim_core.proofs.laws.merge_is_one.Goals as goal

pub returns-clause-one : goal.returns-clause-one
returns-clause-one c = merge_is_one

pub returns-clause-example : goal.returns-clause-example
returns-clause-example c = small_merge_is_one
