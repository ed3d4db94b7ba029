use Rattle.run_sample.proofs.Unique.{first_empty_is_unique}
use Rattle.run_sample.proofs.laws.first_empty_is_unique.Goals as goal

pub returns : goal.returns
returns c = first_empty_is_unique
