use Rattle.run_sample.proofs.Unique.{sample_is_unique}
use Rattle.run_sample.proofs.laws.sample_is_unique.Goals as goal

pub returns : goal.returns
returns c = sample_is_unique
