use Rattle.run_sample.proofs.Some.{sample_is_some}
use Rattle.run_sample.proofs.laws.sample_is_some.Goals as goal

pub returns : goal.returns
returns c = sample_is_some
