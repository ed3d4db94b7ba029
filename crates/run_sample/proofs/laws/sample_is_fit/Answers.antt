use Rattle.run_sample.proofs.Fit.{sample_is_fit}
use Rattle.run_sample.proofs.laws.sample_is_fit.Goals as goal

pub returns : goal.returns
returns c = sample_is_fit
