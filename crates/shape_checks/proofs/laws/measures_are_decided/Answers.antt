use Rattle.shape_checks.proofs.Decided.{measures_are_decided}
use Rattle.shape_checks.proofs.laws.measures_are_decided.Goals as goal

pub returns : goal.returns
returns c = measures_are_decided
