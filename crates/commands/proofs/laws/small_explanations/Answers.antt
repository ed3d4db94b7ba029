use Rattle.commands.proofs.ExplainExampleLemmas.{small_explanations}
use Rattle.commands.proofs.laws.small_explanations.Goals as goal

pub returns : goal.returns
returns c = small_explanations c.reached_is_good.ensures
