use Rattle.action_tree.proofs.ExamplesLemmas.{limits_are_kept}
use Rattle.action_tree.proofs.examples.limits_are_kept.Goals as goal

pub returns : goal.returns
returns c = limits_are_kept
