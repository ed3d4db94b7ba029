use Rattle.action_tree.proofs.ExamplesLemmas.{samples_are_read, trees_are_read}
use Rattle.action_tree.proofs.examples.samples_are_read.Goals as goal

pub returns-clause-samples : goal.returns-clause-samples
returns-clause-samples c = samples_are_read

pub returns-clause-trees : goal.returns-clause-trees
returns-clause-trees c = trees_are_read
