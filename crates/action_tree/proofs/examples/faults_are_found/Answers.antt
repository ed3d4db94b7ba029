use Rattle.action_tree.proofs.ExamplesLemmas.{faults_are_found}
use Rattle.action_tree.proofs.examples.faults_are_found.Goals as goal

pub returns : goal.returns
returns c = faults_are_found
