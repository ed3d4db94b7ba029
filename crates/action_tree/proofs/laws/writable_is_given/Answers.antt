use Rattle.action_tree.proofs.MeasuredStatements.{program_passes}
use Rattle.action_tree.proofs.ProducedStatements.{program_from}
use Rattle.action_tree.proofs.laws.writable_is_given.Goals as goal

pub returns-clause-given : goal.returns-clause-given
returns-clause-given c = program_from

pub returns-clause-writable : goal.returns-clause-writable
returns-clause-writable c = program_passes
