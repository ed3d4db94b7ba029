use Rattle.action_tree.proofs.ProgramLaws.{exact_program}
use Rattle.action_tree.proofs.grammar_laws.program_is_exact.Goals as goal

pub returns : goal.returns
returns c = exact_program
