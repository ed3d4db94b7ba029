use Rattle.action_check.proofs.Lineless.{faults_ignore_lines, rules_ignore_lines}
use Rattle.action_check.proofs.laws.faults_ignore_lines.Goals as goal

pub returns-clause-faults : goal.returns-clause-faults
returns-clause-faults c = faults_ignore_lines

pub returns-clause-rules : goal.returns-clause-rules
returns-clause-rules c = rules_ignore_lines
