use Rattle.action_check.proofs.Following.{faults_follow_text, faults_of_text_never_fall}
use Rattle.action_check.proofs.laws.faults_follow_text.Goals as goal

pub returns-clause-program : goal.returns-clause-program
returns-clause-program c = faults_follow_text

pub returns-clause-text : goal.returns-clause-text
returns-clause-text c = faults_of_text_never_fall
