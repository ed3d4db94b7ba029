use Rattle.action_meaning.proofs.Decided.{guarded_programs_decide_guarded}
use Rattle.action_meaning.proofs.laws.changes_are_acts.Goals as goal

-- src/laws.rt:12:1
pub returns-clause-guarded : goal.returns-clause-guarded
returns-clause-guarded c = guarded_programs_decide_guarded
