use Rattle.action_meaning.proofs.Decided.{program_steps_stay_connected}
use Rattle.action_meaning.proofs.laws.program_runs_stay_connected.Goals as goal

-- src/laws.rt:21:1
pub returns-clause-steps : goal.returns-clause-steps
returns-clause-steps c = program_steps_stay_connected
