use Rattle.action_meaning.proofs.Decided.{program_steps_stay_connected, program_runs_stay_connected}
use Rattle.action_eval.proofs.laws.guarded_runs_stay_connected.Goals as goal

pub returns-clause-steps : goal.returns-clause-steps
returns-clause-steps c = λ old e new on valid step. program_steps_stay_connected c.args._runner.now old e new on valid step

pub returns-clause-runs : goal.returns-clause-runs
returns-clause-runs c = λ first es last on valid run. program_runs_stay_connected c.args._runner.now first es last on valid run
