use Rattle.rewind_log.proofs.Unwound.{runs_are_undone}
use Rattle.rewind_log.proofs.laws.unwinding_undoes_runs.Goals as goal

pub returns : goal.returns
returns c = runs_are_undone
