use Rattle.rewind_log.proofs.Unwound.{runs_keep_frame}
use Rattle.rewind_log.proofs.laws.runs_keep_frame.Goals as goal

pub returns : goal.returns
returns c = runs_keep_frame
