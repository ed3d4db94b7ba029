use Rattle.rewind_log.proofs.Unwound.{unwound_is_some}
use Rattle.rewind_log.proofs.laws.unwound_is_some.Goals as goal

pub returns : goal.returns
returns c = unwound_is_some
