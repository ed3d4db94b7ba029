use Rattle.rewind_log.proofs.Backs.{back_is_unique}
use Rattle.rewind_log.proofs.laws.back_is_unique.Goals as goal

pub returns : goal.returns
returns c = back_is_unique
