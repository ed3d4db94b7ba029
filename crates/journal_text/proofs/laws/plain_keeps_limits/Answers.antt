use Rattle.journal_text.proofs.KeptLimits.{plain_keeps_limits}
use Rattle.journal_text.proofs.laws.plain_keeps_limits.Goals as goal

pub returns : goal.returns
returns c = plain_keeps_limits
