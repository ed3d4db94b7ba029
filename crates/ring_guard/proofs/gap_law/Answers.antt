use Rattle.ring_guard.proofs.Gaps.{gap_splits}
use Rattle.ring_guard.proofs.gap_law.Goals as goal

pub returns : goal.returns
returns c = gap_splits
