use Rattle.model_ops.proofs.SameDiff.{reached_diff_is_exact, reached_leads_also}
use Rattle.model_ops.proofs.laws.reached_differs_exactly.Goals as goal

pub returns : goal.returns
returns c = record { exact = reached_diff_is_exact; everywhere = reached_leads_also }
