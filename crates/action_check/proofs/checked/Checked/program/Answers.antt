use Rattle.action_check.proofs.Whole.{program_kept}
use Rattle.action_check.proofs.checked.Checked.program.Goals as goal

pub returns-clause-kept : goal.returns-clause-kept
returns-clause-kept c = rw (← c.self.view_is) (program_kept _ c.self.invariant.0 c.self.invariant.1)
