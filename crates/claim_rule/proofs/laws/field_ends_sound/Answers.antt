use Rattle.claim_rule.proofs.Leaves.{field_ends_sound, field_ends_right}
use Rattle.claim_rule.proofs.laws.field_ends_sound.Goals as goal

pub returns-clause-so_far : goal.returns-clause-so_far
returns-clause-so_far g c = λ way. field_ends_sound way g.D.Decider.verdict

pub returns-clause-right : goal.returns-clause-right
returns-clause-right g c = λ way. field_ends_right way g.D.Decider.verdict
