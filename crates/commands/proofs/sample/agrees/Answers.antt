use Rattle.std.proofs.Common.{◌∙◌}
use Rattle.std.proofs.lemmas.Bool.{false≢true}
use Rattle.commands.proofs.SampleTexts.{excluded}
use Rattle.commands.proofs.sample.agrees.Goals as goal

pub returns-in-Err : goal.returns-in-Err
returns-in-Err g c = ((λ e. absurd (false≢true e)), (λ agrees. absurd (excluded c.replay_is_decided.ensures _ _ _ _ _ _ _ (c.in_ok-first.ensures ∙ c.first.ensures) c.entries.ensures c.in-Err.ensures.differs agrees)))
