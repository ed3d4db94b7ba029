use Rattle.commands.proofs.Outcomes.{documents_have_outcomes}
use Rattle.commands.proofs.laws.documents_have_outcomes.Goals as goal

pub returns : goal.returns
returns c = documents_have_outcomes c.least_versions_are_kept.ensures.decided
