use Rattle.election_law.proofs.StartLemmas.{first_unready_is_unique, ready_has_none, ready_or_unready}
use Rattle.election_law.proofs.laws.start_laws.Goals as goal

pub returns : goal.returns
returns c = record { unique = first_unready_is_unique; ready = ready_has_none; decided = ready_or_unready }
