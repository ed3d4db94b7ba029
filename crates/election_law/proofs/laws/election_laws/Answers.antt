use Rattle.election_law.proofs.LeaderLemmas.{leader_is_elected}
use Rattle.election_law.proofs.TreesDecided.{erosion_or_not}
use Rattle.election_law.proofs.laws.election_laws.Goals as goal

pub returns-clause-leader : goal.returns-clause-leader
returns-clause-leader c = leader_is_elected

pub returns-clause-decided : goal.returns-clause-decided
returns-clause-decided c = erosion_or_not
