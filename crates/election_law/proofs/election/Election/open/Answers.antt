use Rattle.election_law.proofs.Elected.{ready_is_election}
use Rattle.election_law.proofs.election.Election.open.Goals as goal

pub invariant_of-result : goal.invariant_of-result
invariant_of-result c = (c.requires.program, ready_is_election c.args.start c.keeps.ensures.valid c.in_ok-check_start.ensures.ready)
