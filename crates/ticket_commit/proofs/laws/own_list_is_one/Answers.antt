use Rattle.ticket_commit.proofs.OwnLemmas.{own_list_is_one, small_own_is}
use Rattle.ticket_commit.proofs.laws.own_list_is_one.Goals as goal

-- src/laws.rt
pub returns-clause-one : goal.returns-clause-one
returns-clause-one g c = own_list_is_one g.D.Decider.verdict

pub returns-clause-example : goal.returns-clause-example
returns-clause-example g c = small_own_is g.D.Decider.verdict
