use Rattle.text_tokens.proofs.CombinatorLemmas as obeying
use Rattle.text_tokens.proofs.combinators.choice_by_role.Goals as goal

pub returns : goal.returns
returns g c = obeying.role_law g.A.PartBy.is g.A.PartBy.reads g.A.Part.is
