use Rattle.text_tokens.proofs.CombinatorLemmas as obeying
use Rattle.text_tokens.proofs.combinators.stopping.Goals as goal

pub returns : goal.returns
returns g c = obeying.stopping_law g.A.Part.is
