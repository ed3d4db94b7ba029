use Rattle.text_tokens.proofs.CombinatorLemmas as obeying
use Rattle.text_tokens.proofs.combinators.as_often.Goals as goal

pub returns : goal.returns
returns g c = obeying.times_law g.A.Part.is g.A.Part.reads
