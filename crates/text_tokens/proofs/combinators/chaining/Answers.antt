use Rattle.text_tokens.proofs.CombinatorLemmas as obeying
use Rattle.text_tokens.proofs.combinators.chaining.Goals as goal

pub returns : goal.returns
returns g c = λ step start whole. obeying.chained_law g.First.Part.is g.First.Part.reads g.A.PartBehind.is g.A.PartBehind.reads step start whole
