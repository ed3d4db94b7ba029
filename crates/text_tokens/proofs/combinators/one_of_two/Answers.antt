use Rattle.text_tokens.proofs.CombinatorLemmas as obeying
use Rattle.text_tokens.proofs.combinators.one_of_two.Goals as goal

pub returns : goal.returns
returns g c = obeying.either_law g.A.Part.is g.A.Part.reads g.A.OtherPart.is g.A.OtherPart.reads
