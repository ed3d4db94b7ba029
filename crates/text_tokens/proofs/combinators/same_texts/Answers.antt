use Rattle.text_tokens.proofs.CombinatorLemmas as obeying
use Rattle.text_tokens.proofs.combinators.same_texts.Goals as goal

pub returns : goal.returns
returns g c = obeying.same_law g.A.Part.is g.A.Part.reads g.A.OtherPart.is
