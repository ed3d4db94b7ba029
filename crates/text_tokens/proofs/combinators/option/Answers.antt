use Rattle.text_tokens.proofs.CombinatorLemmas as obeying
use Rattle.text_tokens.proofs.combinators.option.Goals as goal

pub returns : goal.returns
returns g c = obeying.option_law g.A.Part.is g.A.Part.reads
