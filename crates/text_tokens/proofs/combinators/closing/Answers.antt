use Rattle.text_tokens.proofs.CombinatorLemmas as obeying
use Rattle.text_tokens.proofs.combinators.closing.Goals as goal

pub returns : goal.returns
returns g c = obeying.closing_law g.A.Part.is g.A.Part.reads
