use Rattle.text_tokens.proofs.CombinatorLemmas as obeying
use Rattle.text_tokens.proofs.combinators.nesting.Goals as goal

pub returns : goal.returns
returns g c = obeying.levels_law g.Kind.Recursive.is g.Kind.Recursive.level
