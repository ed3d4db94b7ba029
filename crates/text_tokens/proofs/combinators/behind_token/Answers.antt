use Rattle.text_tokens.proofs.CombinatorLemmas as obeying
use Rattle.text_tokens.proofs.combinators.behind_token.Goals as goal

pub returns : goal.returns
returns g c = λ s. obeying.behind_token_law (λ t. g.A.PartBehind.is t s) (λ t. g.A.PartBehind.reads t s)
