use Rattle.text_tokens.proofs.PromisesLemmas as tokenizing
use Rattle.text_tokens.proofs.laws.tokens_are_one.Goals as goal

pub returns : goal.returns
returns c = tokenizing.one_reading
