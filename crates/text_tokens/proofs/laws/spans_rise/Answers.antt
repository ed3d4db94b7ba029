use Rattle.text_tokens.proofs.PromisesLemmas as tokenizing
use Rattle.text_tokens.proofs.laws.spans_rise.Goals as goal

pub returns : goal.returns
returns c = tokenizing.spans_rise
