use Rattle.std.proofs.Common.{refl}
use Rattle.text_tokens.proofs.PromisesLemmas.{tokens_of_text}
use Rattle.text_tokens.proofs.laws.tokens_are_cut.Goals as goal

pub returns : goal.returns
returns c = λ source. record { source = refl; tokens = tokens_of_text source }
