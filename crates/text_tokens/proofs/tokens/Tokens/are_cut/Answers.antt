use Rattle.text_tokens.specs.Inside.{input_of}
use Rattle.text_tokens.proofs.PromisesLemmas.{ahead_cut}
use Rattle.text_tokens.proofs.tokens.Tokens.are_cut.Goals as goal

pub returns : goal.returns
returns c = rw (← c.self.view_is) (ahead_cut (input_of c.self.inside))
