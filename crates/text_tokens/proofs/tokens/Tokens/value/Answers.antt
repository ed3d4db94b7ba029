use Rattle.text_tokens.proofs.InsideLemmas.{value_shown}
use Rattle.text_tokens.proofs.tokens.Tokens.value.Goals as goal

pub returns-clause-value : goal.returns-clause-value
returns-clause-value c = rw (← c.self.view_is) (value_shown c.self.inside c.self.invariant)

pub returns-clause-small : goal.returns-clause-small
returns-clause-small c = c.self.invariant.stands.small
