use Rattle.std.proofs.Common.{sym, ◌∙◌}
use Rattle.text_tokens.specs.Cursor.{Spells}
use Rattle.text_tokens.proofs.InsideLemmas.{fits_small, answers, spells, answers_none, no_token}
use Rattle.text_tokens.proofs.tokens.Tokens.peek.Goals as goal

pub token_at-requires : goal.token_at-requires
token_at-requires c = fits_small c.self.inside c.self.invariant c.in-Ok.kind c.in-Ok.is

pub returns-in-Ok-clause-answer : goal.returns-in-Ok-clause-answer
returns-in-Ok-clause-answer c = rw (← c.self.view_is, c.token_at.ensures) (sym (answers c.self.inside c.self.invariant c.in-Ok.kind c.in-Ok.is))

pub returns-in-Ok-clause-spells : goal.returns-in-Ok-clause-spells
returns-in-Ok-clause-spells c = rw (← c.self.view_is, c.token_at.ensures) (spells c.self.inside c.self.invariant c.in-Ok.kind c.in-Ok.is)

pub returns-in-Err-clause-answer : goal.returns-in-Err-clause-answer
returns-in-Err-clause-answer c = rw (← c.self.view_is) (c.end_or.ensures ∙ sym (answers_none c.self.inside c.self.invariant c.in-Err.kind c.in-Err.is))

pub returns-in-Err-clause-spells : goal.returns-in-Err-clause-spells
returns-in-Err-clause-spells c = rw c.end_or.ensures (no_token (λ t. Spells c.args.self.now t) _ c.in-Err.kind)
