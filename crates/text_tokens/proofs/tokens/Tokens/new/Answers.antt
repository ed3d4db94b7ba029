use Rattle.std.proofs.Common.{sym, subst, refl}
use Rattle.text_tokens.specs.Cursor.{Cursor, IsAtFront}
use Rattle.text_tokens.proofs.PromisesLemmas.{tokens_of_text}
use Rattle.text_tokens.proofs.tokens.Tokens.new.Goals as goal

pub returns : goal.returns
returns c = subst (λ (v : Cursor). IsAtFront c.args.bytes.now v) (sym c.at_next.ensures) (record { source = refl; tokens = tokens_of_text c.args.bytes.now })
