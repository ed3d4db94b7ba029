use Rattle.std.proofs.lemmas.Result.{err_from_is_err_and}
use Rattle.text_tokens.specs.Cursor.{is_the}
use Rattle.text_tokens.specs.Reading.{one, pure, the_line}
use Rattle.text_tokens.specs.Steps.{lexeme_of}
use Rattle.text_tokens.proofs.StepsLemmas.{fails, on_made}
use Rattle.text_tokens.proofs.terminals.the_line.Goals as goal

pub returns-in_err-this_token-clause-reads : goal.returns-in_err-this_token-clause-reads
unfolding the_line
returns-in_err-this_token-clause-reads c =
    let p = err_from_is_err_and c.from_residual.result c.from_residual.ensures.1 in
    rw (p.1, p.2) (fails (one (is_the c.args.kind c.args.text.now)) (λ t. pure t.line) c.in_err-this_token.field-0.0 c.args.tokens.now c.this_token.new.tokens c.in_err-this_token.ensures.reads)

pub returns-clause-reads : goal.returns-clause-reads
unfolding the_line
returns-clause-reads c = on_made (one (is_the c.args.kind c.args.text.now)) (λ t. t.line) c.args.tokens.now c.this_token.new.tokens (lexeme_of c.args.tokens.now.source c.in_ok-this_token.field-0) c.in_ok-this_token.ensures.reads
