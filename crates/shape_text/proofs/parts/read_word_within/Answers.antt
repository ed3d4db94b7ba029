use Rattle.std.proofs.Common.{sym, ◌∙◌}
use Rattle.std.proofs.lemmas.Result.{err_from_is_err_and}
use Rattle.text_tokens.specs.declared.refusal.RefusalKind.TheVariants.{TooMany}
use Rattle.text_tokens.specs.Text.{Lexeme}
use Rattle.text_tokens.proofs.StepsLemmas.{is_past, not_past}
use Rattle.text_tokens.proofs.TakenTokens.{token_missed, token_past, token_taken}
use Rattle.shape_text.specs.Parts.{word, past_most}
use Rattle.shape_text.proofs.parts.read_word_within.Goals as goal

pub returns-in_err-token-clause-reads : goal.returns-in_err-token-clause-reads
returns-in_err-token-clause-reads c =
    let p = err_from_is_err_and c.from_residual.result c.from_residual.ensures.1 in
    rw (p.1, p.2) (token_missed (word c.args.text.now) (past_most c.args.most c.args.before) (λ (t : Lexeme). t.line) c.args.tokens.now c.take.new.self c.in_err-token.field-0.0 (sym c.take.ensures.answer ∙ c.in_err-token.was) c.in_err-token.ensures.again)

pub returns-then-before-most-clause-reads : goal.returns-then-before-most-clause-reads
returns-then-before-most-clause-reads c =
    rw c.refused.ensures (token_past (word c.args.text.now) (past_most c.args.most c.args.before) (λ (t : Lexeme). t.line) c.args.tokens.now c.take.new.self c.in_ok-token.token (sym c.take.ensures.answer ∙ c.in_ok-token.was) c.in_ok-token.ensures.moves c.in_ok-token.ensures.spells TooMany
    (is_past c.args.before c.args.most c.if-before-most.true))

pub returns-clause-reads : goal.returns-clause-reads
returns-clause-reads c =
    token_taken (word c.args.text.now) (past_most c.args.most c.args.before) (λ (t : Lexeme). t.line) c.args.tokens.now c.take.new.self c.in_ok-token.token (sym c.take.ensures.answer ∙ c.in_ok-token.was) c.in_ok-token.ensures.moves c.in_ok-token.ensures.spells
    (not_past c.args.before c.args.most c.if-before-most.false)
