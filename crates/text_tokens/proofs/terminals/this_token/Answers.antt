use Rattle.std.proofs.Common.{refl, sym, ◌∙◌}
use Rattle.std.proofs.lemmas.Result.{err_from_is_err_and}
use Rattle.text_tokens.specs.Cursor.{is_the}
use Rattle.text_tokens.specs.Reading.{no_limit}
use Rattle.text_tokens.proofs.StepsLemmas.{took, missed}
use Rattle.text_tokens.proofs.terminals.this_token.Goals as goal

pub returns-in_err-take-clause-reads : goal.returns-in_err-take-clause-reads
returns-in_err-take-clause-reads c =
    let p = err_from_is_err_and c.from_residual.result c.from_residual.ensures.1 in
    rw (p.1, p.2) (missed (is_the c.args.kind c.args.text.now) no_limit c.args.tokens.now c.take.new.self c.in_err-take.field-0.0 (sym c.take.ensures.answer ∙ c.in_err-take.was) c.in_err-take.ensures.again)

pub returns-clause-reads : goal.returns-clause-reads
returns-clause-reads c = took (is_the c.args.kind c.args.text.now) no_limit c.args.tokens.now c.take.new.self c.in_ok-take.field-0 (sym c.take.ensures.answer ∙ c.in_ok-take.was) c.in_ok-take.ensures.moves c.in_ok-take.ensures.spells refl
