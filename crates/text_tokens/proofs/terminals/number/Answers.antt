use Rattle.std.proofs.Common.{refl, sym, ◌∙◌}
use Rattle.std.proofs.lemmas.Result.{err_from_is_err_and}
use Rattle.text_tokens.specs.Reading.{no_limit}
use Rattle.text_tokens.proofs.TakenTokens.{number_missed, number_taken}
use Rattle.text_tokens.proofs.terminals.number.Goals as goal

pub returns-in_err-take_kind-clause-reads : goal.returns-in_err-take_kind-clause-reads
returns-in_err-take_kind-clause-reads c =
    let p = err_from_is_err_and c.from_residual.result c.from_residual.ensures.1 in
    rw (p.1, p.2) (number_missed no_limit c.args.tokens.now c.take_kind.new.self c.in_err-take_kind.field-0.0 (sym c.take_kind.ensures.answer ∙ c.in_err-take_kind.was) c.in_err-take_kind.ensures.again)

pub returns-clause-reads : goal.returns-clause-reads
returns-clause-reads c =
    let now = c.args.tokens.now in
    let new = c.take_kind.new.self in
    let t = c.in_ok-take_kind.field-0 in
    let answer = sym c.take_kind.ensures.answer ∙ c.in_ok-take_kind.was in
    number_taken no_limit now new t answer c.in_ok-take_kind.ensures.moves c.in_ok-take_kind.ensures.spells c.value-number.result (c.value-number.ensures.value t answer) refl
