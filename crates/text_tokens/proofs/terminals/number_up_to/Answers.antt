use Rattle.std.proofs.Common.{sym, ◌∙◌}
use Rattle.std.proofs.lemmas.Result.{err_from_is_err_and}
use Rattle.text_tokens.specs.Reading.{too_large}
use Rattle.text_tokens.specs.Steps.{lexeme_of}
use Rattle.text_tokens.proofs.StepsLemmas.{larger, not_larger}
use Rattle.text_tokens.proofs.TakenTokens.{number_missed, number_past, number_taken}
use Rattle.text_tokens.proofs.terminals.number_up_to.Goals as goal

pub returns-in_err-found-clause-reads : goal.returns-in_err-found-clause-reads
returns-in_err-found-clause-reads c =
    let p = err_from_is_err_and c.from_residual.result c.from_residual.ensures.1 in
    rw (p.1, p.2) (number_missed (too_large c.args.most c.args.kind) c.args.tokens.now c.take_kind.new.self c.in_err-found.field-0.0 (sym c.take_kind.ensures.answer ∙ c.in_err-found.was) c.in_err-found.ensures.again)

pub returns-then-value-most-clause-reads : goal.returns-then-value-most-clause-reads
returns-then-value-most-clause-reads c =
    let over = too_large c.args.most c.args.kind in
    let now = c.args.tokens.now in
    let new = c.take_kind.new.self in
    let t = c.in_ok-found.found in
    let answer = sym c.take_kind.ensures.answer ∙ c.in_ok-found.was in
    let v = c.value-value.ensures.value t answer in
    rw c.refused.ensures (number_past over now new t answer c.in_ok-found.ensures.moves c.in_ok-found.ensures.spells c.args.kind (larger c.args.most c.args.kind (lexeme_of now.source t) (rw (← v) c.if-value-most.true)))

pub returns-clause-reads : goal.returns-clause-reads
returns-clause-reads c =
    let over = too_large c.args.most c.args.kind in
    let now = c.args.tokens.now in
    let new = c.take_kind.new.self in
    let t = c.in_ok-found.found in
    let answer = sym c.take_kind.ensures.answer ∙ c.in_ok-found.was in
    let v = c.value-value.ensures.value t answer in
    number_taken over now new t answer c.in_ok-found.ensures.moves c.in_ok-found.ensures.spells c.value-value.result v (not_larger c.args.most c.args.kind (lexeme_of now.source t) (rw (← v) c.if-value-most.false))
