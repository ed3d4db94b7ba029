use Rattle.std.proofs.Common.{sym, ◌∙◌}
use Rattle.std.proofs.lemmas.Result.{err_from_is_err_and}
use Rattle.text_tokens.specs.declared.refusal.RefusalKind.TheVariants.{BadRange}
use Rattle.text_tokens.specs.Steps.{lexeme_of}
use Rattle.text_tokens.proofs.TakenTokens.{number_missed, number_past, value_is, number_taken}
use Rattle.shape_text.specs.Parts.{outside}
use Rattle.shape_text.proofs.Outside.{outlying, inside}
use Rattle.shape_text.specs.Readers.{a_side}
use Rattle.shape_text.proofs.shape.read_side.Goals as goal

pub returns-in_err-token-clause-reads : goal.returns-in_err-token-clause-reads
unfolding a_side
returns-in_err-token-clause-reads c =
    let p = err_from_is_err_and c.from_residual.result c.from_residual.ensures.1 in
    rw (p.1, p.2) (number_missed (outside 1 128) c.args.tokens.now c.take_kind.new.self c.in_err-token.field-0.0 (sym c.take_kind.ensures.answer ∙ c.in_err-token.was) c.in_err-token.ensures.again)

pub returns-then-side-lt1-clause-reads : goal.returns-then-side-lt1-clause-reads
unfolding a_side
returns-then-side-lt1-clause-reads c =
    let over = outside 1 128 in
    let now = c.args.tokens.now in
    let new = c.take_kind.new.self in
    let t = c.in_ok-token.token in
    let answer = sym c.take_kind.ensures.answer ∙ c.in_ok-token.was in
    let v = value_is over now new t answer c.in_ok-token.ensures.moves c.in_ok-token.ensures.spells c.number-side.result c.number-side.ensures.value in
    rw c.refused.ensures (number_past over now new t answer c.in_ok-token.ensures.moves c.in_ok-token.ensures.spells BadRange (outlying 1 128 (lexeme_of now.source t) (rw (← v) c.then-side-lt1.either)))

pub returns-clause-reads : goal.returns-clause-reads
unfolding a_side
returns-clause-reads c =
    let over = outside 1 128 in
    let now = c.args.tokens.now in
    let new = c.take_kind.new.self in
    let t = c.in_ok-token.token in
    let answer = sym c.take_kind.ensures.answer ∙ c.in_ok-token.was in
    let v = value_is over now new t answer c.in_ok-token.ensures.moves c.in_ok-token.ensures.spells c.number-side.result c.number-side.ensures.value in
    number_taken over now new t answer c.in_ok-token.ensures.moves c.in_ok-token.ensures.spells c.number-side.result v (inside 1 128 (lexeme_of now.source t) (rw (← v) c.if-side-lt1.false) (rw (← v) c.if-side-gt-LONGEST_SIDE.false))
