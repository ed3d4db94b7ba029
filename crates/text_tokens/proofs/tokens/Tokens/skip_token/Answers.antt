use Rattle.std.proofs.Common.{◌<◌, ◌+◌, List, ℕ, length, sym, ◌∙◌, ap, subst, arith}
use Rattle.std.proofs.lemmas.List.{take_rest}
use Rattle.std.specs.List.{prefix_len}
use Rattle.text_tokens.specs.declared.token.TokenKind.TheVariants.{Number}
use Rattle.text_tokens.specs.Text.{is_digit}
use Rattle.text_tokens.specs.Scan.{sized}
use Rattle.text_tokens.specs.Cursor.{Cursor, at_place, past_token}
use Rattle.text_tokens.specs.Inside.{HasItsNumber}
use Rattle.text_tokens.proofs.InsideLemmas.{at_skipped, blank_skipped, fits_small, is_ready, number_behind, passes, stays, within}
use Rattle.text_tokens.proofs.tokens.Tokens.skip_token.Goals as goal

pub overflow_add-at : goal.overflow_add-at
overflow_add-at c = let s = fits_small c.self.inside c.self.invariant c.in-Ok._kind c.in-Ok.is in omega arith

pub has_number_behind_blank-requires : goal.has_number_behind_blank-requires
has_number_behind_blank-requires c = fits_small c.self.inside c.self.invariant c.in-Ok._kind c.in-Ok.is

pub invariant_of-self : goal.invariant_of-self
invariant_of-self c =
    let at : ℕ = c.self.inside.at + c.self.inside.front.len in
    let source : List ℕ = c.self.inside.source.now in
    let has = c.has_number_behind_blank.ensures in
    let is = c.if-has_number_behind_blank.true in
    let lt : at + 1 < length source = has.within is in
    let line_small = c.self.invariant.line in
    record {
      skipped = is_ready source at c.self.inside.line 1 c.self.inside.line (blank_skipped source at c.self.inside.line lt (has.blank is) (has.digit is));
      front = c.leading_number-self-inside.ensures.is ∙ ap (λ (bytes : List ℕ). sized Number (prefix_len is_digit bytes)) (take_rest source (at + 1)) ∙ sym (number_behind source at c.self.inside.line lt (has.blank is) (has.digit is));
      stands = subst (λ (bytes : List ℕ). HasItsNumber bytes c.leading_number-self-inside.result) (take_rest source (at + 1)) c.leading_number-self-inside.ensures.stands;
      within = omega arith;
      line = omega arith;
      small = c.self.invariant.small;
    }

pub move_to-requires-clause-within : goal.move_to-requires-clause-within
move_to-requires-clause-within c = rw (← c.self.view_is) (within c.self.inside c.self.invariant c.in-Ok._kind c.in-Ok.is)

pub move_to-requires-clause-line : goal.move_to-requires-clause-line
move_to-requires-clause-line c = let line = c.self.invariant.line in omega arith

pub returns-then-has_number_behind_blank : goal.returns-then-has_number_behind_blank
returns-then-has_number_behind_blank c =
    let has = c.has_number_behind_blank.ensures in
    let is = c.if-has_number_behind_blank.true in
    let at : ℕ = c.self.inside.at + c.self.inside.front.len in
    sym (at_skipped c.self.inside.source.now at c.self.inside.line 1 c.self.inside.line (blank_skipped c.self.inside.source.now at c.self.inside.line (has.within is) (has.blank is) (has.digit is)))
    ∙ passes c.self.inside c.self.invariant c.in-Ok._kind c.in-Ok.is ∙ ap past_token c.self.view_is

pub returns-else-has_number_behind_blank : goal.returns-else-has_number_behind_blank
returns-else-has_number_behind_blank c =
    c.move_to.ensures
    ∙ ap (λ (v : Cursor). at_place v.source (c.self.inside.at + c.self.inside.front.len) c.self.inside.line) (sym c.self.view_is)
    ∙ passes c.self.inside c.self.invariant c.in-Ok._kind c.in-Ok.is ∙ ap past_token c.self.view_is

pub returns-in_default : goal.returns-in_default
returns-in_default c = rw (← c.self.view_is) (stays c.self.inside c.self.invariant c.in_default.field-0 c.in_default.is)
