use Rattle.std.proofs.Common.{Bool, true, false, Err, sym, ◌∙◌}
use Rattle.std.proofs.lemmas.Result.{err_from_is_err_and}
use Rattle.text_tokens.specs.Reading.{◌>>=◌, pure}
use Rattle.text_tokens.proofs.StepsLemmas.{stays, gives_as, fails, on_made, is_first, is_second}
use Rattle.shape_files.specs.Frame.{is_word_of_section}
use Rattle.shape_files.specs.Documents.{Contents}
use Rattle.shape_files.specs.DocumentReaders.{body}
use Rattle.shape_files.specs.Views.{contents}
use Rattle.shape_files.specs.Straight.{optional_section}
use Rattle.shape_files.proofs.forms.may.Goals as goal

abbrev came : Contents → Bool × Contents
came r = (true, r)

pub returns-then-not-is_next : goal.returns-then-not-is_next
unfolding optional_section
returns-then-not-is_next c =
    let s = contents c.args.parts.now in
    (is_second (is_word_of_section c.args.section) (body c.args.section s >>= λ r. pure (came r)) (pure (false, s)) c.args.tokens.now.last c.args.tokens.now.ahead (sym c.is_next.ensures ∙ c.if-not-is_next.true), stays c.args.tokens.now)

pub returns-in_err-read_section : goal.returns-in_err-read_section
unfolding optional_section
returns-in_err-read_section c =
    let s = contents c.args.parts.now in
    let p = err_from_is_err_and c.from_residual.result c.from_residual.ensures.1 in
    let first = is_first (is_word_of_section c.args.section) (body c.args.section s >>= λ r. pure (came r)) (pure (false, s)) c.args.tokens.now.last c.args.tokens.now.ahead (sym c.is_next.ensures ∙ c.if-not-is_next.false) in
    rw (p.1, p.2) (gives_as (λ (b : Bool). (b, s)) (optional_section c.args.section s) (body c.args.section s >>= λ r. pure (came r)) c.args.tokens.now c.read_section.new.tokens (Err c.in_err-read_section.field-0.0) first
    (fails (body c.args.section s) (λ r. pure (came r)) c.in_err-read_section.field-0.0 c.args.tokens.now c.read_section.new.tokens c.in_err-read_section.ensures))

pub returns : goal.returns
unfolding optional_section
returns c =
    let s = contents c.args.parts.now in
    let first = is_first (is_word_of_section c.args.section) (body c.args.section s >>= λ r. pure (came r)) (pure (false, s)) c.args.tokens.now.last c.args.tokens.now.ahead (sym c.is_next.ensures ∙ c.if-not-is_next.false) in
    let m = on_made (body c.args.section s) came c.args.tokens.now c.read_section.new.tokens (contents c.read_section.new.parts) c.in_ok-read_section.ensures in
    (first ∙ m.0, m.1)
