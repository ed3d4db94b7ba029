use Rattle.std.proofs.Common.{◌≡◌, ◌∙◌, true, false, Some, None, sym}
use Rattle.std.specs.Prelude.{codes}
use Rattle.std.proofs.lemmas.Result.{err_from_is_err_and}
use Rattle.text_tokens.specs.Cursor.{Cursor, next_passes}
use Rattle.text_tokens.specs.Reading.{Reader, ◌>>=◌, pure, the_line}
use Rattle.amoebot_state.specs.declared.cell.Cell.{Cell}
use Rattle.amoebot_state.specs.declared.cell.Cell.TheVariants as cell
use Rattle.shape_text.specs.Parts.{word}
use Rattle.shape_text.specs.PartReaders.{means, a_number}
use Rattle.journal_text.specs.Readers.{an_occupant}
use Rattle.text_tokens.proofs.Rows.{Left, all_left, first_left, second_left, part_fails, made_left}
use Rattle.journal_text.proofs.journal.read_occupant.Goals as goal

abbrev no_occupant : Reader Cell
no_occupant = means (word (codes "empty")) (cell.Spot None)

abbrev some_occupant : Reader Cell
some_occupant = a_number >>= λ id. pure (cell.Spot (Some id))

module _ (here : Cursor) where
  at_empty : next_passes (word (codes "empty")) here.ahead ≡ true → Left an_occupant here no_occupant here
  unfolding an_occupant
  at_empty e = first_left (word (codes "empty")) no_occupant some_occupant (all_left an_occupant here) e

  at_number : next_passes (word (codes "empty")) here.ahead ≡ false → Left an_occupant here some_occupant here
  unfolding an_occupant
  at_number e = second_left (word (codes "empty")) no_occupant some_occupant (all_left an_occupant here) e

pub returns-in_err-read_word : goal.returns-in_err-read_word
returns-in_err-read_word c =
    let p = err_from_is_err_and c.from_residual.result c.from_residual.ensures.1 in
    let l = at_empty c.args.tokens.now (sym c.is_next.ensures ∙ c.if-is_next.true) in
    rw (p.1, p.2) (part_fails (the_line (word (codes "empty"))) (λ line. pure (cell.Spot None)) l c.in_err-read_word.field-0.0 c.read_word.new.tokens c.in_err-read_word.ensures.reads)

pub returns-in_err-number : goal.returns-in_err-number
returns-in_err-number c =
    let p = err_from_is_err_and c.from_residual-in_err-number.result c.from_residual-in_err-number.ensures.1 in
    let l = at_number c.args.tokens.now (sym c.is_next.ensures ∙ c.if-is_next.false) in
    rw (p.1, p.2) (part_fails a_number (λ id. pure (cell.Spot (Some id))) l c.in_err-number.field-0.0 c.number.new.tokens c.in_err-number.ensures.reads)

pub returns-in_ok-read_word : goal.returns-in_ok-read_word
returns-in_ok-read_word c = made_left (the_line (word (codes "empty"))) (λ line. cell.Spot None) (at_empty c.args.tokens.now (sym c.is_next.ensures ∙ c.if-is_next.true)) c.in_ok-read_word.field-0 c.read_word.new.tokens c.in_ok-read_word.ensures.reads

pub returns-in_ok-number : goal.returns-in_ok-number
returns-in_ok-number c = made_left a_number (λ id. cell.Spot (Some id)) (at_number c.args.tokens.now (sym c.is_next.ensures ∙ c.if-is_next.false)) c.in_ok-number.field-0 c.number.new.tokens c.in_ok-number.ensures.reads
