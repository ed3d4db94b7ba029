use Rattle.std.proofs.Common.{Some, codes}
use Rattle.std.proofs.lemmas.Result.{err_from_is_err_and}
use Rattle.amoebot_state.specs.declared.cell.Cell.TheVariants as cell
use Rattle.shape_text.specs.PartReaders.{a_word}
use Rattle.journal_text.specs.Readers.{an_occupant}
use Rattle.text_tokens.specs.Reading.{pure}
use Rattle.text_tokens.proofs.Rows.{past_part, part_fails, made_left}
use Rattle.journal_text.proofs.OldValues.{behind_old, with_old_value, without_old_value}
use Rattle.journal_text.proofs.journal.read_old_occupant.Goals as goal

pub returns-then-not-old : goal.returns-then-not-old
returns-then-not-old c = without_old_value an_occupant c.args.tokens.now c.args.old c.if-not-old.true

pub returns-in_err-occupant : goal.returns-in_err-occupant
returns-in_err-occupant c =
    let p = err_from_is_err_and c.from_residual.result c.from_residual.ensures.1 in
    let l = with_old_value an_occupant c.args.tokens.now c.args.old c.if-not-old.false in
    rw (p.1, p.2) (part_fails an_occupant behind_old l c.in_err-occupant.field-0.0 c.read_occupant.new.tokens c.in_err-occupant.ensures)

pub returns-in_err-read_word : goal.returns-in_err-read_word
returns-in_err-read_word c =
    let p = err_from_is_err_and c.from_residual-in_err-read_word.result c.from_residual-in_err-read_word.ensures.1 in
    let l = with_old_value an_occupant c.args.tokens.now c.args.old c.if-not-old.false in
    let o = cell.Spot c.in_ok-occupant.occupant in
    let m = past_part an_occupant behind_old l o c.read_occupant.new.tokens c.in_ok-occupant.ensures in
    rw (p.1, p.2) (part_fails (a_word (codes "to")) (λ line. pure (Some o)) m c.in_err-read_word.field-0.0 c.read_word.new.tokens c.in_err-read_word.ensures.reads)

pub returns : goal.returns
returns c =
    let l = with_old_value an_occupant c.args.tokens.now c.args.old c.if-not-old.false in
    let o = cell.Spot c.in_ok-occupant.occupant in
    let m = past_part an_occupant behind_old l o c.read_occupant.new.tokens c.in_ok-occupant.ensures in
    made_left (a_word (codes "to")) (λ line. Some o) m c.in_ok-read_word.field-0 c.read_word.new.tokens c.in_ok-read_word.ensures.reads
