use Rattle.std.proofs.Common.{◌≡◌, ◌∙◌, true, false, sym}
use Rattle.std.specs.Prelude.{codes}
use Rattle.std.proofs.lemmas.Result.{err_from_is_err_and}
use Rattle.text_tokens.specs.Cursor.{Cursor, next_passes}
use Rattle.text_tokens.specs.Reading.{Reader, ◌>>=◌, pure}
use Rattle.amoebot_state.specs.declared.cell.CellName.{CellName}
use Rattle.amoebot_state.specs.declared.cell.CellName.TheVariants as name
use Rattle.journal_text.specs.Journals.{is_spot_word}
use Rattle.shape_text.specs.PartReaders.{a_word, a_number, a_node}
use Rattle.journal_text.specs.Readers.{a_cell}
use Rattle.text_tokens.proofs.Rows.{Left, all_left, first_left, second_left, past_part, part_fails, made_left}
use Rattle.journal_text.proofs.journal.read_cell.Goals as goal

abbrev a_spot : Reader CellName
a_spot = a_node >>= λ v. pure (name.Spot v)

abbrev a_body : Reader CellName
a_body = a_number >>= λ id. pure (name.Body id)

abbrev spot_cell : Reader CellName
spot_cell = a_word (codes "spot") >>= λ line. a_spot

abbrev body_cell : Reader CellName
body_cell = a_word (codes "body") >>= λ line. a_body

module _ (here : Cursor) where
  at_spot : next_passes is_spot_word here.ahead ≡ true → Left a_cell here spot_cell here
  unfolding a_cell
  at_spot e = first_left is_spot_word spot_cell body_cell (all_left a_cell here) e

  at_body : next_passes is_spot_word here.ahead ≡ false → Left a_cell here body_cell here
  unfolding a_cell
  at_body e = second_left is_spot_word spot_cell body_cell (all_left a_cell here) e

pub returns-in_err-read_word-clause-reads : goal.returns-in_err-read_word-clause-reads
returns-in_err-read_word-clause-reads c =
    let p = err_from_is_err_and c.from_residual.result c.from_residual.ensures.1 in
    let l = at_spot c.args.tokens.now (sym c.is_next.ensures ∙ c.if-is_next.true) in
    rw (p.1, p.2) (part_fails (a_word (codes "spot")) (λ line. a_spot) l c.in_err-read_word.field-0.0 c.read_word.new.tokens c.in_err-read_word.ensures.reads)

pub returns-in_err-read_node-clause-reads : goal.returns-in_err-read_node-clause-reads
returns-in_err-read_node-clause-reads c =
    let p = err_from_is_err_and c.from_residual-in_err-read_node.result c.from_residual-in_err-read_node.ensures.1 in
    let l = at_spot c.args.tokens.now (sym c.is_next.ensures ∙ c.if-is_next.true) in
    let m = past_part (a_word (codes "spot")) (λ line. a_spot) l c.in_ok-read_word.field-0 c.read_word.new.tokens c.in_ok-read_word.ensures.reads in
    rw (p.1, p.2) (part_fails a_node (λ v. pure (name.Spot v)) m c.in_err-read_node.field-0.0 c.read_node.new.tokens c.in_err-read_node.ensures.reads)

pub returns-in_err-read_word-2-clause-reads : goal.returns-in_err-read_word-2-clause-reads
returns-in_err-read_word-2-clause-reads c =
    let p = err_from_is_err_and c.from_residual-in_err-read_word-2.result c.from_residual-in_err-read_word-2.ensures.1 in
    let l = at_body c.args.tokens.now (sym c.is_next.ensures ∙ c.if-is_next.false) in
    rw (p.1, p.2) (part_fails (a_word (codes "body")) (λ line. a_body) l c.in_err-read_word-2.field-0.0 c.read_word-else-is_next.new.tokens c.in_err-read_word-2.ensures.reads)

pub returns-in_err-number-clause-reads : goal.returns-in_err-number-clause-reads
returns-in_err-number-clause-reads c =
    let p = err_from_is_err_and c.from_residual-in_err-number.result c.from_residual-in_err-number.ensures.1 in
    let l = at_body c.args.tokens.now (sym c.is_next.ensures ∙ c.if-is_next.false) in
    let m = past_part (a_word (codes "body")) (λ line. a_body) l c.in_ok-read_word-2.field-0 c.read_word-else-is_next.new.tokens c.in_ok-read_word-2.ensures.reads in
    rw (p.1, p.2) (part_fails a_number (λ id. pure (name.Body id)) m c.in_err-number.field-0.0 c.number.new.tokens c.in_err-number.ensures.reads)

pub returns-in_ok-read_node-clause-reads : goal.returns-in_ok-read_node-clause-reads
returns-in_ok-read_node-clause-reads c =
    let l = at_spot c.args.tokens.now (sym c.is_next.ensures ∙ c.if-is_next.true) in
    let m = past_part (a_word (codes "spot")) (λ line. a_spot) l c.in_ok-read_word.field-0 c.read_word.new.tokens c.in_ok-read_word.ensures.reads in
    made_left a_node (λ v. name.Spot v) m c.in_ok-read_node.field-0 c.read_node.new.tokens c.in_ok-read_node.ensures.reads

pub returns-in_ok-number-clause-reads : goal.returns-in_ok-number-clause-reads
returns-in_ok-number-clause-reads c =
    let l = at_body c.args.tokens.now (sym c.is_next.ensures ∙ c.if-is_next.false) in
    let m = past_part (a_word (codes "body")) (λ line. a_body) l c.in_ok-read_word-2.field-0 c.read_word-else-is_next.new.tokens c.in_ok-read_word-2.ensures.reads in
    made_left a_number (λ id. name.Body id) m c.in_ok-number.field-0 c.number.new.tokens c.in_ok-number.ensures.reads
