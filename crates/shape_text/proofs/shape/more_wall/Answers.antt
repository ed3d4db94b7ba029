use Rattle.std.proofs.Common.{◌∙◌, sym}
use Rattle.std.proofs.lemmas.Result.{err_from_is_err_and}
use Rattle.text_tokens.proofs.StepsLemmas.{another_none, another_some, another_fails}
use Rattle.shape_text.specs.Shapes.{is_wall_word}
use Rattle.shape_text.specs.Readers.{a_wall_line}
use Rattle.shape_text.specs.Views as view
use Rattle.shape_text.proofs.shape.more_wall.Goals as goal

pub returns-then-not-is_next-clause-reads : goal.returns-then-not-is_next-clause-reads
returns-then-not-is_next-clause-reads c = another_none is_wall_word (a_wall_line c.args.before) c.args.tokens.now (sym c.is_next.ensures ∙ c.if-not-is_next.true)

pub returns-in_err-read_wall_line-clause-reads : goal.returns-in_err-read_wall_line-clause-reads
returns-in_err-read_wall_line-clause-reads c =
    let p = err_from_is_err_and c.from_residual.result c.from_residual.ensures.1 in
    rw (p.1, p.2) (another_fails is_wall_word (a_wall_line c.args.before) c.args.tokens.now (sym c.is_next.ensures ∙ c.if-not-is_next.false) c.in_err-read_wall_line.field-0.0 c.read_wall_line.new.tokens c.in_err-read_wall_line.ensures.reads)

pub returns-clause-reads : goal.returns-clause-reads
returns-clause-reads c = another_some is_wall_word (a_wall_line c.args.before) c.args.tokens.now (sym c.is_next.ensures ∙ c.if-not-is_next.false) (view.wall_view c.in_ok-read_wall_line.field-0) c.read_wall_line.new.tokens c.in_ok-read_wall_line.ensures.reads
