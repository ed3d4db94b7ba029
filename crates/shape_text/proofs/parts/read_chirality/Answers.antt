use Rattle.std.proofs.Common.{◌∙◌, sym}
use Rattle.std.specs.Prelude.{codes}
use Rattle.std.proofs.lemmas.Result.{err_from_is_err_and}
use Rattle.amoebot_state.specs.declared.bot.Chir.TheVariants.{Plus, Minus}
use Rattle.shape_text.specs.Parts.{sign}
use Rattle.shape_text.specs.PartReaders.{a_chirality}
use Rattle.shape_text.proofs.Meanings.{first_fails, first_read, second_fails, second_read}
use Rattle.shape_text.proofs.parts.read_chirality.Goals as goal

pub returns-in_err-the_line-clause-reads : goal.returns-in_err-the_line-clause-reads
unfolding a_chirality
returns-in_err-the_line-clause-reads c =
    let p = err_from_is_err_and c.from_residual.result c.from_residual.ensures.1 in
    rw (p.1, p.2) (first_fails (sign (codes "+")) (sign (codes "-")) Plus Minus c.args.tokens.now c.the_line.new.tokens (sym c.is_next.ensures ∙ c.if-is_next.true) c.in_err-the_line.field-0.0 c.in_err-the_line.ensures.reads)

pub returns-in_err-the_line-2-clause-reads : goal.returns-in_err-the_line-2-clause-reads
unfolding a_chirality
returns-in_err-the_line-2-clause-reads c =
    let p = err_from_is_err_and c.from_residual-in_err-the_line-2.result c.from_residual-in_err-the_line-2.ensures.1 in
    rw (p.1, p.2) (second_fails (sign (codes "+")) (sign (codes "-")) Plus Minus c.args.tokens.now c.the_line-else-is_next.new.tokens (sym c.is_next.ensures ∙ c.if-is_next.false) c.in_err-the_line-2.field-0.0 c.in_err-the_line-2.ensures.reads)

pub returns-in_ok-the_line-clause-reads : goal.returns-in_ok-the_line-clause-reads
unfolding a_chirality
returns-in_ok-the_line-clause-reads c = first_read (sign (codes "+")) (sign (codes "-")) Plus Minus c.args.tokens.now c.the_line.new.tokens (sym c.is_next.ensures ∙ c.if-is_next.true) c.in_ok-the_line.field-0 c.in_ok-the_line.ensures.reads

pub returns-in_ok-the_line-2-clause-reads : goal.returns-in_ok-the_line-2-clause-reads
unfolding a_chirality
returns-in_ok-the_line-2-clause-reads c = second_read (sign (codes "+")) (sign (codes "-")) Plus Minus c.args.tokens.now c.the_line-else-is_next.new.tokens (sym c.is_next.ensures ∙ c.if-is_next.false) c.in_ok-the_line-2.field-0 c.in_ok-the_line-2.ensures.reads
