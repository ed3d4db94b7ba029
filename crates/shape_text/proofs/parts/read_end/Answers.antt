use Rattle.std.proofs.Common.{◌∙◌, sym}
use Rattle.std.specs.Prelude.{codes}
use Rattle.std.proofs.lemmas.Result.{err_from_is_err_and}
use Rattle.amoebot_state.specs.declared.bot.End.TheVariants.{Head, Tail}
use Rattle.shape_text.specs.Parts.{word}
use Rattle.shape_text.specs.PartReaders.{an_end}
use Rattle.shape_text.proofs.Meanings.{first_fails, first_read, second_fails, second_read}
use Rattle.shape_text.proofs.parts.read_end.Goals as goal

pub returns-in_err-read_word-clause-reads : goal.returns-in_err-read_word-clause-reads
unfolding an_end
returns-in_err-read_word-clause-reads c =
    let p = err_from_is_err_and c.from_residual.result c.from_residual.ensures.1 in
    rw (p.1, p.2) (first_fails (word (codes "head")) (word (codes "tail")) Head Tail c.args.tokens.now c.read_word.new.tokens (sym c.is_next.ensures ∙ c.if-is_next.true) c.in_err-read_word.field-0.0 c.in_err-read_word.ensures.reads)

pub returns-in_err-read_word-2-clause-reads : goal.returns-in_err-read_word-2-clause-reads
unfolding an_end
returns-in_err-read_word-2-clause-reads c =
    let p = err_from_is_err_and c.from_residual-in_err-read_word-2.result c.from_residual-in_err-read_word-2.ensures.1 in
    rw (p.1, p.2) (second_fails (word (codes "head")) (word (codes "tail")) Head Tail c.args.tokens.now c.read_word-else-is_next.new.tokens (sym c.is_next.ensures ∙ c.if-is_next.false) c.in_err-read_word-2.field-0.0 c.in_err-read_word-2.ensures.reads)

pub returns-in_ok-read_word-clause-reads : goal.returns-in_ok-read_word-clause-reads
unfolding an_end
returns-in_ok-read_word-clause-reads c = first_read (word (codes "head")) (word (codes "tail")) Head Tail c.args.tokens.now c.read_word.new.tokens (sym c.is_next.ensures ∙ c.if-is_next.true) c.in_ok-read_word.field-0 c.in_ok-read_word.ensures.reads

pub returns-in_ok-read_word-2-clause-reads : goal.returns-in_ok-read_word-2-clause-reads
unfolding an_end
returns-in_ok-read_word-2-clause-reads c = second_read (word (codes "head")) (word (codes "tail")) Head Tail c.args.tokens.now c.read_word-else-is_next.new.tokens (sym c.is_next.ensures ∙ c.if-is_next.false) c.in_ok-read_word-2.field-0 c.in_ok-read_word-2.ensures.reads
