use Rattle.std.proofs.lemmas.Result.{err_from_is_err_and}
use Rattle.std.proofs.Common.{ℕ}
use Rattle.text_tokens.specs.declared.refusal.RefusalKind.TheVariants.{BadRange}
use Rattle.text_tokens.specs.Reading.{the_line, too_large, numeral}
use Rattle.text_tokens.specs.Groups.{is_group_pair, a_group_pair}
use Rattle.text_tokens.proofs.StepsLemmas.{on, fails}
use Rattle.text_tokens.proofs.groups.read_pair.Goals as goal

pub returns-in_err-the_line : goal.returns-in_err-the_line
unfolding a_group_pair
returns-in_err-the_line c =
    let p = err_from_is_err_and c.from_residual.result c.from_residual.ensures.1 in
    rw (p.1, p.2) (fails (the_line is_group_pair) (λ line. numeral (too_large 9 BadRange)) c.in_err-the_line.field-0.0 c.args.tokens.now c.the_line.new.tokens c.in_err-the_line.ensures.reads)

pub returns : goal.returns
unfolding a_group_pair
returns c = on (λ (n : ℕ). n) (the_line is_group_pair) (λ line. numeral (too_large 9 BadRange)) c.args.tokens.now c.the_line.new.tokens c.number_up_to.new.tokens c.in_ok-the_line.field-0 c.number_up_to.result c.in_ok-the_line.ensures.reads c.number_up_to.ensures.reads
