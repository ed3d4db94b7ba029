use Rattle.std.proofs.Common.{◌∙◌, sym}
use Rattle.std.proofs.lemmas.Result.{err_from_is_err_and}
use Rattle.text_tokens.specs.Groups.{is_group, a_group}
use Rattle.text_tokens.specs.GroupViews.{written_group}
use Rattle.text_tokens.proofs.StepsLemmas.{another_none, another_some, another_fails}
use Rattle.text_tokens.proofs.groups.more_group.Goals as goal

pub returns-then-not-is_next : goal.returns-then-not-is_next
returns-then-not-is_next c = another_none is_group a_group c.args.tokens.now (sym c.is_next.ensures ∙ c.if-not-is_next.true)

pub returns-in_err-read_group : goal.returns-in_err-read_group
returns-in_err-read_group c =
    let p = err_from_is_err_and c.from_residual.result c.from_residual.ensures.1 in
    rw (p.1, p.2) (another_fails is_group a_group c.args.tokens.now (sym c.is_next.ensures ∙ c.if-not-is_next.false) c.in_err-read_group.field-0.0 c.read_group.new.tokens c.in_err-read_group.ensures)

pub returns : goal.returns
returns c = another_some is_group a_group c.args.tokens.now (sym c.is_next.ensures ∙ c.if-not-is_next.false) (written_group c.in_ok-read_group.field-0) c.read_group.new.tokens c.in_ok-read_group.ensures
