use Rattle.std.proofs.Common.{◌∙◌, sym}
use Rattle.std.proofs.lemmas.Result.{err_from_is_err_and}
use Rattle.text_tokens.proofs.StepsLemmas.{another_none, another_some, another_fails}
use Rattle.schedule_text.specs.Lists.{is_list}
use Rattle.schedule_text.specs.Readers.{a_list}
use Rattle.schedule_text.proofs.lists.more_list.Goals as goal

pub returns-then-not-is_next-clause-reads : goal.returns-then-not-is_next-clause-reads
returns-then-not-is_next-clause-reads c = another_none is_list (a_list c.args.bots c.args.turns c.args.before) c.args.tokens.now (sym c.is_next.ensures ∙ c.if-not-is_next.true)

pub returns-in_err-read_list-clause-reads : goal.returns-in_err-read_list-clause-reads
returns-in_err-read_list-clause-reads c =
    let p = err_from_is_err_and c.from_residual.result c.from_residual.ensures.1 in
    rw (p.1, p.2) (another_fails is_list (a_list c.args.bots c.args.turns c.args.before) c.args.tokens.now (sym c.is_next.ensures ∙ c.if-not-is_next.false) c.in_err-read_list.field-0.0 c.read_list.new.tokens c.in_err-read_list.ensures.reads)

pub returns-clause-reads : goal.returns-clause-reads
returns-clause-reads c = another_some is_list (a_list c.args.bots c.args.turns c.args.before) c.args.tokens.now (sym c.is_next.ensures ∙ c.if-not-is_next.false) c.in_ok-read_list.field-0.items c.read_list.new.tokens c.in_ok-read_list.ensures.reads
