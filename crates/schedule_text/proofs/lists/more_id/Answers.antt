use Rattle.std.proofs.Common.{◌∙◌, sym}
use Rattle.std.proofs.lemmas.Result.{err_from_is_err_and}
use Rattle.text_tokens.specs.Reading.{is_number}
use Rattle.text_tokens.proofs.StepsLemmas.{another_none, another_some, another_fails}
use Rattle.schedule_text.specs.Readers.{an_id}
use Rattle.schedule_text.proofs.lists.more_id.Goals as goal

pub returns-then-not-is_next_kind-clause-reads : goal.returns-then-not-is_next_kind-clause-reads
returns-then-not-is_next_kind-clause-reads c = another_none is_number (an_id c.args.bots c.args.before) c.args.tokens.now (sym c.is_next_kind.ensures ∙ c.if-not-is_next_kind.true)

pub returns-in_err-read_id-clause-reads : goal.returns-in_err-read_id-clause-reads
returns-in_err-read_id-clause-reads c =
    let p = err_from_is_err_and c.from_residual.result c.from_residual.ensures.1 in
    rw (p.1, p.2) (another_fails is_number (an_id c.args.bots c.args.before) c.args.tokens.now (sym c.is_next_kind.ensures ∙ c.if-not-is_next_kind.false) c.in_err-read_id.field-0.0 c.read_id.new.tokens c.in_err-read_id.ensures.reads)

pub returns-clause-reads : goal.returns-clause-reads
returns-clause-reads c = another_some is_number (an_id c.args.bots c.args.before) c.args.tokens.now (sym c.is_next_kind.ensures ∙ c.if-not-is_next_kind.false) c.in_ok-read_id.field-0 c.read_id.new.tokens c.in_ok-read_id.ensures.reads
