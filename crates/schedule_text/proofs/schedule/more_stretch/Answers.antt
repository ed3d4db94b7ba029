use Rattle.std.proofs.Common.{◌∙◌, sym}
use Rattle.std.proofs.lemmas.Result.{err_from_is_err_and}
use Rattle.text_tokens.specs.Reading.{is_number}
use Rattle.text_tokens.proofs.StepsLemmas.{another_none, another_some, another_fails}
use Rattle.schedule_text.specs.Views as view
use Rattle.schedule_text.specs.Readers.{a_stretch}
use Rattle.schedule_text.proofs.schedule.more_stretch.Goals as goal

pub returns-then-not-is_next_kind-clause-reads : goal.returns-then-not-is_next_kind-clause-reads
returns-then-not-is_next_kind-clause-reads c = another_none is_number (a_stretch c.args.callers c.args.before) c.args.tokens.now (sym c.is_next_kind.ensures ∙ c.if-not-is_next_kind.true)

pub returns-in_err-read_stretch-clause-reads : goal.returns-in_err-read_stretch-clause-reads
returns-in_err-read_stretch-clause-reads c =
    let p = err_from_is_err_and c.from_residual.result c.from_residual.ensures.1 in
    rw (p.1, p.2) (another_fails is_number (a_stretch c.args.callers c.args.before) c.args.tokens.now (sym c.is_next_kind.ensures ∙ c.if-not-is_next_kind.false) c.in_err-read_stretch.field-0.0 c.read_stretch.new.tokens c.in_err-read_stretch.ensures.reads)

pub returns-clause-reads : goal.returns-clause-reads
returns-clause-reads c = another_some is_number (a_stretch c.args.callers c.args.before) c.args.tokens.now (sym c.is_next_kind.ensures ∙ c.if-not-is_next_kind.false) (view.stretch c.in_ok-read_stretch.field-0) c.read_stretch.new.tokens c.in_ok-read_stretch.ensures.reads
