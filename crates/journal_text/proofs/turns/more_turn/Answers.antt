use Rattle.std.proofs.Common.{◌∙◌, sym}
use Rattle.std.proofs.lemmas.Result.{err_from_is_err_and}
use Rattle.text_tokens.proofs.StepsLemmas.{another_none, another_some, another_fails}
use Rattle.journal_text.specs.Turns.{is_turn}
use Rattle.journal_text.specs.Readers.{a_turn}
use Rattle.journal_text.proofs.turns.more_turn.Goals as goal

pub returns-then-not-is_next-clause-reads : goal.returns-then-not-is_next-clause-reads
returns-then-not-is_next-clause-reads c = another_none is_turn (a_turn c.args.version) c.args.tokens.now (sym c.is_next.ensures ∙ c.if-not-is_next.true)

pub returns-in_err-read_turn-clause-reads : goal.returns-in_err-read_turn-clause-reads
returns-in_err-read_turn-clause-reads c =
    let p = err_from_is_err_and c.from_residual.result c.from_residual.ensures.1 in
    rw (p.1, p.2) (another_fails is_turn (a_turn c.args.version) c.args.tokens.now (sym c.is_next.ensures ∙ c.if-not-is_next.false) c.in_err-read_turn.field-0.0 c.read_turn.new.tokens c.in_err-read_turn.ensures.reads)

pub returns-clause-reads : goal.returns-clause-reads
returns-clause-reads c = another_some is_turn (a_turn c.args.version) c.args.tokens.now (sym c.is_next.ensures ∙ c.if-not-is_next.false) tt c.read_turn.new.tokens c.in_ok-read_turn.ensures.reads
