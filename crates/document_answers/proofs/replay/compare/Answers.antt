use Rattle.std.proofs.Common.{sym, ◌∙◌}
use Rattle.std.proofs.lemmas.Bool.{false≢true}
use Rattle.std.proofs.lemmas.Result.{err_from_is_err_and}
use Rattle.document_answers.specs.Journals.{at_entry, at_end}
use Rattle.document_answers.proofs.replay.compare.Goals as goal

pub returns-in_err-reached-clause-differs : goal.returns-in_err-reached-clause-differs
returns-in_err-reached-clause-differs g c =
    let p = err_from_is_err_and c.from_residual.result c.from_residual.ensures.1 in
    rw (p.1, p.2) (at_entry _ c.in_err-reached.ensures.differs)

pub returns-clause-differs : goal.returns-clause-differs
returns-clause-differs g c = at_end _ c.in_ok-reached.ensures.run (λ same. false≢true (sym c.if-same.false ∙ c.same.ensures.1 same))
