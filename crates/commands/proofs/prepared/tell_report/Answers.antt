use Rattle.std.proofs.Common.{◌≤◌, length, ap, subst, sym, ◌∙◌}
use Rattle.amoebot_state.specs.Limits.{most_vars}
use Rattle.document_answers.proofs.ReportTexts.{with_report_of, few_vars}
use Rattle.commands.proofs.prepared.tell_report.Goals as goal

pub answer_report-requires : goal.answer_report-requires
answer_report-requires c = subst (λ vars. vars ≤ most_vars) (sym c.vars.ensures) (few_vars c.checked-checked.result.now c.program.ensures.writable)

pub returns : goal.returns
returns c = with_report_of c.args.version _ _ c.args.report _ (c.vars.ensures ∙ ap (λ p. length p.vars) c.checked-checked.ensures) c.answer_report.ensures
