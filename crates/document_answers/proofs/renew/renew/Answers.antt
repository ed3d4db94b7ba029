use Rattle.std.proofs.Common.{◌≤◌, ℕ, List, ap, length, subst, sym, ◌∙◌}
use Rattle.action_tree.specs.Trees.{Program}
use Rattle.amoebot_state.specs.Limits.{most_vars}
use Rattle.document_answers.specs.Answers.{with_text}
use Rattle.document_answers.specs.Renew.{renewed_text}
use Rattle.document_answers.specs.declared.status.Status.TheVariants as status
use Rattle.document_answers.proofs.ReportTexts.{few_vars}
use Rattle.document_answers.proofs.renew.renew.Goals as goal

pub print_renewed-requires : goal.print_renewed-requires
print_renewed-requires c = subst (λ (p : Program). length p.vars ≤ most_vars) (sym c.program.ensures.program) (few_vars c.checked.result.now c.program.ensures.writable)

pub returns : goal.returns
returns c =
    let same = c.program.ensures.program ∙ c.checked.ensures in
    c.done.ensures ∙ ap (λ (text : List ℕ). with_text status.Done text) (c.in_ok-text.ensures ∙ ap (λ (p : Program). renewed_text p c.args.start.now c.args.entries.now c.args.last.now) same)
