use Rattle.std.proofs.Common.{◌≤◌, subst, sym}
use Rattle.amoebot_state.specs.Limits.{most_vars}
use Rattle.document_answers.proofs.ReportTexts.{few_vars}
use Rattle.document_answers.proofs.rewind.show_shape.Goals as goal

pub print_shape-requires : goal.print_shape-requires
print_shape-requires c = subst (λ vars. vars ≤ most_vars) (sym c.vars.ensures) (few_vars c.checked-checked.result.now c.program.ensures.writable)
