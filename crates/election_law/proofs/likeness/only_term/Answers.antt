use Rattle.std.proofs.Common.{◌∙◌, ap, sym}
use Rattle.action_tree.specs.Views.{terms_of}
use Rattle.action_tree.specs.Lines.{bare_sum}
use Rattle.action_tree.proofs.Viewed.{sum_opened}
use Rattle.election_law.proofs.Lengths.{other_terms}
use Rattle.election_law.proofs.likeness.only_term.Goals as goal

pub returns-else-parts-eq1-clause-none : goal.returns-else-parts-eq1-clause-none
returns-else-parts-eq1-clause-none c term e =
    let parts = c.as_slice-parts.result.now in
    other_terms parts term c.if-parts-eq1.false (ap (λ ps. bare_sum (terms_of ps)) c.as_slice-parts.ensures.value ∙ ap bare_sum (sym (sum_opened c.args.sum.now)) ∙ e)
