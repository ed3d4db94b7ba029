use Rattle.std.proofs.Common.{◌≡◌, Some, ap, ◌∙◌}
use Rattle.action_tree.specs.Trees.{Program}
use Rattle.shape_files.specs.Views.{contents}
use Rattle.document_answers.specs.Check.{CheckOutcome, check_text}
use Rattle.document_answers.specs.Texts.{written}
use Rattle.document_answers.proofs.AnswerLemmas.{answers}
use Rattle.document_answers.proofs.check.answer_check.Goals as goal

pub returns : goal.returns
returns c =
    let a = contents c.args.parts in
    let text = c.in_ok-text.text in
    let its : (p : Program) × (a.checked ≡ Some p) × (text ≡ check_text a.version p) =
    (c.checked_of-checked.result, c.checked_of-checked.ensures, c.in_ok-text.ensures ∙ ap (check_text a.version) c.program.ensures.program) in
    answers (CheckOutcome a) _ _ c.done.ensures (written text its)
