use Rattle.std.proofs.Common.{◌≡◌, Some, ◌∙◌}
use Rattle.std.specs.Option.{option_or}
use Rattle.amoebot_state.specs.Configs.{Config}
use Rattle.shape_files.specs.Views.{contents}
use Rattle.document_answers.specs.Measure.{IsMeasureText, MeasureOutcome, last_shape}
use Rattle.document_answers.specs.Texts.{written}
use Rattle.document_answers.proofs.AnswerLemmas.{answers}
use Rattle.document_answers.proofs.measure.answer_measure.Goals as goal

pub returns : goal.returns
returns c =
    let a = contents c.args.parts in
    let same = c.shapes_of-world.ensures in
    let text = c.in_ok-text.text in
    let its : (last : Config) × (last_shape a ≡ Some last) × IsMeasureText last text =
    (c.last_shape-last.result, (λ i. option_or (same.last i) (same.first i)) ∙ c.last_shape-last.ensures, c.in_ok-text.ensures) in
    answers (MeasureOutcome a) _ _ c.done.ensures (written text its)
