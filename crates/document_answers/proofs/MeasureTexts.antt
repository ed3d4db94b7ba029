-- A shape has one text of its measures.
use Rattle.std.proofs.Common.{sym, ◌∙◌}
use Rattle.std.proofs.lemmas.Bool.Decides.{same_from_decides}
use Rattle.std.specs.Prelude.{length}
use Rattle.document_answers.specs.Measure.{measure_text}
use Rattle.document_answers.specs.AnswerLaws.{MeasureTextIsOne}

pub measure_text_is_one : MeasureTextIsOne
measure_text_is_one c text other x y =
    let connected = same_from_decides x.connected y.connected x.is_connected y.is_connected in
    let hexagon = same_from_decides x.hexagon y.hexagon x.is_hexagon y.is_hexagon in
    x.whole ∙ (λ i. measure_text (length c.bots) (connected i) (hexagon i)) ∙ sym y.whole
