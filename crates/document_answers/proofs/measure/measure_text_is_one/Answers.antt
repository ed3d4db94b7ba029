use Rattle.document_answers.proofs.MeasureTexts.{measure_text_is_one}
use Rattle.document_answers.proofs.measure.measure_text_is_one.Goals as goal

pub returns : goal.returns
returns c = measure_text_is_one
