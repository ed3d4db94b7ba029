use Rattle.commands.proofs.SampleTexts.{sample_text_is_one}
use Rattle.commands.proofs.sample.sample_text_is_one.Goals as goal

pub returns : goal.returns
returns c = sample_text_is_one
