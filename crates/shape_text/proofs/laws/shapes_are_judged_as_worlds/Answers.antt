use Rattle.shape_text.proofs.JudgementsLemmas.{judged_as_worlds}
use Rattle.shape_text.proofs.laws.shapes_are_judged_as_worlds.Goals as goal

pub returns : goal.returns
returns c = judged_as_worlds
