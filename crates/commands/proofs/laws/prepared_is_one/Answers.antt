use Rattle.commands.proofs.TaskLemmas.{prepared_is_one, telling_is_one}
use Rattle.commands.proofs.laws.prepared_is_one.Goals as goal

pub returns : goal.returns
returns c = record {
  run = prepared_is_one c.least_versions_are_kept.ensures.decided c.sample_is_unique.ensures;
  text = telling_is_one c.sample_text_is_one.ensures;
}
