use Rattle.commands.proofs.ElectLemmas.{elections_are_won, elect_ends_as_replay}
use Rattle.commands.proofs.elect.elections_are_won.Goals as goal

pub returns : goal.returns
returns c = record {
  won = elections_are_won c.least_versions_are_kept.ensures.decided c.documents_are_sound.ensures c.erosion_elects.ensures;
  ends = elect_ends_as_replay c.least_versions_are_kept.ensures.decided;
}
