use Rattle.commands.proofs.RewindLemmas.{rewind_undoes_replay}
use Rattle.commands.proofs.replays.rewind_undoes_replay.Goals as goal

pub returns : goal.returns
returns c = rewind_undoes_replay c.least_versions_are_kept.ensures.document c.documents_are_sound.ensures
