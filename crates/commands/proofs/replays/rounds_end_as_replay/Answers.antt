use Rattle.commands.proofs.RoundsLemmas.{rounds_end_as_replay}
use Rattle.commands.proofs.replays.rounds_end_as_replay.Goals as goal

pub returns : goal.returns
returns c = rounds_end_as_replay c.documents_are_sound.ensures c.each_run_is_rounded.ensures
