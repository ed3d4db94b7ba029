use Rattle.commands.proofs.WorkExampleLemmas.{small_commands}
use Rattle.commands.proofs.laws.small_commands.Goals as goal

pub returns : goal.returns
returns c = small_commands c.reached_is_good.ensures c.one_list_is_serial.ensures c.hexagon_laws.ensures.connected c.hexagon_laws.ensures.one
