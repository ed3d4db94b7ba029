use Rattle.small_worlds.proofs.Turns.{small_serial_turns}
use Rattle.small_worlds.proofs.laws.small_serial_turns.Goals as goal

pub returns : goal.returns
returns c = small_serial_turns
