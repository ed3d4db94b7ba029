use Rattle.model_ops.proofs.StaysConnected.{operations_keep_connected, reached_stays_connected}
use Rattle.model_ops.proofs.laws.reached_stays_connected.Goals as goal

pub returns : goal.returns
returns c = record { operations = operations_keep_connected; reached = reached_stays_connected }
