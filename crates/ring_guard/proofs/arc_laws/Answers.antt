use Rattle.ring_guard.proofs.Tables.{arc_table}
use Rattle.ring_guard.proofs.Arcs.{taking_keeps, taking_leaves, alone_is_all}
use Rattle.ring_guard.proofs.Rows.{arcs_are_rows}
use Rattle.ring_guard.proofs.arc_laws.Goals as goal

pub returns : goal.returns
returns c = record { keeps = taking_keeps; leaves = taking_leaves; alone = alone_is_all; rows = arcs_are_rows; table = arc_table }
