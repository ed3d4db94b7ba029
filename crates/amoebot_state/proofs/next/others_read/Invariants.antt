use Rattle.std.proofs.Common.{◌≡◌, ◌≤◌, take, []}
use Rattle.std.specs.List.{fold}
use Rattle.arrayvec.specs.ArrayVec.{array_vec_len}
use Rattle.amoebot_state.specs.Storage.{with_other}
use Rattle.amoebot_state.specs.Known.{read_on}
use Rattle.amoebot_state.proofs.next.others_read.Given as goal

abbrev pub invariant-loop-node : goal.invariant-loop-node
invariant-loop-node l = (l.ids.items ≡ fold (λ is v. with_other l.bot is (read_on l.cells v)) [] (take l.node-index l.nodes)) × (array_vec_len l.ids ≤ l.node-index)
