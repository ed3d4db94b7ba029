-- Occupied nodes that are connected stay so.
use Rattle.std.proofs.Common.{◌≡◌, ℕ, Bool, true, ap, sym, ◌∙◌, subst, inl, inr, Some}
use Rattle.std.specs.Prelude.{is_some}
use Rattle.std.specs.declared.result.Result.TheVariants.{Ok}
use Rattle.tri_lattice.specs.declared.node.Node.{Node}
use Rattle.tri_lattice.specs.Sets.{TakesOut, PutsIn, SameNodes}
use Rattle.tri_lattice.proofs.Nodes.{cases_node}
use Rattle.tri_lattice.proofs.Paths.{same_keeps, putting_keeps}
use Rattle.ring_guard.specs.Rings.{IsOneArc, ring_in}
use Rattle.ring_guard.proofs.Arcs.{taking_keeps}
use Rattle.amoebot_state.specs.declared.bot.End.TheVariants as end
use Rattle.amoebot_state.specs.declared.verdict.Moved.{Moved}
use Rattle.amoebot_state.specs.declared.verdict.Moved.TheVariants as moved
use Rattle.amoebot_state.specs.Ports.{behind, end_node, is_own}
use Rattle.amoebot_state.specs.Configs.{Config, IsValid, bot_at, bot_of, covers}
use Rattle.amoebot_state.specs.Occupied.{occupied}
use Rattle.amoebot_state.proofs.Occupants.{occupant_at}
use Rattle.model_ops.specs.Operations.{grow, shrink, may_leave}
use Rattle.model_ops.specs.Reaches.{move}
use Rattle.model_ops.specs.Laws.{StaysConnected, OperationsKeepConnected, ReachedStaysConnected}
use Rattle.model_ops.proofs.Told.{ok_told}
use Rattle.model_ops.proofs.Neighbours.{end_own}
use Rattle.model_ops.proofs.OneArcs.{one_arc_test_is_one_arc}
use Rattle.model_ops.proofs.SmallMoves.{shrunk_out, grown_in}
use Rattle.model_ops.proofs.Movements.{Passes, expand_told, contract_told, push_told, pull_told}
use Rattle.model_ops.proofs.Written.{Writes, written}
use Rattle.model_ops.proofs.KeepsRest.{own_there, performed}

-- a node that an amoebot of the configuration has is occupied
own_occupied : (c : Config) (n : ℕ) (v : Node) → IsValid c → bot_at c n ≡ Some (bot_of c n) → is_own (bot_of c n) v ≡ true → occupied c v ≡ true
own_occupied c n v valid at own = ap is_some (occupant_at c valid n v (ap (λ o. covers o v) at ∙ own))

-- a node that is left and then entered is occupied before and after
passed_same : (S M T : Node → Bool) (v : Node) → S v ≡ true → TakesOut S M v → PutsIn M T v → SameNodes S T
passed_same S M T v was out in' u = elim (cases_node u v) [
  | inl e ↦ ap T e ∙ in'.there ∙ sym (ap S e ∙ was)
  | inr ne ↦ in'.others u ne ∙ out.others u ne
]

pass_connected : (c : Config) (one two : ℕ) (v : Node) → Passes c one two v → StaysConnected c (grow (shrink c one v) two v)
pass_connected c one two v pass =
    let m = shrink c one v in
    let leaves = pass.leaves in
    same_keeps (occupied c) (occupied (grow m two v)) (passed_same (occupied c) (occupied m) (occupied (grow m two v)) v (own_occupied c one v leaves.valid leaves.there leaves.own) (shrunk_out c one v leaves) (grown_in m two v pass.enters))

-- the guard, where it is on, asks for one arc
guard_told : (c : Config) (v : Node) → may_leave c true v ≡ true → IsOneArc (ring_in (occupied c) v)
guard_told c v t = (one_arc_test_is_one_arc (ring_in (occupied c) v)).0 t

write_connected : (c d : Config) (i : ℕ) → Writes c i d → StaysConnected c d
write_connected c d i writes = same_keeps (occupied c) (occupied d) (λ v. ap is_some (writes.spots v))

-- a movement with the guard on
move_connected : (c : Config) (i : ℕ) (m : Moved) (d : Config) → IsValid c → bot_at c i ≡ Some (bot_of c i) → move c i true m ≡ Ok d → StaysConnected c d
move_connected c i moved.None d valid at e = let P : Config → Type 0 = λ x. StaysConnected c x in subst P (ok_told e) (λ connected. connected)
move_connected c i (moved.Expand p) d valid at e =
    let told = expand_told c i p d valid at e in
    let b = bot_of c i in
    let v = behind b p in
    let P : Config → Type 0 = λ x. StaysConnected c x in
    subst P (sym told.is) (λ connected. putting_keeps (occupied c) (occupied (grow c i v)) v b.head connected (own_occupied c i b.head valid at (end_own b end.Head)) told.may.next (grown_in c i v told.may))
move_connected c i (moved.Contract way) d valid at e =
    let told = contract_told c i true way d valid at e in
    let v = end_node (bot_of c i) way in
    let P : Config → Type 0 = λ x. StaysConnected c x in
    subst P (sym told.is) (λ connected. taking_keeps (occupied c) (occupied (shrink c i v)) v connected (guard_told c v told.guarded) (shrunk_out c i v told.may))
move_connected c i (moved.Push p) d valid at e =
    let told = push_told c i p d valid at e in
    let P : Config → Type 0 = λ x. StaysConnected c x in
    subst P (sym told.is) (pass_connected c told.peer i (behind (bot_of c i) p) told.pass)
move_connected c i (moved.Pull p) d valid at e =
    let told = pull_told c i p d valid at e in
    let P : Config → Type 0 = λ x. StaysConnected c x in
    subst P (sym told.is) (pass_connected c i told.peer (end_node (bot_of c i) p.end) told.pass)

pub operations_keep_connected : OperationsKeepConnected
operations_keep_connected = record {
  writes = λ c i p x s d valid there e. write_connected c d i (written c i p x s d valid (own_there c i there) e);
  expands = λ c i p d valid there e. move_connected c i (moved.Expand p) d valid (own_there c i there) e;
  contracts = λ c i way d valid there e. move_connected c i (moved.Contract way) d valid (own_there c i there) e;
  pushes = λ c i p d valid there e. move_connected c i (moved.Push p) d valid (own_there c i there) e;
  pulls = λ c i p d valid there e. move_connected c i (moved.Pull p) d valid (own_there c i there) e;
}

pub reached_stays_connected : ReachedStaysConnected
reached_stays_connected c i acts d valid there on e connected =
    let done = performed c i acts d valid (own_there c i there) e in
    let guarded : move done.between i true acts.moved ≡ Ok d = ap (λ g. move done.between i g acts.moved) (sym on) ∙ done.moved in
    move_connected done.between i acts.moved d done.writes.valid done.writes.there guarded (write_connected c done.between i done.writes connected)
