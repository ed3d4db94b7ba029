-- What a movement that succeeds changes: at most one node and two bodies, all of them of the zone.
use Rattle.std.proofs.Common.{◌≡◌, ◌≢◌, ℕ, Bool, true, ap, sym, ◌∙◌, refl, subst, Some}
use Rattle.std.specs.declared.result.Result.TheVariants.{Ok}
use Rattle.std.proofs.lemmas.Bool.{or_left}
use Rattle.tri_lattice.specs.declared.node.Node.{Node}
use Rattle.tri_lattice.specs.Extent.{is_in}
use Rattle.amoebot_state.specs.declared.bot.End.TheVariants as end
use Rattle.amoebot_state.specs.declared.cell.CellName.TheVariants as name
use Rattle.amoebot_state.specs.declared.verdict.Moved.{Moved}
use Rattle.amoebot_state.specs.declared.verdict.Moved.TheVariants as moved
use Rattle.amoebot_state.specs.Ports.{is_own, behind, end_node, is_beside}
use Rattle.amoebot_state.specs.Configs.{Config, IsValid, bot_at, bot_of, occupant, covers}
use Rattle.amoebot_state.specs.Patches.{HasSameIds}
use Rattle.amoebot_state.specs.Zones.{zone}
use Rattle.amoebot_state.proofs.Members.{Has}
use Rattle.amoebot_state.proofs.Directions.{beside_in_zone, port_leads_beside}
use Rattle.amoebot_state.proofs.Zones.{spot_in_zone, body_in_zone, own_in_zone}
use Rattle.amoebot_state.proofs.Occupants.{covered_in, occupant_covers}
use Rattle.model_ops.specs.Operations.{grow, shrink}
use Rattle.model_ops.specs.Reaches.{move}
use Rattle.model_ops.proofs.Told.{ok_told}
use Rattle.model_ops.proofs.Neighbours.{end_own}
use Rattle.model_ops.proofs.SameIds.{still_same, both_same}
use Rattle.model_ops.proofs.SmallMoves.{SmallMove, shrunk, grown}
use Rattle.model_ops.proofs.Movements.{Passes, expand_told, contract_told, push_told, pull_told}

-- d is c except for the occupant of one node and two bodies
pub record Moves (c : Config) (i : ℕ) (d : Config) : Type 0 where
  pub node : Node
  pub peer : ℕ
  pub valid : IsValid d
  pub same : HasSameIds c d
  pub spots : (u : Node) → u ≢ node → occupant d u ≡ occupant c u
  pub bots : (j : ℕ) → j ≢ i → j ≢ peer → bot_at d j ≡ bot_at c j
  pub node_listed : Has (name.Spot node) (zone c i)
  pub own_listed : Has (name.Body i) (zone c i)
  pub peer_listed : Has (name.Body peer) (zone c i)

module _ (c : Config) (i : ℕ) (valid : IsValid c) (at : bot_at c i ≡ Some (bot_of c i)) where
  -- a node beside the amoebot is one of the zone's, and so is the body of its occupant
  pub spot_listed : (v : Node) → is_beside (bot_of c i) v ≡ true → is_in c.area v ≡ true → Has (name.Spot v) (zone c i)
  spot_listed v beside inside = spot_in_zone c i (bot_of c i) v at (beside_in_zone c.area (bot_of c i) v (valid.each i (bot_of c i) at).rot beside inside)

  pub body_listed : (v : Node) (n : ℕ) → is_beside (bot_of c i) v ≡ true → occupant c v ≡ Some n → Has (name.Body n) (zone c i)
  body_listed v n beside by = body_in_zone c i (bot_of c i) v n at (beside_in_zone c.area (bot_of c i) v (valid.each i (bot_of c i) at).rot beside (covered_in c valid n v (occupant_covers c v n by))) by

  spot_of_own : (v : Node) → is_own (bot_of c i) v ≡ true → Has (name.Spot v) (zone c i)
  spot_of_own v own = spot_listed v (or_left _ _ (or_left _ _ own)) (covered_in c valid i v (ap (λ o. covers o v) at ∙ own))

  one_small : (v : Node) (d : Config) → Has (name.Spot v) (zone c i) → SmallMove c i v d → Moves c i d
  one_small v d listed done = record {
    node = v;
    peer = i;
    valid = done.valid;
    same = done.same;
    spots = done.spots;
    bots = λ j ne _. done.bots j ne;
    node_listed = listed;
    own_listed = own_in_zone c i (bot_of c i) at;
    peer_listed = own_in_zone c i (bot_of c i) at;
  }

  -- one leaves the node, the other enters it
  two_small : (v : Node) (one two peer : ℕ) → Has (name.Spot v) (zone c i) → Has (name.Body peer) (zone c i) → Passes c one two v → ((j : ℕ) → j ≢ i → j ≢ peer → (j ≢ one) × (j ≢ two)) → Moves c i (grow (shrink c one v) two v)
  two_small v one two peer listed peer_listed pass apart =
      let first = shrunk c one v pass.leaves in
      let second = grown (shrink c one v) two v pass.enters in
      record {
        node = v;
        peer = peer;
        valid = second.valid;
        same = both_same c (shrink c one v) (grow (shrink c one v) two v) first.same second.same;
        spots = λ u ne. second.spots u ne ∙ first.spots u ne;
        bots = λ j ne other. let both = apart j ne other in second.bots j both.1 ∙ first.bots j both.0;
        node_listed = listed;
        own_listed = own_in_zone c i (bot_of c i) at;
        peer_listed = peer_listed;
      }

  pub movement : (guard : Bool) (m : Moved) (d : Config) → move c i guard m ≡ Ok d → Moves c i d
  movement guard moved.None d e = let P : Config → Type 0 = λ x. Moves c i x in subst P (ok_told e) (record {
    node = (bot_of c i).head;
    peer = i;
    valid = valid;
    same = still_same c;
    spots = λ u ne. refl;
    bots = λ j ne other. refl;
    own_listed = own_in_zone c i (bot_of c i) at;
    node_listed = spot_of_own (bot_of c i).head (end_own (bot_of c i) end.Head);
    peer_listed = own_in_zone c i (bot_of c i) at;
  })
  movement guard (moved.Expand p) d e =
      let told = expand_told c i p d valid at e in
      let v = behind (bot_of c i) p in
      let P : Config → Type 0 = λ x. Moves c i x in
      subst P (sym told.is) (one_small v (grow c i v) (spot_listed v (port_leads_beside (bot_of c i) p) told.may.inside) (grown c i v told.may))
  movement guard (moved.Contract way) d e =
      let told = contract_told c i guard way d valid at e in
      let v = end_node (bot_of c i) way in
      let P : Config → Type 0 = λ x. Moves c i x in
      subst P (sym told.is) (one_small v (shrink c i v) (spot_of_own v (end_own (bot_of c i) way)) (shrunk c i v told.may))
  movement guard (moved.Push p) d e =
      let told = push_told c i p d valid at e in
      let v = behind (bot_of c i) p in
      let beside = port_leads_beside (bot_of c i) p in
      let P : Config → Type 0 = λ x. Moves c i x in
      subst P (sym told.is) (two_small v told.peer i told.peer (spot_listed v beside told.pass.enters.inside) (body_listed v told.peer beside told.by) told.pass (λ j ne other. (other, ne)))
  movement guard (moved.Pull p) d e =
      let told = pull_told c i p d valid at e in
      let v = end_node (bot_of c i) p.end in
      let P : Config → Type 0 = λ x. Moves c i x in
      subst P (sym told.is) (two_small v i told.peer told.peer (spot_of_own v (end_own (bot_of c i) p.end)) (body_listed (behind (bot_of c i) p) told.peer (port_leads_beside (bot_of c i) p) told.by) told.pass (λ j ne other. (ne, other)))
