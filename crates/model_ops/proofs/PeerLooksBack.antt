-- The direction that Peer answers leads back.
use Rattle.std.proofs.Common.{◌≡◌, ◌<◌, true, false, ap, sym, ◌∙◌, subst, inl, inr, arith, not}
use Rattle.tri_lattice.specs.declared.node.Node.{Node}
use Rattle.tri_lattice.specs.Lattice.{step, opposite, node_eq}
use Rattle.tri_lattice.proofs.Nodes.{node_eq-true, eq-node_eq, opposite_leads_back}
use Rattle.tri_lattice.proofs.Steps.{neighbours_are_distinct}
use Rattle.std.proofs.lemmas.Bool.{cases_Bool, both_ways}
use Rattle.amoebot_state.specs.declared.bot.Bot.{Bot}
use Rattle.amoebot_state.specs.Ports.{is_own, is_contracted, is_port, behind, end_node, global, local}
use Rattle.amoebot_state.specs.Configs.{bot_of, occupant}
use Rattle.amoebot_state.proofs.Directions.{global_below, global_local, local_global}
use Rattle.amoebot_state.proofs.Owns.{own_cases}
use Rattle.model_ops.specs.declared.peer.Peer.{Peer}
use Rattle.model_ops.specs.Laws.{LooksBack, PeerLooksBack}
use Rattle.model_ops.proofs.Told.{need_told, peer_told, ok_told, occupant_told}

pub peer_looks_back : PeerLooksBack
peer_looks_back c i p seen valid has e =
    let a = bot_of c i in
    let q = behind a p in
    let u = end_node a p.end in
    let (port, e) = need_told (is_port a p) _ _ seen e in
    let (n, by, e) = peer_told (occupant c q) _ seen e in
    let d = bot_of c n in
    let there = occupant_told c q n by in
    let rot : d.rot < 6 = (valid.each n d there.0).rot in
    let g = global a p.dir in
    let lt : g < 6 = global_below a p.dir in
    let back : step q (opposite g) ≡ u = opposite_leads_back u g lt in
    let turned : opposite g < 6 = omega arith in
    let way = global_local d (opposite g) rot turned in
    let P : Peer → Type 0 = λ s. LooksBack c i p s in
    subst P (ok_told e) (record {
      peer_id = n;
      by = by;
      below = way.0;
      back = ap (step q) way.1 ∙ back;
      alone = λ k low leads.
          let same : global d k ≡ opposite g = neighbours_are_distinct q (global d k) (opposite g) (global_below d k) turned (leads ∙ sym back) in
          sym (local_global d k rot low) ∙ ap (local d) same;
      at_head = at_head d q there.1;
    })
  where
    at_head : (d : Bot) (q : Node) → is_own d q ≡ true → not (is_contracted d) ≡ false → node_eq d.head q ≡ true
    at_head d q own contracted = elim (cases_Bool (is_contracted d)) [
      | inl t ↦ elim (own_cases d q own) [
        | inl h ↦ eq-node_eq d.head q h
        | inr h ↦ eq-node_eq d.head q (node_eq-true d.head d.tail t ∙ h)
      ]
      | inr f ↦ absurd (both_ways _ contracted (ap not f))
    ]
