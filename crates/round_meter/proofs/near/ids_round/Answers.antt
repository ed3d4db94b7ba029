use Rattle.std.proofs.Common.{◌∙◌, ◌∷◌, [], get_or, ap, arith, sym}
use Rattle.std.specs.Prelude.{pos}
use Rattle.tri_lattice.specs.declared.node.Node.{Node}
use Rattle.round_meter.specs.Asking.{ids_round}
use Rattle.round_meter.proofs.NearLemmas.{round_more, taking}
use Rattle.round_meter.proofs.near.ids_round.Goals as goal

pub push_round-requires-clause-room : goal.push_round-requires-clause-room
push_round-requires-clause-room c = omega (arith, c.requires.few)

pub loop-node-preserved : goal.loop-node-preserved
loop-node-preserved c =
    let world = c.args.world.now in
    let vs = c.args.nodes.now in
    let k = c.loop-node.node-index in
    let origin : Node = record { x = pos 0; y = pos 0 } in
    record {
      value =
          c.push_round.ensures.value
          ∙ ap (λ ids. taking ids (ids_round world (get_or vs k origin ∷ []))) c.loop-node.invariant.value
          ∙ sym (round_more world [] vs k origin c.loop-node-test.true);
      few = omega arith;
    }
