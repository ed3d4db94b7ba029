use Rattle.std.proofs.Common.{◌∙◌, ◌∷◌, [], get_or, ap, sym, arith}
use Rattle.std.specs.Prelude.{pos}
use Rattle.tri_lattice.specs.declared.node.Node.{Node}
use Rattle.tri_lattice.specs.Lattice.{ring}
use Rattle.round_meter.specs.Asking.{ids_on}
use Rattle.round_meter.proofs.NearLemmas.{taking, ring_more}
use Rattle.round_meter.proofs.near.push_round.Goals as goal

pub loop-neighbour-preserved : goal.loop-neighbour-preserved
loop-neighbour-preserved c =
    let world = c.args.world.now in
    let node = c.args.node in
    let k = c.loop-neighbour.neighbour-index in
    let origin : Node = record { x = pos 0; y = pos 0 } in
    record {
      value =
          c.push_occupant-in-loop-neighbour.ensures.value
          ∙ ap (λ vs. taking c.loop-neighbour.ids.items (ids_on world (get_or vs k origin ∷ []))) c.ring.ensures
          ∙ ap (λ ids. taking ids (ids_on world (get_or (ring node) k origin ∷ []))) c.loop-neighbour.invariant.value
          ∙ sym (ring_more world c.args.ids.now.items node k origin c.loop-neighbour-test.true);
      few = omega arith;
    }
