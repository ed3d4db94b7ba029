use Rattle.std.proofs.Common.{◌∙◌, [], get_or, None, ap, arith, sym}
use Rattle.std.specs.Prelude.{pos}
use Rattle.amoebot_state.specs.Pairs.{CellChange}
use Rattle.amoebot_state.specs.declared.cell.Cell.TheVariants as cell
use Rattle.amoebot_state.specs.declared.cell.CellName.TheVariants as name
use Rattle.round_meter.proofs.NearLemmas.{nodes_more, reach_at, taking_nodes}
use Rattle.round_meter.proofs.near.nodes_near.Goals as goal
use Rattle.round_meter.specs.Asking.{nodes_of_cell}

-- what an index past the end gives
nothing : CellChange
nothing = (name.Spot (record { x = pos 0; y = pos 0 }), cell.Spot None, cell.Spot None)

pub push_nodes-requires-clause-reach : goal.push_nodes-requires-clause-reach
unfolding nothing
push_nodes-requires-clause-reach c = reach_at c.args.world.now c.args.changes.now c.loop-name.name-index nothing c.requires.reach c.loop-name-test.true

pub push_nodes-requires-clause-room : goal.push_nodes-requires-clause-room
push_nodes-requires-clause-room c = omega (arith, c.requires.few)

pub loop-name-preserved : goal.loop-name-preserved
unfolding nothing
loop-name-preserved c =
    let world = c.args.world.now in
    let ts = c.args.changes.now in
    let k = c.loop-name.name-index in
    record {
      value =
          c.push_nodes.ensures.value
          ∙ ap (λ vs. taking_nodes vs (nodes_of_cell world (get_or ts k nothing).0)) c.loop-name.invariant.value
          ∙ sym (nodes_more world [] ts k nothing c.loop-name-test.true);
      few = omega arith;
      near = c.push_nodes.ensures.near;
    }
