use Rattle.std.proofs.Common.{◌∙◌, ◌++◌, ◌∷◌, ap, arith, sym, [], List, ℕ, filter, get_or, pos, take}
use Rattle.std.specs.Prelude.{if◌then◌else◌}
use Rattle.std.specs.List.{fold}
use Rattle.std.proofs.lemmas.List.{take_all, take_more}
use Rattle.std.proofs.lemmas.List.Elements.{filter-append}
use Rattle.std.proofs.lemmas.List.Sums.{fold_more}
use Rattle.tri_lattice.specs.declared.node.Node.{Node}
use Rattle.amoebot_state.specs.declared.cell.CellName.TheVariants as name
use Rattle.amoebot_state.specs.declared.cell.Cell.TheVariants as cell
use Rattle.amoebot_state.specs.Configs.{is_wall, occupant}
use Rattle.amoebot_state.specs.Storage.{with_other}
use Rattle.amoebot_state.proofs.Members.{more_mapped}
use Rattle.amoebot_state.proofs.Zones.{others_taken_up}
use Rattle.amoebot_state.proofs.world.World.put_nodes.Goals as goal

pub loop-node-preserved : goal.loop-node-preserved
loop-node-preserved c =
    let origin : Node = record { x = pos 0; y = pos 0 } in
    let w = c.args.self.now in
    let vs = c.args.nodes.now in
    let i = c.loop-node.node-index in
    let lt = c.loop-node-test.true in
    let was = c.loop-node.invariant in
    let at = get_or vs i origin in
    let add : List ℕ → Node → List ℕ = λ is v. with_other c.args.bot is (occupant w v) in
    record {
      cells = more_mapped (λ v. (name.Spot v, cell.Spot (occupant w v))) vs i origin c.args.cells.now.items c.loop-node.cells.items c.push.new.self.items _ lt was.cells c.push.ensures.items (ap (λ o. (name.Spot at, cell.Spot o)) c.on_node-occupant.ensures.occupant);
      walls = c.push_if.ensures.items
          ∙ (λ t. was.walls t ++ (if c.on_node-occupant.ensures.wall t then at ∷ [] else []))
          ∙ sym (ap (filter (is_wall w)) (take_more vs i origin lt) ∙ filter-append (is_wall w) (take i vs) (at ∷ []));
      ids = c.push_other.ensures.value
          ∙ ap (with_other c.args.bot c.loop-node.ids.items) c.on_node-occupant.ensures.occupant
          ∙ ap (λ is. add is at) was.ids
          ∙ sym (fold_more add [] vs i origin lt);
      room = omega (arith, c.push.ensures.len, was.room);
      few_walls = omega (arith, c.push_if.ensures.few, was.few_walls);
      few_ids = omega (arith, c.push_other.ensures.few, was.few_ids);
    }

pub returns-clause-others : goal.returns-clause-others
returns-clause-others c =
    let add : List ℕ → Node → List ℕ = λ is v. with_other c.args.bot is (occupant c.args.self.now v) in
    c.loop-node.invariant.ids
    ∙ ap (fold add []) (take_all c.loop-node.node-index c.args.nodes.now c.loop-node-test.false)
    ∙ others_taken_up (occupant c.args.self.now) c.args.bot c.args.nodes.now
