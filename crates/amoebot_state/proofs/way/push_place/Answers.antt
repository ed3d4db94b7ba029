use Rattle.std.proofs.Common.{◌∙◌, ◌∷◌, [], List, ap, sym, arith, length, length-append}
use Rattle.std.specs.List.{position}
use Rattle.tri_lattice.specs.declared.node.Node.{Node}
use Rattle.tri_lattice.specs.Lattice.{node_eq}
use Rattle.amoebot_state.specs.Ways.{node_place}
use Rattle.amoebot_state.proofs.Ways.{found_at, not_found}
use Rattle.amoebot_state.proofs.way.push_place.Goals as goal

pub push-requires : goal.push-requires
push-requires c =
    let is = c.place_in.ensures ∙ ap (position (λ u. node_eq u c.args.node)) c.as_slice.ensures.value in
    let new = not_found c.args.nodes.now.items c.args.node (sym is ∙ c.in-None.is) in
    (omega arith, omega (arith, c.requires, ap (λ (vs : List Node). length vs) new.0, length-append c.args.nodes.now.items (c.args.node ∷ [])))

pub returns-in-Some-clause-nodes : goal.returns-in-Some-clause-nodes
returns-in-Some-clause-nodes c =
    let is = c.place_in.ensures ∙ ap (position (λ u. node_eq u c.args.node)) c.as_slice.ensures.value in
    sym (found_at c.args.nodes.now.items c.args.node c.in-Some.place (sym is ∙ c.in-Some.is)).1

pub returns-in-None-clause-nodes : goal.returns-in-None-clause-nodes
returns-in-None-clause-nodes c =
    let is = c.place_in.ensures ∙ ap (position (λ u. node_eq u c.args.node)) c.as_slice.ensures.value in
    c.push.ensures.items ∙ sym (not_found c.args.nodes.now.items c.args.node (sym is ∙ c.in-None.is)).0

pub returns-in-None-clause-place : goal.returns-in-None-clause-place
returns-in-None-clause-place c =
    let is = c.place_in.ensures ∙ ap (position (λ u. node_eq u c.args.node)) c.as_slice.ensures.value in
    let new = not_found c.args.nodes.now.items c.args.node (sym is ∙ c.in-None.is) in
    omega (arith, c.len.ensures.value, c.push.ensures.len) ∙ sym new.1 ∙ ap (λ vs. node_place vs c.args.node) (sym c.push.ensures.items)
