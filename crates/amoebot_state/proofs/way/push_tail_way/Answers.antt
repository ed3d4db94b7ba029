use Rattle.std.proofs.Common.{◌∙◌, ◌≤◌, List, length, not, ap, sym, subst}
use Rattle.std.specs.Prelude.{is_some}
use Rattle.tri_lattice.specs.declared.node.Node.{Node}
use Rattle.tri_lattice.specs.Lattice.{node_eq, step}
use Rattle.tri_lattice.specs.Extent.{is_in}
use Rattle.amoebot_state.specs.declared.bot.End.TheVariants.{Tail}
use Rattle.amoebot_state.specs.declared.way.Way.TheVariants as way
use Rattle.amoebot_state.specs.Ports.{port}
use Rattle.amoebot_state.specs.Storage.{with_new}
use Rattle.amoebot_state.specs.Ways.{node_place}
use Rattle.amoebot_state.proofs.Ways.{tail_port, no_port, port_outside, port_inside}
use Rattle.amoebot_state.proofs.way.push_tail_way.Goals as goal

pub returns-then-eq-clause-nodes : goal.returns-then-eq-clause-nodes
returns-then-eq-clause-nodes c =
    let b = c.args.bot.now in
    let to = c.step-node.ensures ∙ ap (step b.tail) c.global.ensures in
    let head = ap (λ v. node_eq v b.head) (sym to) ∙ sym c.eq.ensures ∙ c.if-eq.true in
    sym (no_port c.args.area.now b c.args.nodes.now.items c.args.nodes.now.items (port Tail c.args.dir) (tail_port b c.args.dir c.requires.below c.requires.expanded ∙ ap not head)).0

pub returns-then-eq-clause-way : goal.returns-then-eq-clause-way
returns-then-eq-clause-way c =
    let b = c.args.bot.now in
    let to = c.step-node.ensures ∙ ap (step b.tail) c.global.ensures in
    let head = ap (λ v. node_eq v b.head) (sym to) ∙ sym c.eq.ensures ∙ c.if-eq.true in
    sym (no_port c.args.area.now b c.args.nodes.now.items c.args.nodes.now.items (port Tail c.args.dir) (tail_port b c.args.dir c.requires.below c.requires.expanded ∙ ap not head)).1

pub returns-then-is_none-clause-nodes : goal.returns-then-is_none-clause-nodes
returns-then-is_none-clause-nodes c =
    let b = c.args.bot.now in
    let to = c.step-node.ensures ∙ ap (step b.tail) c.global.ensures in
    let head = ap (λ v. node_eq v b.head) (sym to) ∙ sym c.eq.ensures ∙ c.if-eq.false in
    let out = ap (is_in c.args.area.now) (sym to) ∙ ap is_some (sym c.index.ensures.value) ∙ c.is_none.ensures ∙ ap not c.if-is_none.true in
    sym (port_outside c.args.area.now b c.args.nodes.now.items c.args.nodes.now.items (port Tail c.args.dir) (tail_port b c.args.dir c.requires.below c.requires.expanded ∙ ap not head) out).0

pub returns-then-is_none-clause-way : goal.returns-then-is_none-clause-way
returns-then-is_none-clause-way c =
    let b = c.args.bot.now in
    let to = c.step-node.ensures ∙ ap (step b.tail) c.global.ensures in
    let head = ap (λ v. node_eq v b.head) (sym to) ∙ sym c.eq.ensures ∙ c.if-eq.false in
    let out = ap (is_in c.args.area.now) (sym to) ∙ ap is_some (sym c.index.ensures.value) ∙ c.is_none.ensures ∙ ap not c.if-is_none.true in
    sym (port_outside c.args.area.now b c.args.nodes.now.items c.args.nodes.now.items (port Tail c.args.dir) (tail_port b c.args.dir c.requires.below c.requires.expanded ∙ ap not head) out).1

pub push_place-requires : goal.push_place-requires
push_place-requires c =
    let b = c.args.bot.now in
    let vs = c.args.nodes.now.items in
    let to = c.step-node.ensures ∙ ap (step b.tail) c.global.ensures in
    let head = ap (λ v. node_eq v b.head) (sym to) ∙ sym c.eq.ensures ∙ c.if-eq.false in
    let inside = ap (is_in c.args.area.now) (sym to) ∙ ap is_some (sym c.index.ensures.value) ∙ c.is_none.ensures ∙ ap not c.if-is_none.false in
    let adds = port_inside c.args.area.now b vs vs (port Tail c.args.dir) (tail_port b c.args.dir c.requires.below c.requires.expanded ∙ ap not head) inside in
    subst (λ (us : List Node). length us ≤ 10) (adds.0 ∙ ap (with_new node_eq vs) (sym to)) c.requires.room

pub returns-clause-nodes : goal.returns-clause-nodes
returns-clause-nodes c =
    let b = c.args.bot.now in
    let vs = c.args.nodes.now.items in
    let to = c.step-node.ensures ∙ ap (step b.tail) c.global.ensures in
    let head = ap (λ v. node_eq v b.head) (sym to) ∙ sym c.eq.ensures ∙ c.if-eq.false in
    let inside = ap (is_in c.args.area.now) (sym to) ∙ ap is_some (sym c.index.ensures.value) ∙ c.is_none.ensures ∙ ap not c.if-is_none.false in
    let adds = port_inside c.args.area.now b vs vs (port Tail c.args.dir) (tail_port b c.args.dir c.requires.below c.requires.expanded ∙ ap not head) inside in
    c.push_place.ensures.nodes ∙ ap (with_new node_eq vs) to ∙ sym adds.0

pub returns-clause-way : goal.returns-clause-way
returns-clause-way c =
    let b = c.args.bot.now in
    let us = c.push_place.new.nodes.items in
    let to = c.step-node.ensures ∙ ap (step b.tail) c.global.ensures in
    let head = ap (λ v. node_eq v b.head) (sym to) ∙ sym c.eq.ensures ∙ c.if-eq.false in
    let inside = ap (is_in c.args.area.now) (sym to) ∙ ap is_some (sym c.index.ensures.value) ∙ c.is_none.ensures ∙ ap not c.if-is_none.false in
    let adds = port_inside c.args.area.now b us us (port Tail c.args.dir) (tail_port b c.args.dir c.requires.below c.requires.expanded ∙ ap not head) inside in
    ap way.To (c.push_place.ensures.place ∙ ap (node_place us) to) ∙ sym adds.1
