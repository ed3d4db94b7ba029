use Rattle.std.proofs.Common.{◌∙◌, ◌≡◌, ◌∷◌, ◌++◌, ◌-◌, [], List, length, true, not, ap, sym, arith, length-append}
use Rattle.std.specs.Prelude.{is_some}
use Rattle.tri_lattice.specs.declared.node.Node.{Node}
use Rattle.tri_lattice.specs.Lattice.{node_eq, step}
use Rattle.tri_lattice.specs.Extent.{is_in}
use Rattle.amoebot_state.specs.declared.bot.End.TheVariants.{Head}
use Rattle.amoebot_state.specs.declared.way.Way.TheVariants as way
use Rattle.amoebot_state.specs.Ports.{behind, port}
use Rattle.amoebot_state.specs.Ways.{way_among}
use Rattle.amoebot_state.proofs.Ways.{head_port, head_adds, no_port, port_outside}
use Rattle.amoebot_state.proofs.way.push_head_way.Goals as goal
use Rattle.amoebot_state.proofs.way.push_head_way.Goals.{else-not-inner-via-then-not-inner+else-is_none, else-not-inner-via-else-not-inner}

pub returns-then-eq-clause-nodes : goal.returns-then-eq-clause-nodes
returns-then-eq-clause-nodes c =
    let b = c.args.bot.now in
    let to = c.step-node.ensures ∙ ap (step b.head) c.global.ensures in
    let tail = ap (λ v. node_eq v b.tail) (sym to) ∙ sym c.eq.ensures ∙ c.if-eq.true in
    sym (no_port c.args.area.now b c.args.nodes.now.items c.args.nodes.now.items (port Head c.args.dir) (head_port b c.args.dir c.requires.below ∙ ap not tail)).0

pub returns-then-eq-clause-way : goal.returns-then-eq-clause-way
returns-then-eq-clause-way c =
    let b = c.args.bot.now in
    let to = c.step-node.ensures ∙ ap (step b.head) c.global.ensures in
    let tail = ap (λ v. node_eq v b.tail) (sym to) ∙ sym c.eq.ensures ∙ c.if-eq.true in
    sym (no_port c.args.area.now b c.args.nodes.now.items c.args.nodes.now.items (port Head c.args.dir) (head_port b c.args.dir c.requires.below ∙ ap not tail)).1

pub returns-then-is_none-clause-nodes : goal.returns-then-is_none-clause-nodes
returns-then-is_none-clause-nodes c =
    let b = c.args.bot.now in
    let to = c.step-node.ensures ∙ ap (step b.head) c.global.ensures in
    let tail = ap (λ v. node_eq v b.tail) (sym to) ∙ sym c.eq.ensures ∙ c.if-eq.false in
    let out = ap (is_in c.args.area.now) (sym to) ∙ ap is_some (sym c.index.ensures.value) ∙ c.is_none.ensures ∙ ap not c.if-is_none.true in
    sym (port_outside c.args.area.now b c.args.nodes.now.items c.args.nodes.now.items (port Head c.args.dir) (head_port b c.args.dir c.requires.below ∙ ap not tail) out).0

pub returns-then-is_none-clause-way : goal.returns-then-is_none-clause-way
returns-then-is_none-clause-way c =
    let b = c.args.bot.now in
    let to = c.step-node.ensures ∙ ap (step b.head) c.global.ensures in
    let tail = ap (λ v. node_eq v b.tail) (sym to) ∙ sym c.eq.ensures ∙ c.if-eq.false in
    let out = ap (is_in c.args.area.now) (sym to) ∙ ap is_some (sym c.index.ensures.value) ∙ c.is_none.ensures ∙ ap not c.if-is_none.true in
    sym (port_outside c.args.area.now b c.args.nodes.now.items c.args.nodes.now.items (port Head c.args.dir) (head_port b c.args.dir c.requires.below ∙ ap not tail) out).1

pub push-requires : goal.push-requires
push-requires c =
    let b = c.args.bot.now in
    let vs = c.args.nodes.now.items in
    let to = c.step-node.ensures ∙ ap (step b.head) c.global.ensures in
    let tail = ap (λ v. node_eq v b.tail) (sym to) ∙ sym c.eq.ensures ∙ c.if-eq.false in
    let inside : is_in c.args.area.now (behind b (port Head c.args.dir)) ≡ true = elim c.else-not-inner.branch [
      | else-not-inner-via-then-not-inner+else-is_none w ↦ ap (is_in c.args.area.now) (sym to) ∙ ap is_some (sym w.index.ensures.value) ∙ w.is_none.ensures ∙ ap not w.if-is_none.false
      | else-not-inner-via-else-not-inner w ↦ c.requires.inner w.if-not-inner.false
    ] in
    let adds = head_adds c.args.area.now b vs c.args.dir c.requires.in_range.rot c.requires.below c.requires.before tail inside in
    (omega arith, omega (arith, c.requires.room, ap (λ (us : List Node). length us) adds.0, length-append vs (behind b (port Head c.args.dir) ∷ [])))

pub returns-clause-nodes : goal.returns-clause-nodes
returns-clause-nodes c =
    let b = c.args.bot.now in
    let vs = c.args.nodes.now.items in
    let to = c.step-node.ensures ∙ ap (step b.head) c.global.ensures in
    let tail = ap (λ v. node_eq v b.tail) (sym to) ∙ sym c.eq.ensures ∙ c.if-eq.false in
    let inside : is_in c.args.area.now (behind b (port Head c.args.dir)) ≡ true = elim c.else-not-inner.branch [
      | else-not-inner-via-then-not-inner+else-is_none w ↦ ap (is_in c.args.area.now) (sym to) ∙ ap is_some (sym w.index.ensures.value) ∙ w.is_none.ensures ∙ ap not w.if-is_none.false
      | else-not-inner-via-else-not-inner w ↦ c.requires.inner w.if-not-inner.false
    ] in
    let adds = head_adds c.args.area.now b vs c.args.dir c.requires.in_range.rot c.requires.below c.requires.before tail inside in
    c.push.ensures.items ∙ ap (λ v. vs ++ v ∷ []) to ∙ sym adds.0

pub returns-clause-way : goal.returns-clause-way
returns-clause-way c =
    let b = c.args.bot.now in
    let vs = c.args.nodes.now.items in
    let to = c.step-node.ensures ∙ ap (step b.head) c.global.ensures in
    let tail = ap (λ v. node_eq v b.tail) (sym to) ∙ sym c.eq.ensures ∙ c.if-eq.false in
    let inside : is_in c.args.area.now (behind b (port Head c.args.dir)) ≡ true = elim c.else-not-inner.branch [
      | else-not-inner-via-then-not-inner+else-is_none w ↦ ap (is_in c.args.area.now) (sym to) ∙ ap is_some (sym w.index.ensures.value) ∙ w.is_none.ensures ∙ ap not w.if-is_none.false
      | else-not-inner-via-else-not-inner w ↦ c.requires.inner w.if-not-inner.false
    ] in
    let adds = head_adds c.args.area.now b vs c.args.dir c.requires.in_range.rot c.requires.below c.requires.before tail inside in
    let place : c.len.result - 1 ≡ length vs = omega (arith, c.len.ensures.value, c.push.ensures.len) in
    ap way.To place
    ∙ sym adds.1
    ∙ ap (λ us. way_among c.args.area.now b us (port Head c.args.dir)) (ap (λ v. vs ++ v ∷ []) (sym to) ∙ sym c.push.ensures.items)
