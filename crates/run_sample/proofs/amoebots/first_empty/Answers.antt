use Rattle.std.proofs.Common.{◌<◌, ap, sym, ◌∙◌, subst}
use Rattle.tri_lattice.specs.declared.node.Node.{Node}
use Rattle.tri_lattice.specs.Lattice.{step, IsNear}
use Rattle.run_sample.specs.Sample.{node_of}
use Rattle.run_sample.proofs.DirectionLemmas.{beyond, count, nearer}
use Rattle.run_sample.proofs.Near.{near_inside, bot_is_near, head_at, first_reached, next_reached, last_reached}
use Rattle.run_sample.proofs.amoebots.first_empty.Goals as goal

pub step-node-requires : goal.step-node-requires
step-node-requires c = subst IsNear (head_at c.args.bots.now c.args.index c.requires.there) (bot_is_near c.args.bots.now c.args.index c.requires.there c.requires.inside)

pub step-node-requires-in-loop-dir : goal.step-node-requires-in-loop-dir
step-node-requires-in-loop-dir c = near_inside c.loop-dir.node (c.requires.inside c.loop-dir.node (sym c.is_taken.ensures ∙ c.loop-dir-test.true))

pub loop-dir-init : goal.loop-dir-init
loop-dir-init c = first_reached c.args.bots.now (node_of c.args.bots.now c.args.index) c.args.dir c.step-node.result (c.step-node.ensures ∙ ap (λ (v : Node). step v c.args.dir) (sym (head_at c.args.bots.now c.args.index c.requires.there)))

pub loop-dir-preserved : goal.loop-dir-preserved
loop-dir-preserved c =
    next_reached c.args.bots.now (node_of c.args.bots.now c.args.index) c.args.dir c.loop-dir.node c.step-node-in-loop-dir.result c.loop-dir.invariant (sym c.is_taken.ensures ∙ c.loop-dir-test.true) c.step-node-in-loop-dir.ensures

pub loop-dir-smaller : goal.loop-dir-smaller
loop-dir-smaller c =
    let less = nearer c.loop-dir.node c.args.dir (c.requires.inside c.loop-dir.node (sym c.is_taken.ensures ∙ c.loop-dir-test.true)) in
    subst (λ (v : Node). count (beyond v c.args.dir) < count (beyond c.loop-dir.node c.args.dir)) (sym c.step-node-in-loop-dir.ensures) less

pub returns : goal.returns
returns c = last_reached c.args.bots.now (node_of c.args.bots.now c.args.index) c.args.dir c.loop-dir.node c.loop-dir.invariant (sym c.is_taken.ensures ∙ c.loop-dir-test.false)
