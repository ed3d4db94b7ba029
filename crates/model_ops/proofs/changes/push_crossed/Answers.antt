use Rattle.std.proofs.Common.{◌∙◌, ◌++◌, [], ap, sym, Some}
use Rattle.std.specs.Prelude.{if◌then◌else◌}
use Rattle.std.proofs.lemmas.List.{append-nil}
use Rattle.model_ops.specs.Members.{changed_spot}
use Rattle.model_ops.proofs.OnlyChanged.{passed, uncrossed_unchanged}
use Rattle.model_ops.proofs.changes.push_crossed.Goals as goal
use Rattle.model_ops.proofs.changes.push_crossed.Goals.{then-is_crossed+else-push_changed_node, else-is_crossed}

pub loop-node-preserved : goal.loop-node-preserved
loop-node-preserved c =
    let ms = c.args.members.now in
    let vs = c.args.nodes.now in
    let i = c.loop-node.node-index in
    let lt = c.loop-node-test.true in
    elim c.if-is_crossed.branch [
      | then-is_crossed+else-push_changed_node w ↦ (
        w.patch-is ∙ w.push_changed_node.ensures.value
            ∙ ap (λ t. c.loop-node.patch ++ (if t then changed_spot ms (Some _) else [])) w.if-push_changed_node.false
            ∙ append-nil c.loop-node.patch ∙ c.loop-node.invariant.0,
        c.loop-node.invariant.1 ∙ passed ms vs i _ lt (sym w.push_changed_node.ensures.told ∙ w.if-push_changed_node.false),
      )
      | else-is_crossed w ↦ (
        w.patch-is ∙ c.loop-node.invariant.0,
        c.loop-node.invariant.1 ∙ passed ms vs i _ lt (uncrossed_unchanged ms c.args.only.now _ (sym c.is_crossed.ensures ∙ w.if-is_crossed.false) c.requires.alone),
      )
    ]
