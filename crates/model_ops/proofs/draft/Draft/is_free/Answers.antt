use Rattle.std.proofs.Common.{◌∙◌, ap, sym, Ok}
use Rattle.model_ops.specs.Operations.{is_free_node}
use Rattle.model_ops.proofs.Answered.{exit, refused, passed}
use Rattle.model_ops.proofs.draft.Draft.is_free.Goals as goal

pub returns-in_err-node : goal.returns-in_err-node
returns-in_err-node c = exit _ _ c.from_residual.ensures.1 ∙ refused _ _ _ _ _ c.in_err-node.ensures

pub returns : goal.returns
returns c =
    let pass = passed _ _ _ _ _ c.in_ok-node.ensures in
    ap Ok (c.is_free_node.ensures ∙ ap (is_free_node c.args.self.now.reached) pass.0) ∙ sym pass.1
