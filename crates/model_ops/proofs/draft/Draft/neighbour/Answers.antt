use Rattle.std.proofs.Common.{◌∙◌, ap, sym, Ok}
use Rattle.amoebot_state.specs.Configs.{occupant}
use Rattle.model_ops.specs.Operations.{with_peer}
use Rattle.model_ops.proofs.Answered.{exit, refused, passed, neighbour_is, neighbour_there}
use Rattle.model_ops.proofs.draft.Draft.neighbour.Goals as goal

pub returns-in_err-node-clause-value : goal.returns-in_err-node-clause-value
returns-in_err-node-clause-value c = exit _ _ c.from_residual.ensures.1 ∙ refused _ _ _ _ _ c.in_err-node.ensures

pub returns-clause-value : goal.returns-clause-value
returns-clause-value c =
    let w = c.args.self.now.reached in
    let pass = passed _ _ _ _ _ c.in_ok-node.ensures in
    c.ok_or.ensures.value ∙ neighbour_is c.occupant.result ∙ ap (λ o. with_peer o Ok) (c.occupant.ensures ∙ ap (occupant w) pass.0) ∙ sym pass.1

pub returns-clause-there : goal.returns-clause-there
returns-clause-there c =
    rw c.ok_or.ensures.value (neighbour_there c.args.self.now.reached c.in_ok-node.node c.occupant.result c.occupant.ensures)
