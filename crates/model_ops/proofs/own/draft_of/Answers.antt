use Rattle.std.proofs.Common.{◌∙◌, ap}
use Rattle.amoebot_state.specs.Configs.{set_bot}
use Rattle.model_ops.specs.WorkingCopies.{WorkingCopy, own_id}
use Rattle.model_ops.proofs.own.draft_of.Goals as goal

pub returns : goal.returns
returns c =
    let own = c.args.own.now in
    c.put.ensures
    ∙ ap (λ i. let w : WorkingCopy = record c.new-draft.result { reached = set_bot c.new-draft.result.reached i own } in w) c.own_id-id.ensures.value
    ∙ ap (λ (w : WorkingCopy). record w { reached = set_bot w.reached (own_id w) own }) c.new-draft.ensures
