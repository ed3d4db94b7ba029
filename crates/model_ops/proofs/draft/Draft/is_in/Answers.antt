use Rattle.std.proofs.Common.{◌∙◌, ap, sym}
use Rattle.std.specs.Prelude.{is_some}
use Rattle.amoebot_state.specs.Configs.{walled_frame}
use Rattle.model_ops.proofs.Members.{near_site}
use Rattle.model_ops.proofs.draft.Draft.is_in.Goals as goal

pub returns-clause-near : goal.returns-clause-near
returns-clause-near c = λ t.
    let s = c.self.inside in
    let frame = walled_frame s.area s.walls.items s.maxes in
    near_site frame s.own s.members.items c.args.node c.self.invariant (sym (c.is_some.ensures ∙ ap is_some c.index.ensures.value) ∙ t)
