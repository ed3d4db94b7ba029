use Rattle.std.proofs.Common.{◌∙◌, ap, sym, List}
use Rattle.amoebot_state.specs.Configs.{walled_frame, occupant}
use Rattle.model_ops.specs.declared.member.Member.{Member}
use Rattle.model_ops.specs.Members.{id_on}
use Rattle.model_ops.specs.WorkingCopies.{WorkingCopy}
use Rattle.model_ops.proofs.Members.{occupant_of}
use Rattle.model_ops.proofs.draft.Draft.occupant.Goals as goal

pub returns : goal.returns
returns c =
    let s = c.self.inside in
    let frame = walled_frame s.area s.walls.items s.maxes in
    c.id_on.ensures
    ∙ ap (λ (ms : List Member). id_on ms c.args.node) c.as_slice.ensures.value
    ∙ sym (occupant_of (λ (m : Member). m.now) frame s.members.items c.args.node c.self.invariant.apart)
    ∙ ap (λ (w : WorkingCopy). occupant w.reached c.args.node) c.self.view_is
