use Rattle.std.proofs.Common.{◌∙◌, ap, sym, subst, get_or, List}
use Rattle.amoebot_state.specs.Configs.{walled_frame}
use Rattle.amoebot_state.specs.Zones.{shown_alone}
use Rattle.model_ops.specs.declared.member.Member.{Member}
use Rattle.model_ops.specs.Members.{changed_cells}
use Rattle.model_ops.specs.Reaches.{Reaches}
use Rattle.model_ops.specs.WorkingCopies.{WorkingCopy, own_id, changes}
use Rattle.model_ops.proofs.PatchLemmas.{patches}
use Rattle.model_ops.proofs.draft.Draft.push_changes.Goals as goal

pub returns : goal.returns
returns c =
    let s = c.self.inside in
    let frame = walled_frame s.area s.walls.items s.maxes in
    let ms = s.members.items in
    let reaches = subst (λ (w : WorkingCopy). Reaches (shown_alone w.found) (own_id w) w.reached) (sym c.self.view_is) c.requires.reaches in
    c.push_changed.ensures
    ∙ ap (λ (xs : List Member). changed_cells xs (get_or {A = Member} c.deref.result.now 0 _)) c.as_slice.ensures.value
    ∙ ap (λ (xs : List Member). changed_cells ms (get_or {A = Member} xs 0 _)) c.deref.ensures.0
    ∙ patches frame s.own ms _ c.self.invariant reaches
    ∙ ap changes c.self.view_is
