use Rattle.std.proofs.Common.{◌∙◌, ap, sym, get_or, List, Some}
use Rattle.std.specs.Option.{option_map}
use Rattle.amoebot_state.specs.Configs.{bot_at, walled_frame}
use Rattle.model_ops.specs.declared.member.Member.{Member}
use Rattle.model_ops.specs.WorkingCopies.{WorkingCopy, own_id}
use Rattle.model_ops.proofs.Members.{bot_by, find_first}
use Rattle.model_ops.proofs.draft.Draft.own.Goals as goal

pub returns-clause-value : goal.returns-clause-value
returns-clause-value c =
    let s = c.self.inside in
    let frame = walled_frame s.area s.walls.items s.maxes in
    let ms = s.members.items in
    ap (λ (w : WorkingCopy). bot_at w.reached (own_id w)) (sym c.self.view_is)
    ∙ bot_by (λ (m : Member). m.now) frame ms s.own
    ∙ ap (option_map (λ (m : Member). m.now)) (find_first s.own ms _ c.self.invariant.first)
    ∙ ap (λ (xs : List Member). Some (get_or {A = Member} xs 0 _).now) (sym c.deref.ensures.0)
