use Rattle.std.proofs.Common.{◌∙◌, ap, sym, get_or, List, Some, nat_eq}
use Rattle.std.specs.List.{position}
use Rattle.amoebot_state.specs.Configs.{bot_at, walled_frame}
use Rattle.model_ops.specs.declared.member.Member.{Member}
use Rattle.model_ops.specs.Members.{has_id}
use Rattle.model_ops.specs.WorkingCopies.{WorkingCopy}
use Rattle.model_ops.proofs.Members.{bot_placed, member_there}
use Rattle.model_ops.proofs.draft.Draft.bot.Goals as goal

pub place_of-place-requires : goal.place_of-place-requires
place_of-place-requires c =
    let s = c.self.inside in
    let frame = walled_frame s.area s.walls.items s.maxes in
    ap (λ (ms : List Member). has_id ms c.args.id) c.as_slice.ensures.value ∙ member_there frame s.own s.members.items _ c.args.id c.self.view_is c.requires

pub returns-clause-value : goal.returns-clause-value
returns-clause-value c =
    let s = c.self.inside in
    let frame = walled_frame s.area s.walls.items s.maxes in
    let ms = s.members.items in
    let k = c.place_of-place.result in
    let placed = ap (λ (xs : List Member). position (λ m. nat_eq m.id c.args.id) xs) (sym c.as_slice.ensures.value) ∙ c.place_of-place.ensures in
    ap (λ (w : WorkingCopy). bot_at w.reached c.args.id) (sym c.self.view_is)
    ∙ bot_placed (λ (m : Member). m.now) frame ms c.args.id k _ placed
    ∙ ap (λ (xs : List Member). Some (get_or {A = Member} xs k _).now) (sym c.deref.ensures.0)
