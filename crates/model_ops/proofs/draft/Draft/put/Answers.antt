use Rattle.std.proofs.Common.{◌∙◌, ap, sym, subst, List, nat_eq}
use Rattle.std.specs.List.{position}
use Rattle.amoebot_state.specs.Configs.{walled_frame, set_bot}
use Rattle.model_ops.specs.declared.member.Member.{Member}
use Rattle.model_ops.specs.WorkingCopies.{WorkingCopy}
use Rattle.model_ops.specs.Members.{IsSite, copy_of, has_id}
use Rattle.model_ops.proofs.Members.{member_there, site_with_now, copy_with_now, written_items}
use Rattle.model_ops.proofs.draft.Draft.put.Goals as goal

pub place_of-place-requires : goal.place_of-place-requires
place_of-place-requires c =
    let s = c.self.inside in
    let frame = walled_frame s.area s.walls.items s.maxes in
    ap (λ (ms : List Member). has_id ms c.args.id) c.as_slice.ensures.value ∙ member_there frame s.own s.members.items _ c.args.id c.self.view_is c.requires.there

pub invariant_of-self : goal.invariant_of-self
invariant_of-self c =
    let s = c.self.inside in
    let frame = walled_frame s.area s.walls.items s.maxes in
    let ms = s.members.items in
    let k = c.place_of-place.result in
    let placed = ap (λ (xs : List Member). position (λ m. nat_eq m.id c.args.id) xs) (sym c.as_slice.ensures.value) ∙ c.place_of-place.ensures in
    let P : List Member → Type 0 = IsSite frame s.own in
    subst P (sym (written_items s.members c.deref_mut.result.now k _ c.args.bot c.deref_mut.ensures.value)) (site_with_now frame s.own ms c.args.id k _ c.args.bot placed c.self.invariant c.requires.in_range)

pub returns : goal.returns
returns c =
    let s = c.self.inside in
    let frame = walled_frame s.area s.walls.items s.maxes in
    let ms = s.members.items in
    let k = c.place_of-place.result in
    let placed = ap (λ (xs : List Member). position (λ m. nat_eq m.id c.args.id) xs) (sym c.as_slice.ensures.value) ∙ c.place_of-place.ensures in
    ap (copy_of frame s.own) (written_items s.members c.deref_mut.result.now k _ c.args.bot c.deref_mut.ensures.value)
    ∙ copy_with_now frame s.own ms c.args.id k _ c.args.bot placed
    ∙ ap (λ (w : WorkingCopy). record w { reached = set_bot w.reached c.args.id c.args.bot }) c.self.view_is
