use Rattle.std.proofs.Common.{◌≡◌, ◌≤◌, ◌∙◌, length, arith, ap, subst, sym, nat_lt}
use Rattle.std.specs.Prelude.{unwrap_or}
use Rattle.std.specs.List.{insert, position, position_or_len}
use Rattle.model_ops.specs.declared.member.Member.{Member}
use Rattle.model_ops.proofs.Ranked.{inserted, place_or_end, position_or_len-le}
use Rattle.model_ops.proofs.member.add.Goals as goal

pub insert-requires : goal.insert-requires
insert-requires c =
    let ms = c.args.members.now.items in
    let above = λ (n : Member). nat_lt c.args.member.now.id n.id in
    let place : c.unwrap_or-place.result ≡ position_or_len above ms = c.unwrap_or-place.ensures ∙ ap (unwrap_or c.place_above.result) c.len.ensures.value ∙ ap (λ o. unwrap_or o (length ms)) (c.place_above.ensures ∙ ap (position above) c.as_slice.ensures.value) ∙ place_or_end above ms in
    (omega arith, (subst (λ k. k ≤ length ms) (sym place) (position_or_len-le above ms), c.requires))

pub returns-clause-value : goal.returns-clause-value
returns-clause-value c =
    let ms = c.args.members.now.items in
    let m = c.args.member.now in
    let above = λ (n : Member). nat_lt c.args.member.now.id n.id in
    let place : c.unwrap_or-place.result ≡ position_or_len above ms = c.unwrap_or-place.ensures ∙ ap (unwrap_or c.place_above.result) c.len.ensures.value ∙ ap (λ o. unwrap_or o (length ms)) (c.place_above.ensures ∙ ap (position above) c.as_slice.ensures.value) ∙ place_or_end above ms in
    c.insert.ensures.items ∙ ap (λ k. insert ms k m) place ∙ inserted ms m
