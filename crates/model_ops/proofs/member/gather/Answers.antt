use Rattle.std.proofs.Common.{◌<◌, ◌∙◌, ◌++◌, get_or, [], ◌∷◌, ap, arith, length, subst, sym, take, List}
use Rattle.std.specs.List.{filter_map}
use Rattle.amoebot_state.specs.Pairs.{Pairs}
use Rattle.arrayvec.specs.ArrayVec.{ArrayVec}
use Rattle.model_ops.specs.declared.member.Member.{Member}
use Rattle.model_ops.specs.Members.{taken, unchanged}
use Rattle.model_ops.proofs.Opened.{body_taken, none_taken, room_left, spot_taken}
use Rattle.model_ops.proofs.member.gather.Goals as goal
use Rattle.model_ops.proofs.member.gather.Goals.{in-Body+in-Body-cell, in-Body+in-Spot-cell, in-Spot}

pub push-requires : goal.push-requires
push-requires c =
    let s = c.args.found.now in
    let k = c.loop-name.name-index in
    let cells = c.cells-name-items.result.now in
    let is = c.cells-name-items.ensures.value in
    let lt = subst (λ (ps : Pairs). k < length ps) is c.loop-name-test.true in
    let left = room_left s k c.in-Body.id c.in-Body-cell.bot _ c.cells-name-items.ensures.shown lt (ap (λ (ps : Pairs). get_or ps k _) (sym is) ∙ (λ t. (c.in-Body.is t, c.in-Body-cell.is t))) in
    (omega arith, omega (arith, left, ap (λ (ms : List Member). length ms) c.loop-name.invariant, ap (λ (ps : Pairs). length (filter_map taken (take k ps))) is))

pub loop-name-preserved : goal.loop-name-preserved
loop-name-preserved c =
    let k = c.loop-name.name-index in
    let cells = c.cells-name-items.result.now in
    let lt = c.loop-name-test.true in
    elim c.match-name.branch [
      | in-Body+in-Body-cell w ↦
          ap (λ (v : ArrayVec Member). v.items) w.members-is ∙ w.push.ensures.items
          ∙ ap (λ ms. ms ++ unchanged w.in-Body.id w.in-Body-cell.bot ∷ []) c.loop-name.invariant
          ∙ sym (body_taken cells k w.in-Body.id w.in-Body-cell.bot _ lt (λ t. (w.in-Body.is t, w.in-Body-cell.is t)))
      | in-Body+in-Spot-cell w ↦
          ap (λ (v : ArrayVec Member). v.items) w.members-is ∙ c.loop-name.invariant
          ∙ sym (none_taken cells k _ lt (λ t. taken (w.in-Body.is t, w.in-Spot-cell.is t)))
      | in-Spot w ↦
          ap (λ (v : ArrayVec Member). v.items) w.members-is ∙ c.loop-name.invariant
          ∙ sym (none_taken cells k _ lt (spot_taken _ _ w.in-Spot.is))
    ]
