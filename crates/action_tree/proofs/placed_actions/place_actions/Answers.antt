use Rattle.std.proofs.Common.{◌≡◌, ◌<◌, true, length, ap, sym, subst, ◌∙◌, arith}
use Rattle.action_tree.specs.PlacedScope.{placed_scope}
use Rattle.action_tree.specs.Places.{action_placed}
use Rattle.action_tree.specs.Scopes.{Scope}
use Rattle.action_tree.specs.Views.{action_of}
use Rattle.action_tree.proofs.PlacesLemmas.{action_room, passed_next, all_passed}
use Rattle.action_tree.proofs.placed_actions.place_actions.Goals as goal

pub place_action-requires : goal.place_action-requires
place_action-requires c =
    let here : c.loop-action.action-index < length c.loop-action.actions = omega arith in
    let none = ap (λ (sc : Scope). sc.bound) c.new.ensures in
    action_room (placed_scope c.new.result) c.args.actions.now c.loop-action.actions c.loop-action.action-index c.action-item.result none c.requires.counted c.loop-action.invariant.same here

pub loop-action-preserved : goal.loop-action-preserved
loop-action-preserved c =
    let here : c.loop-action.action-index < length c.loop-action.actions = omega arith in
    let P : Scope → Type 0 = λ sc. action_placed c.place_action.new.action sc ≡ true in
    passed_next c.action-item.result c.place_action.new.action c.loop-action.invariant here c.action-item.is (c.place_action.ensures.same ∙ ap action_of (sym c.action-item.is)) (subst P c.new.ensures c.place_action.ensures.placed)

pub returns-clause-placed : goal.returns-clause-placed
returns-clause-placed c = all_passed c.loop-action.invariant (omega arith)
