use Rattle.std.proofs.Common.{◌≡◌, ◌∙◌, ap, sym, subst, refl, Ok, Err}
use Rattle.std.proofs.lemmas.Result.{err_from_is_err_and}
use Rattle.action_tree.proofs.Conditions.{left_of, right_of}
use Rattle.action_tree.specs.Places.{action_placed}
use Rattle.action_eval.specs.Known.{known}
use Rattle.action_eval.specs.Running.{HasDecided}
use Rattle.action_eval.proofs.Placed.{placed_at}
use Rattle.action_eval.proofs.ActionLoops.{actions_begin, action_kept, action_formed, action_has_decided, action_has_failed, actions_go_on, actions_over, verdict_from}
use Rattle.action_eval.proofs.runner.actions_decide.Goals as goal

pub loop-number-init : goal.loop-number-init
loop-number-init c = (actions_begin _ _ _ _ c.requires.counted, refl)

pub quick_value-requires-clause-kept : goal.quick_value-requires-clause-kept
quick_value-requires-clause-kept c = let kept = action_kept _ _ _ _ c.requires.kept c.loop-number-test.true c.index-actions-number.is in kept.guard

pub quick_value-requires-clause-counted : goal.quick_value-requires-clause-counted
quick_value-requires-clause-counted c = right_of _ _ (left_of _ _ (left_of _ _ (left_of _ _ (left_of _ _ (left_of _ _ (action_formed _ _ _ _ _ _ c.loop-number.invariant.0 c.loop-number-test.true c.index-actions-number.is))))))

pub action_decides-requires-clause-kept : goal.action_decides-requires-clause-kept
action_decides-requires-clause-kept c = action_kept _ _ _ _ c.requires.kept c.loop-number-test.true c.index-actions-number.is

pub action_decides-requires-clause-counted : goal.action_decides-requires-clause-counted
action_decides-requires-clause-counted c = action_formed _ _ _ _ _ _ c.loop-number.invariant.0 c.loop-number-test.true c.index-actions-number.is

pub quick_value-requires-clause-placed : goal.quick_value-requires-clause-placed
quick_value-requires-clause-placed c = left_of _ _ (placed_at action_placed _ _ _ _ c.requires.placed c.loop-number-test.true c.index-actions-number.is)

pub action_decides-requires-clause-placed : goal.action_decides-requires-clause-placed
action_decides-requires-clause-placed c = placed_at action_placed _ _ _ _ c.requires.placed c.loop-number-test.true c.index-actions-number.is

pub returns-then-branch : goal.returns-then-branch
returns-then-branch c = action_has_decided _ _ _ _ _ _ _ _ _ c.loop-number.invariant c.loop-number-test.true c.index-actions-number.is (sym c.quick_value.ensures ∙ c.in_ok-quick_value.was ∙ ap Ok c.if-branch.true) c.action_decides.ensures

pub returns-in_err-quick_value : goal.returns-in_err-quick_value
returns-in_err-quick_value c =
    let w = c.args.site.now in
    let told = action_has_failed _ _ _ _ _ _ _ _ c.loop-number.invariant c.loop-number-test.true c.index-actions-number.is (sym c.quick_value.ensures ∙ c.in_err-quick_value.was) in
    let p = err_from_is_err_and c.from_residual.result c.from_residual.ensures.1 in
    let is : c.from_residual.result ≡ Err c.in_err-quick_value.field-0.0 = cc in
    subst (λ r. HasDecided (verdict_from c.args.guard (known c.args.names) w 0 c.args.actions.now) r w c.loop-number.site) (sym is) told

pub loop-number-preserved : goal.loop-number-preserved
loop-number-preserved c = actions_go_on _ _ _ _ _ _ _ c.loop-number.invariant c.loop-number-test.true c.index-actions-number.is (sym c.quick_value.ensures ∙ c.in_ok-quick_value.was ∙ ap Ok c.if-branch.false)

pub returns : goal.returns
returns c = actions_over _ _ _ _ _ c.loop-number.invariant.0 c.loop-number-test.false
