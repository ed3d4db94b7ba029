use Rattle.std.proofs.Common.{◌∙◌, ap, sym, subst, Ok}
use Rattle.std.specs.List.{list_all}
use Rattle.amoebot_state.specs.Zones.{IsShown}
use Rattle.model_ops.specs.WorkingCopies.{WorkingCopy}
use Rattle.action_tree.specs.Writable.{is_action}
use Rattle.action_check.specs.Rules.{ProgramKept}
use Rattle.action_meaning.specs.Verdicts.{verdict_shown}
use Rattle.action_eval.proofs.ActionLoops.{actions_formed, all_kept, all_placed, verdict_is, made_is, idle_is, failed_is}
use Rattle.action_eval.proofs.runner.RunnerDecider.decide.Goals as goal

pub actions_decide-requires-clause-shown : goal.actions_decide-requires-clause-shown
actions_decide-requires-clause-shown c = subst (λ (w : WorkingCopy). IsShown w.found) (sym c.new.ensures) c.own.ensures.shown

pub actions_decide-requires-clause-kept : goal.actions_decide-requires-clause-kept
actions_decide-requires-clause-kept c =
    let kept = subst ProgramKept (sym c.program-program.ensures.program) c.program-program.ensures.kept in
    all_kept c.program-program.result.now c.vars.result.now c.actions.result.now _ c.vars.ensures c.actions.ensures.actions c.new-names.ensures kept

pub actions_decide-requires-clause-counted : goal.actions_decide-requires-clause-counted
actions_decide-requires-clause-counted c = ap (list_all is_action) c.actions.ensures.actions ∙ actions_formed c.program-program.result.now c.actions.ensures.writable

pub actions_decide-requires-clause-placed : goal.actions_decide-requires-clause-placed
actions_decide-requires-clause-placed c =
    all_placed c.program-program.result.now c.vars.result.now c.actions.result.now _ c.vars.ensures c.new-names.ensures c.actions.ensures.placed

pub returns-in-Ok-Some : goal.returns-in-Ok-Some
returns-in-Ok-Some c =
    c.change_made.ensures
    ∙ made_is _ _ _ c.args.found.now _ _ c.actions_decide.ensures (c.in-Ok-Some.is ∙ ap Ok c.in-Ok-Some.field-0-is) c.new.ensures
    ∙ verdict_is c.program-program.result.now c.args.found.now c.new.result c.guard.result c.vars.result.now c.actions.result.now _ c.guard.ensures c.new.ensures c.vars.ensures c.actions.ensures.actions c.new-names.ensures
    ∙ ap (λ p. verdict_shown p c.args.found.now) (c.program-program.ensures.program ∙ c.self.view_is)

pub returns-in-Ok-None : goal.returns-in-Ok-None
returns-in-Ok-None c =
    idle_is _ _ _ _ c.actions_decide.ensures (c.in-Ok-None.is ∙ ap Ok c.in-Ok-None.field-0-is)
    ∙ verdict_is c.program-program.result.now c.args.found.now c.new.result c.guard.result c.vars.result.now c.actions.result.now _ c.guard.ensures c.new.ensures c.vars.ensures c.actions.ensures.actions c.new-names.ensures
    ∙ ap (λ p. verdict_shown p c.args.found.now) (c.program-program.ensures.program ∙ c.self.view_is)

pub returns-in-Err : goal.returns-in-Err
returns-in-Err c =
    failed_is _ _ _ _ _ c.actions_decide.ensures c.in-Err.is
    ∙ verdict_is c.program-program.result.now c.args.found.now c.new.result c.guard.result c.vars.result.now c.actions.result.now _ c.guard.ensures c.new.ensures c.vars.ensures c.actions.ensures.actions c.new-names.ensures
    ∙ ap (λ p. verdict_shown p c.args.found.now) (c.program-program.ensures.program ∙ c.self.view_is)
