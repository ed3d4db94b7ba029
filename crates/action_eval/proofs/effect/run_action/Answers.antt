use Rattle.std.proofs.Common.{◌≡◌, ◌∙◌, true, sym, subst, ap}
use Rattle.std.specs.declared.result.Result.TheVariants.{Ok}
use Rattle.action_tree.specs.Places.{move_placed}
use Rattle.action_tree.specs.Views.{move_of, stmts_of}
use Rattle.action_tree.specs.Scopes.{Scope}
use Rattle.action_check.specs.Rules.{MoveKept}
use Rattle.model_ops.specs.WorkingCopies.{own_id}
use Rattle.model_ops.proofs.Carried.{moved_reaches}
use Rattle.action_meaning.specs.Effects.{stmts_effect}
use Rattle.action_eval.specs.Known.{known}
use Rattle.action_eval.specs.Running.{moment_of}
use Rattle.action_eval.proofs.RunningLemmas.{names_behind_all, stmts_unmoved}
use Rattle.action_eval.proofs.effect.run_action.Goals as goal

pub move_value-requires-clause-kept : goal.move_value-requires-clause-kept
move_value-requires-clause-kept c =
    let w = c.args.site.now in
    let xs = known c.args.names in
    let ran : stmts_effect (own_id w) (stmts_of c.args.action.now.body.items) (moment_of w xs) ≡ Ok (moment_of c.run_stmts.new.site (known c.in_ok-names.names)) = ap (λ ss. stmts_effect (own_id w) (stmts_of ss) (moment_of w xs)) (sym c.deref.ensures.value) ∙ c.in_ok-names.ensures.0 in
    let P : Scope → Type 0 = λ sc. MoveKept sc (move_of c.args.action.now.moved) in
    subst P (sym (names_behind_all (own_id w) (stmts_of c.args.action.now.body.items) (moment_of w xs) (moment_of c.run_stmts.new.site (known c.in_ok-names.names)) ran)) c.requires.moved

pub move_value-requires-clause-placed : goal.move_value-requires-clause-placed
move_value-requires-clause-placed c =
    let w = c.args.site.now in
    let xs = known c.args.names in
    let ran : stmts_effect (own_id w) (stmts_of c.args.action.now.body.items) (moment_of w xs) ≡ Ok (moment_of c.run_stmts.new.site (known c.in_ok-names.names)) = ap (λ ss. stmts_effect (own_id w) (stmts_of ss) (moment_of w xs)) (sym c.deref.ensures.value) ∙ c.in_ok-names.ensures.0 in
    let P : Scope → Type 0 = λ sc. move_placed c.args.action.now.moved sc ≡ true in
    subst P (sym (names_behind_all (own_id w) (stmts_of c.args.action.now.body.items) (moment_of w xs) (moment_of c.run_stmts.new.site (known c.in_ok-names.names)) ran)) c.requires.moved_placed

pub returns-clause-reaches : goal.returns-clause-reaches
returns-clause-reaches c =
    let unmoved = stmts_unmoved c.args.site.now c.run_stmts.new.site (stmts_of c.deref.result.now) (known c.args.names) (known c.in_ok-names.names) c.requires.shown c.requires.opened c.in_ok-names.ensures.0 c.in_ok-names.ensures.1 in
    moved_reaches c.run_stmts.new.site c.make_move.new.site c.args.guard c.in_ok-moved.moved unmoved c.in_ok-make_move.ensures.after
