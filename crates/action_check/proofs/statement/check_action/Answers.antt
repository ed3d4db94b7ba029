use Rattle.std.proofs.Common.{◌∙◌, sym, subst, arith}
use Rattle.std.proofs.lemmas.Result.{err_from_is_err_and}
use Rattle.action_tree.specs.Views.{move_of, stmts_of}
use Rattle.action_tree.specs.Writable.{move_names, stmts_names}
use Rattle.action_tree.specs.Scopes.{Scope, HasRoom}
use Rattle.action_check.specs.Told.{known_scope}
use Rattle.action_tree.proofs.Rooms.{fewer_names, room_after_all}
use Rattle.action_check.proofs.Firsts.{first_behind, first_before}
use Rattle.action_check.proofs.statement.check_action.Goals as goal

pub check_stmts-requires : goal.check_stmts-requires
check_stmts-requires c =
    let a = c.args.action.now in
    rw c.deref.ensures.value (omega (arith, fewer_names (stmts_of a.body.items) 0 (move_names (move_of a.moved)) (omega arith)))

pub check_move-requires : goal.check_move-requires
check_move-requires c =
    let a = c.args.action.now in
    let room : HasRoom (known_scope c.args.scope) (stmts_names (move_names (move_of a.moved)) (stmts_of a.body.items)) = omega arith in
    let behind = rw c.deref.ensures.value at c.in_ok-behind.ensures.behind in
    let P : Scope → Type 0 = λ sc. HasRoom sc (move_names (move_of a.moved)) in
    subst P (sym behind) (room_after_all (known_scope c.args.scope) (stmts_of a.body.items) _ room)

pub returns-in_err-check_guard : goal.returns-in_err-check_guard
returns-in_err-check_guard c =
    let p = err_from_is_err_and c.from_residual.result c.from_residual.ensures.1 in
    rw (p.1, p.2) (sym (first_before _ _ _ (sym c.in_err-check_guard.ensures)))

pub returns-in_err-behind : goal.returns-in_err-behind
returns-in_err-behind c =
    let r = c.from_residual-in_err-behind in
    let p = err_from_is_err_and r.result r.ensures.1 in
    let wrong = rw c.deref.ensures.value at c.in_err-behind.ensures.wrong in
    rw (p.1, p.2) (sym (first_behind _ _ (sym c.in_ok-check_guard.ensures) ∙ first_before _ _ _ wrong))

pub returns : goal.returns
returns c =
    let fine = rw c.deref.ensures.value at c.in_ok-behind.ensures.fine in
    let behind = rw c.deref.ensures.value at c.in_ok-behind.ensures.behind in
    let told = rw behind at c.check_move.ensures in
    told ∙ sym (first_behind _ _ (sym c.in_ok-check_guard.ensures) ∙ first_behind _ _ fine)
