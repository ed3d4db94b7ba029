use Rattle.std.proofs.Common.{◌≡◌, ◌∙◌, sym}
use Rattle.std.proofs.lemmas.Result.{err_from_is_err_and}
use Rattle.action_tree.specs.Trees.{put, put_of, let_be, if_then, for_each}
use Rattle.action_tree.specs.Views.{name_of, port_of, sum_of, guard_of, stmt_of, stmts_of}
use Rattle.action_check.proofs.Firsts.{first_behind, first_before}
use Rattle.action_tree.proofs.Viewed.{stmt_put, stmt_put_of, stmt_let, stmt_if, stmt_for}
use Rattle.action_check.proofs.statement.+statements.Goals as goal

pub check_stmt-returns-in_err-check_port-in-PutOf : goal.check_stmt-returns-in_err-check_port-in-PutOf
check_stmt-returns-in_err-check_port-in-PutOf t c =
    let r = c.from_residual-in_err-check_port-in-PutOf in
    let p = err_from_is_err_and r.result r.ensures.1 in
    let e : stmt_of c.args.stmt.now ≡ put_of (port_of c.in-PutOf.port) (name_of c.in-PutOf.name) (sum_of c.in-PutOf.sum) = rw c.in-PutOf.is (stmt_put_of c.in-PutOf.port c.in-PutOf.name c.in-PutOf.sum) in
    rw (p.1, p.2, e) (sym (first_before _ _ _ (sym c.in_err-check_port-in-PutOf.ensures)))

pub check_stmt-returns-in_err-variable-in-PutOf : goal.check_stmt-returns-in_err-variable-in-PutOf
check_stmt-returns-in_err-variable-in-PutOf t c =
    let r = c.from_residual-in_err-variable-in-PutOf in
    let p = err_from_is_err_and r.result r.ensures.1 in
    let e : stmt_of c.args.stmt.now ≡ put_of (port_of c.in-PutOf.port) (name_of c.in-PutOf.name) (sum_of c.in-PutOf.sum) = rw c.in-PutOf.is (stmt_put_of c.in-PutOf.port c.in-PutOf.name c.in-PutOf.sum) in
    rw (p.1, p.2, e) (sym (first_behind _ _ (sym c.in_ok-check_port-in-PutOf.ensures) ∙ first_before _ _ _ (sym c.in_err-variable-in-PutOf.ensures)))

pub check_stmt-returns-in_ok-variable-in-PutOf : goal.check_stmt-returns-in_ok-variable-in-PutOf
check_stmt-returns-in_ok-variable-in-PutOf t c =
    let e : stmt_of c.args.stmt.now ≡ put_of (port_of c.in-PutOf.port) (name_of c.in-PutOf.name) (sum_of c.in-PutOf.sum) = rw c.in-PutOf.is (stmt_put_of c.in-PutOf.port c.in-PutOf.name c.in-PutOf.sum) in
    rw e (c.check_sum-in-PutOf.ensures ∙ sym (first_behind _ _ (sym c.in_ok-check_port-in-PutOf.ensures) ∙ first_behind _ _ (sym c.in_ok-variable-in-PutOf.ensures)))

pub check_stmt-returns-in_ok-new_name-in-Let : goal.check_stmt-returns-in_ok-new_name-in-Let
check_stmt-returns-in_ok-new_name-in-Let t c =
    let e : stmt_of c.args.stmt.now ≡ let_be (name_of c.in-Let.name) (port_of c.in-Let.port) = rw c.in-Let.is (stmt_let c.in-Let.name c.in-Let.port) in
    rw e (c.check_port-in-Let.ensures ∙ sym (first_behind _ _ (sym c.in_ok-new_name-in-Let.ensures)))

pub check_stmt-returns-in_err-variable-in-Put : goal.check_stmt-returns-in_err-variable-in-Put
check_stmt-returns-in_err-variable-in-Put t c =
    let r = c.from_residual in
    let p = err_from_is_err_and r.result r.ensures.1 in
    let e : stmt_of c.args.stmt.now ≡ put (name_of c.in-Put.name) (sum_of c.in-Put.sum) = rw c.in-Put.is (stmt_put c.in-Put.name c.in-Put.sum) in
    rw (p.1, p.2, e) (sym (first_before _ _ _ (sym c.in_err-variable-in-Put.ensures)))

pub check_stmt-returns-in_ok-variable-in-Put : goal.check_stmt-returns-in_ok-variable-in-Put
check_stmt-returns-in_ok-variable-in-Put t c =
    let e : stmt_of c.args.stmt.now ≡ put (name_of c.in-Put.name) (sum_of c.in-Put.sum) = rw c.in-Put.is (stmt_put c.in-Put.name c.in-Put.sum) in
    rw e (c.check_sum.ensures ∙ sym (first_behind _ _ (sym c.in_ok-variable-in-Put.ensures)))

pub check_stmt-returns-in_err-new_name-in-Let : goal.check_stmt-returns-in_err-new_name-in-Let
check_stmt-returns-in_err-new_name-in-Let t c =
    let r = c.from_residual-in_err-new_name-in-Let in
    let p = err_from_is_err_and r.result r.ensures.1 in
    let e : stmt_of c.args.stmt.now ≡ let_be (name_of c.in-Let.name) (port_of c.in-Let.port) = rw c.in-Let.is (stmt_let c.in-Let.name c.in-Let.port) in
    rw (p.1, p.2, e) (sym (first_before _ _ _ (sym c.in_err-new_name-in-Let.ensures)))

pub check_stmt-returns-in_err-check_guard-in-If : goal.check_stmt-returns-in_err-check_guard-in-If
check_stmt-returns-in_err-check_guard-in-If t c =
    let r = c.from_residual-in_err-check_guard-in-If in
    let p = err_from_is_err_and r.result r.ensures.1 in
    let e : stmt_of c.args.stmt.now ≡ if_then (guard_of c.in-If.guard) (stmts_of c.in-If.yes.items) (stmts_of c.in-If.no.items) = rw c.in-If.is (stmt_if c.in-If.guard c.in-If.yes c.in-If.no) in
    rw (p.1, p.2, e) (sym (first_before _ _ _ (sym c.in_err-check_guard-in-If.ensures)))

pub check_stmt-returns-in_err-check_stmts-in-If : goal.check_stmt-returns-in_err-check_stmts-in-If
check_stmt-returns-in_err-check_stmts-in-If t c =
    let r = c.from_residual-in_err-check_stmts-in-If in
    let p = err_from_is_err_and r.result r.ensures.1 in
    let e : stmt_of c.args.stmt.now ≡ if_then (guard_of c.in-If.guard) (stmts_of c.in-If.yes.items) (stmts_of c.in-If.no.items) = rw c.in-If.is (stmt_if c.in-If.guard c.in-If.yes c.in-If.no) in
    let wrong = rw (c.copy.ensures, c.deref.ensures.value) at c.in_err-check_stmts-in-If.ensures.wrong in
    rw (p.1, p.2, e) (sym (first_behind _ _ (sym c.in_ok-check_guard-in-If.ensures) ∙ first_before _ _ _ wrong))

pub check_stmt-returns-in_err-check_stmts-in-If-2 : goal.check_stmt-returns-in_err-check_stmts-in-If-2
check_stmt-returns-in_err-check_stmts-in-If-2 t c =
    let r = c.from_residual-in_err-check_stmts-in-If-2 in
    let p = err_from_is_err_and r.result r.ensures.1 in
    let e : stmt_of c.args.stmt.now ≡ if_then (guard_of c.in-If.guard) (stmts_of c.in-If.yes.items) (stmts_of c.in-If.no.items) = rw c.in-If.is (stmt_if c.in-If.guard c.in-If.yes c.in-If.no) in
    let yes = rw (c.copy.ensures, c.deref.ensures.value) at c.in_ok-check_stmts-in-If.ensures.fine in
    let wrong = rw (c.copy-in-If.ensures, c.deref-in-If.ensures.value) at c.in_err-check_stmts-in-If-2.ensures.wrong in
    rw (p.1, p.2, e) (sym (first_behind _ _ (sym c.in_ok-check_guard-in-If.ensures) ∙ first_behind _ _ yes ∙ wrong))

pub check_stmt-returns-in_ok-check_stmts-in-If-2 : goal.check_stmt-returns-in_ok-check_stmts-in-If-2
check_stmt-returns-in_ok-check_stmts-in-If-2 t c =
    let e : stmt_of c.args.stmt.now ≡ if_then (guard_of c.in-If.guard) (stmts_of c.in-If.yes.items) (stmts_of c.in-If.no.items) = rw c.in-If.is (stmt_if c.in-If.guard c.in-If.yes c.in-If.no) in
    let yes = rw (c.copy.ensures, c.deref.ensures.value) at c.in_ok-check_stmts-in-If.ensures.fine in
    let no = rw (c.copy-in-If.ensures, c.deref-in-If.ensures.value) at c.in_ok-check_stmts-in-If-2.ensures.fine in
    rw e (sym (first_behind _ _ (sym c.in_ok-check_guard-in-If.ensures) ∙ first_behind _ _ yes ∙ no))

pub check_stmt-returns-in_err-check_inside-in-For : goal.check_stmt-returns-in_err-check_inside-in-For
check_stmt-returns-in_err-check_inside-in-For t c =
    let r = c.from_residual-in_err-check_inside-in-For in
    let p = err_from_is_err_and r.result r.ensures.1 in
    let e : stmt_of c.args.stmt.now ≡ for_each (name_of c.in-For.name) c.in-For.field-1 (guard_of c.in-For.guard) (stmts_of c.in-For.stmts.items) = rw c.in-For.is (stmt_for c.in-For.name c.in-For.field-1 c.in-For.guard c.in-For.stmts) in
    rw (p.1, p.2, e) (sym (first_before _ _ _ (sym c.in_err-check_inside-in-For.ensures)))

pub check_stmt-returns-in_err-check_stmts-in-For : goal.check_stmt-returns-in_err-check_stmts-in-For
check_stmt-returns-in_err-check_stmts-in-For t c =
    let r = c.from_residual-in_err-check_stmts-in-For in
    let p = err_from_is_err_and r.result r.ensures.1 in
    let e : stmt_of c.args.stmt.now ≡ for_each (name_of c.in-For.name) c.in-For.field-1 (guard_of c.in-For.guard) (stmts_of c.in-For.stmts.items) = rw c.in-For.is (stmt_for c.in-For.name c.in-For.field-1 c.in-For.guard c.in-For.stmts) in
    let wrong = rw (c.bind.ensures, c.deref-in-For.ensures.value) at c.in_err-check_stmts-in-For.ensures.wrong in
    rw (p.1, p.2, e) (sym (first_behind _ _ (sym c.in_ok-check_inside-in-For.ensures) ∙ wrong))

pub check_stmt-returns-in_ok-check_stmts-in-For : goal.check_stmt-returns-in_ok-check_stmts-in-For
check_stmt-returns-in_ok-check_stmts-in-For t c =
    let e : stmt_of c.args.stmt.now ≡ for_each (name_of c.in-For.name) c.in-For.field-1 (guard_of c.in-For.guard) (stmts_of c.in-For.stmts.items) = rw c.in-For.is (stmt_for c.in-For.name c.in-For.field-1 c.in-For.guard c.in-For.stmts) in
    let fine = rw (c.bind.ensures, c.deref-in-For.ensures.value) at c.in_ok-check_stmts-in-For.ensures.fine in
    rw e (sym (first_behind _ _ (sym c.in_ok-check_inside-in-For.ensures) ∙ fine))
