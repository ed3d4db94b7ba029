use Rattle.std.proofs.Common.{◌≡◌, ◌∙◌, sym}
use Rattle.std.proofs.lemmas.Result.{err_from_is_err_and}
use Rattle.action_tree.specs.Trees.{of_port, turned, comparison}
use Rattle.action_tree.specs.Views.{name_of, literal_of, guard_of, sum_of, port_of, term_of}
use Rattle.action_check.proofs.Firsts.{first_behind, first_before}
use Rattle.action_check.proofs.FaultLoops.{guards_next, guards_fail, guards_over, parts_next, parts_fail, parts_over}
use Rattle.action_tree.proofs.Viewed.{guard_compare, sum_opened, term_member, port_turn}
use Rattle.action_check.proofs.expression.+expressions.Goals as goal

pub check_port-returns-in_err-check_port-in-Turn :
    goal.check_port-returns-in_err-check_port-in-Turn
check_port-returns-in_err-check_port-in-Turn t c =
    let p = err_from_is_err_and c.from_residual.result c.from_residual.ensures.1 in
    let e : port_of c.args.port.now ≡ turned (port_of c.deref.result.now) (literal_of c.in-Turn.number) = rw (c.in-Turn.is, c.deref.ensures) (port_turn c.in-Turn.port c.in-Turn.number) in
    rw (p.1, p.2, e) (sym (first_before _ _ _ (sym c.in_err-check_port-in-Turn.ensures)))

pub check_port-returns-in_ok-check_port-in-Turn : goal.check_port-returns-in_ok-check_port-in-Turn
check_port-returns-in_ok-check_port-in-Turn t c =
    let e : port_of c.args.port.now ≡ turned (port_of c.deref.result.now) (literal_of c.in-Turn.number) = rw (c.in-Turn.is, c.deref.ensures) (port_turn c.in-Turn.port c.in-Turn.number) in
    rw e (c.within.ensures ∙ sym (first_behind _ _ (sym c.in_ok-check_port-in-Turn.ensures)))

pub check_sum-returns-in_err-check_term : goal.check_sum-returns-in_err-check_term
check_sum-returns-in_err-check_term t c =
    let p = err_from_is_err_and c.from_residual.result c.from_residual.ensures.1 in
    let o = sum_opened c.args.sum.now in
    let e = parts_fail _ _ _ _ _ c.loop-part.invariant c.loop-part-test.true c.part-item.is (sym c.in_err-check_term.ensures) in
    let v = c.deref-part-items.ensures.value in
    cc

pub check_sum-loop-part-preserved : goal.check_sum-loop-part-preserved
check_sum-loop-part-preserved t c = parts_next _ _ _ _ c.loop-part.invariant c.loop-part-test.true c.part-item.is (sym c.in_ok-check_term.ensures)

pub check_sum-returns : goal.check_sum-returns
check_sum-returns t c =
    let e = parts_over _ _ _ c.loop-part.invariant c.loop-part-test.false in
    let o = sum_opened c.args.sum.now in
    let v = c.deref-part-items.ensures.value in
    cc

pub check_term-returns-in_err-check_port-in-Of : goal.check_term-returns-in_err-check_port-in-Of
check_term-returns-in_err-check_port-in-Of t c =
    let p = err_from_is_err_and c.from_residual.result c.from_residual.ensures.1 in
    let e : term_of c.args.term.now ≡ of_port (port_of c.in-Of.port) (name_of c.in-Of.name) = rw c.in-Of.is (term_member c.in-Of.port c.in-Of.name) in
    rw (p.1, p.2, e) (sym (first_before _ _ _ (sym c.in_err-check_port-in-Of.ensures)))

pub check_term-returns-in_ok-check_port-in-Of : goal.check_term-returns-in_ok-check_port-in-Of
check_term-returns-in_ok-check_port-in-Of t c =
    let e : term_of c.args.term.now ≡ of_port (port_of c.in-Of.port) (name_of c.in-Of.name) = rw c.in-Of.is (term_member c.in-Of.port c.in-Of.name) in
    rw e (c.variable-in-Of.ensures ∙ sym (first_behind _ _ (sym c.in_ok-check_port-in-Of.ensures)))

pub check_guard-returns-in_err-check_sum-in-Compare : goal.check_guard-returns-in_err-check_sum-in-Compare
check_guard-returns-in_err-check_sum-in-Compare t c =
    let p = err_from_is_err_and c.from_residual.result c.from_residual.ensures.1 in
    let e : guard_of c.args.guard.now ≡ comparison (sum_of c.in-Compare.left) c.in-Compare.field-1 (sum_of c.in-Compare.right) = rw c.in-Compare.is (guard_compare c.in-Compare.left c.in-Compare.field-1 c.in-Compare.right) in
    rw (p.1, p.2, e) (sym (first_before _ _ _ (sym c.in_err-check_sum-in-Compare.ensures)))

pub check_guard-returns-in_ok-check_sum-in-Compare : goal.check_guard-returns-in_ok-check_sum-in-Compare
check_guard-returns-in_ok-check_sum-in-Compare t c =
    let e : guard_of c.args.guard.now ≡ comparison (sum_of c.in-Compare.left) c.in-Compare.field-1 (sum_of c.in-Compare.right) = rw c.in-Compare.is (guard_compare c.in-Compare.left c.in-Compare.field-1 c.in-Compare.right) in
    rw e (c.check_sum-in-Compare.ensures ∙ sym (first_behind _ _ (sym c.in_ok-check_sum-in-Compare.ensures)))

pub check_guards-returns-in_err-check_guard : goal.check_guards-returns-in_err-check_guard
check_guards-returns-in_err-check_guard t c =
    let p = err_from_is_err_and c.from_residual.result c.from_residual.ensures.1 in
    rw (p.1, p.2) (sym (guards_fail _ _ _ _ _ c.loop-guard.invariant c.loop-guard-test.true c.guard-item.is (sym c.in_err-check_guard.ensures)))

pub check_guards-loop-guard-preserved : goal.check_guards-loop-guard-preserved
check_guards-loop-guard-preserved t c = guards_next _ _ _ _ c.loop-guard.invariant c.loop-guard-test.true c.guard-item.is (sym c.in_ok-check_guard.ensures)

pub check_guards-returns : goal.check_guards-returns
check_guards-returns t c = sym (guards_over _ _ _ c.loop-guard.invariant c.loop-guard-test.false)

pub check_inside-returns-in_err-new_name : goal.check_inside-returns-in_err-new_name
check_inside-returns-in_err-new_name t c =
    let p = err_from_is_err_and c.from_residual.result c.from_residual.ensures.1 in
    rw (p.1, p.2) (sym (first_before _ _ _ (sym c.in_err-new_name.ensures)))

pub check_inside-returns : goal.check_inside-returns
check_inside-returns t c =
    let told = rw c.bind.ensures at c.check_guard.ensures in
    told ∙ sym (first_behind _ _ (sym c.in_ok-new_name.ensures))
