use Rattle.std.proofs.lemmas.Result.{err_from_is_err_and}
use Rattle.action_check.proofs.DeclarationLemmas.{tells_behind}
use Rattle.action_check.proofs.checked.check.Goals as goal

pub returns-in_err-check_actions-clause-refused : goal.returns-in_err-check_actions-clause-refused
returns-in_err-check_actions-clause-refused c =
    let r = c.from_residual-in_err-check_actions in
    let p = err_from_is_err_and r.result r.ensures.1 in
    let fine = rw c.vars.ensures at c.in_ok-vars.ensures.fine in
    let names = rw c.vars.ensures at c.in_ok-vars.ensures.names in
    let wrong = rw (names, c.actions.ensures.actions) at c.in_err-check_actions.ensures.wrong in
    rw (p.1, p.2) (tells_behind _ _ _ fine wrong)
