use Rattle.std.proofs.Common.{◌∙◌, sym}
use Rattle.std.proofs.lemmas.Result.{err_from_is_err_and}
use Rattle.action_tree.specs.Views.{name_of}
use Rattle.action_check.proofs.Texts.{fresh_name, twice_named}
use Rattle.action_check.proofs.declaration.declare.Goals as goal

pub returns-in_err-refused-clause-wrong : goal.returns-in_err-refused-clause-wrong
returns-in_err-refused-clause-wrong c =
    let r = c.from_residual-in_err-refused in
    let p = err_from_is_err_and r.result r.ensures.1 in
    let first = twice_named c.args.names.now.keys (name_of c.args.name.now) _ c.in_ok-insert.ensures.added c.if-not-branch.true in
    rw (p.1, p.2) (first ∙ sym c.in_err-refused.ensures)

pub returns-else-not-branch-clause-fine : goal.returns-else-not-branch-clause-fine
returns-else-not-branch-clause-fine c = fresh_name c.args.names.now.keys (name_of c.args.name.now) _ c.in_ok-insert.ensures.added c.if-not-branch.false
