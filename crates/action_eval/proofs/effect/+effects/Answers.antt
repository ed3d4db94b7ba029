use Rattle.std.proofs.Common.{◌≡◌, ◌∙◌, ℕ, true, ap, sym, subst, Some, None, arith}
use Rattle.std.proofs.lemmas.Result.{err_from_is_err_and}
use Rattle.std.proofs.lemmas.Bool.{and_parts}
use Rattle.amoebot_state.specs.declared.bot.End.TheVariants.{Head}
use Rattle.amoebot_state.specs.Ports.{port}
use Rattle.std.specs.declared.result.Result.{Result}
use Rattle.amoebot_state.specs.declared.bot.Port.{Port}
use Rattle.amoebot_state.specs.declared.verdict.Failure.{Failure}
use Rattle.action_meaning.specs.Effects.{Moment}
use Rattle.action_tree.specs.declared.statement.Stmt.TheViews.{sized-For, sized-If}
use denote.Param.Weighed.{most, at_most}
use Rattle.action_tree.proofs.statement.Stmt.TheLaws.{the_size}
use Rattle.action_eval.specs.Running.{turn_effect}
use Rattle.action_tree.specs.Views.{name_of, guard_of, sum_of, stmts_of}
use Rattle.action_check.specs.Rules.{StmtsKept}
use Rattle.action_tree.specs.Scopes.{Scope}
use Rattle.model_ops.specs.Operations.{write}
use Rattle.model_ops.specs.WorkingCopies.{own_id}
use Rattle.action_meaning.specs.Names.{var_number}
use Rattle.action_meaning.specs.Values.{sum_value}
use Rattle.action_eval.specs.Known.{known, scope_of, sight_of}
use Rattle.action_tree.specs.Places.{stmts_placed}
use Rattle.action_eval.proofs.Placed.{in_for, in_put_of, in_if}
use Rattle.action_eval.proofs.RunningLemmas.{put_tree, put_of_tree, let_tree, if_tree, for_tree, put_ran, put_failed, scope_of_bound, room_to_bind, stmt_kept, stmt_in_place, stmt_counted, stmts_next, stmts_fail, stmts_over, ports_next, ports_fail, ports_over}
use Rattle.action_eval.proofs.effect.+effects.Goals as goal

-- a write without a port, and one through a port, as they answer
pub run_stmt-returns-in_err-put-in-Put : goal.run_stmt-returns-in_err-put-in-Put
run_stmt-returns-in_err-put-in-Put t c =
    let r = c.from_residual in
    let p = err_from_is_err_and r.result r.ensures.1 in
    let w = c.args.site.now in
    let xs = known c.args.names in
    let e = put_tree _ _ _ c.in-Put.is in
    rw (p.1, p.2, e) (put_failed w xs (sum_value (sight_of w) xs (sum_of c.in-Put.sum)) (λ x. write w.reached (own_id w) None (var_number xs (name_of c.in-Put.name)) x) _ c.in_err-put-in-Put.ensures.value)

pub run_stmt-returns-in_ok-put-in-Put : goal.run_stmt-returns-in_ok-put-in-Put
run_stmt-returns-in_ok-put-in-Put t c =
    let w = c.args.site.now in
    let xs = known c.args.names in
    let e = put_tree _ _ _ c.in-Put.is in
    rw e (put_ran w _ xs (sum_value (sight_of w) xs (sum_of c.in-Put.sum)) (λ x. write w.reached (own_id w) None (var_number xs (name_of c.in-Put.name)) x) c.in_ok-put-in-Put.ensures.value c.in_ok-put-in-Put.ensures.after)

pub run_stmt-returns-in_err-put-in-PutOf : goal.run_stmt-returns-in_err-put-in-PutOf
run_stmt-returns-in_err-put-in-PutOf t c =
    let r = c.from_residual-in_err-put-in-PutOf in
    let p = err_from_is_err_and r.result r.ensures.1 in
    let w = c.args.site.now in
    let xs = known c.args.names in
    let e = put_of_tree _ _ _ _ c.in-PutOf.is in
    rw (p.1, p.2, e, sym c.in_ok-port-in-PutOf.ensures) (put_failed w xs (sum_value (sight_of w) xs (sum_of c.in-PutOf.sum)) (λ x. write w.reached (own_id w) (Some c.in_ok-port-in-PutOf.port) (var_number xs (name_of c.in-PutOf.name)) x) _ c.in_err-put-in-PutOf.ensures.value)

pub run_stmt-returns-in_ok-put-in-PutOf : goal.run_stmt-returns-in_ok-put-in-PutOf
run_stmt-returns-in_ok-put-in-PutOf t c =
    let w = c.args.site.now in
    let xs = known c.args.names in
    let e = put_of_tree _ _ _ _ c.in-PutOf.is in
    rw (e, sym c.in_ok-port-in-PutOf.ensures) (put_ran w _ xs (sum_value (sight_of w) xs (sum_of c.in-PutOf.sum)) (λ x. write w.reached (own_id w) (Some c.in_ok-port-in-PutOf.port) (var_number xs (name_of c.in-PutOf.name)) x) c.in_ok-put-in-PutOf.ensures.value c.in_ok-put-in-PutOf.ensures.after)

-- the counts of what stands in a statement
pub run_stmt-port_value-requires-clause-counted : goal.run_stmt-port_value-requires-clause-counted
run_stmt-port_value-requires-clause-counted t c =
    let e = put_of_tree _ _ _ _ c.in-PutOf.is in
    let counted = rw e at c.requires.counted in
    (and_parts _ _ (and_parts _ _ counted).0).0

pub run_stmt-put-requires-in-PutOf-clause-counted : goal.run_stmt-put-requires-in-PutOf-clause-counted
run_stmt-put-requires-in-PutOf-clause-counted t c =
    let e = put_of_tree _ _ _ _ c.in-PutOf.is in
    let counted = rw e at c.requires.counted in
    (and_parts _ _ counted).1

pub run_stmt-port_value-requires-in-Let-clause-counted : goal.run_stmt-port_value-requires-in-Let-clause-counted
run_stmt-port_value-requires-in-Let-clause-counted t c =
    let e = let_tree _ _ _ c.in-Let.is in
    let counted = rw e at c.requires.counted in
    (and_parts _ _ counted).1

-- the places of the names in them
pub run_stmt-put-requires-in-PutOf-clause-var_placed : goal.run_stmt-put-requires-in-PutOf-clause-var_placed
run_stmt-put-requires-in-PutOf-clause-var_placed t c = (in_put_of _ _ _ _ _ c.in-PutOf.is c.requires.placed).0

pub run_stmt-put-requires-in-PutOf-clause-placed : goal.run_stmt-put-requires-in-PutOf-clause-placed
run_stmt-put-requires-in-PutOf-clause-placed t c = (in_put_of _ _ _ _ _ c.in-PutOf.is c.requires.placed).1

pub run_stmt-guard_value-requires-clause-placed : goal.run_stmt-guard_value-requires-clause-placed
run_stmt-guard_value-requires-clause-placed t c = (in_if _ _ _ _ _ c.in-If.is c.requires.placed).0

pub run_stmt-run_stmts-requires-else-branch : goal.run_stmt-run_stmts-requires-else-branch
run_stmt-run_stmts-requires-else-branch t c =
    let e = if_tree _ _ _ _ c.in-If.is in
    let kept = rw e at c.requires.kept in
    let counts = and_parts _ _ (rw e at c.requires.counted) in
    let places = in_if _ _ _ _ _ c.in-If.is c.requires.placed in
    let is = ap the_size c.in-If.is in
    let at = ap (most the_size) c.deref-else-branch.ensures.value in
    let smaller = sized-If c.in-If.guard c.in-If.yes c.in-If.no in
    let same = sym (ap scope_of c.copy-else-branch.ensures) in
    let P : Scope → Type 0 = λ sc. StmtsKept sc (stmts_of c.in-If.no.items) in
    let Q : Scope → Type 0 = λ sc. stmts_placed c.in-If.no.items sc ≡ true in (
      omega (arith, c.decreases, smaller, is, at),
      (rw c.deref-else-branch.ensures.value (subst P same kept.2), (rw c.deref-else-branch.ensures.value (subst Q same places.2), rw c.deref-else-branch.ensures.value counts.1)),
    )

pub run_stmt-bind-requires : goal.run_stmt-bind-requires
run_stmt-bind-requires t c =
    let e = let_tree _ _ _ c.in-Let.is in
    let kept = rw e at c.requires.kept in
    room_to_bind (known c.args.names) _ kept.0

-- the parts of a `for`
pub run_stmt-run_for-requires : goal.run_stmt-run_for-requires
run_stmt-run_for-requires t c =
    let e = for_tree _ _ _ _ _ c.in-For.is in
    let kept = rw e at c.requires.kept in
    let counts = and_parts _ _ (rw e at c.requires.counted) in
    let firsts = and_parts _ _ counts.0 in
    let is = ap the_size c.in-For.is in
    let at = ap (most the_size) c.deref-in-For.ensures.value in
    let places = in_for _ _ _ _ _ _ c.in-For.is c.requires.placed in
    let smaller = sized-For c.in-For.name c.in-For.set c.in-For.guard c.in-For.stmts in (
      omega (arith, c.decreases, smaller, is, at),
      (
        record { new = kept.0; kept = kept.1; placed = places.0; counted = (and_parts _ _ firsts.0).1 },
        record { kept = rw c.deref-in-For.ensures.value kept.2; placed = rw c.deref-in-For.ensures.value places.1; counted = rw c.deref-in-For.ensures.value counts.1 },
      ),
    )

pub run_stmt-returns-in_err-run_for-in-For : goal.run_stmt-returns-in_err-run_for-in-For
run_stmt-returns-in_err-run_for-in-For t c =
    let r = c.from_residual-in_err-run_for-in-For in
    let p = err_from_is_err_and r.result r.ensures.1 in
    let e = for_tree _ _ _ _ _ c.in-For.is in
    rw (p.1, p.2, e, sym c.deref-in-For.ensures.value) c.in_err-run_for-in-For.ensures

pub run_stmt-returns-in_ok-run_for-in-For : goal.run_stmt-returns-in_ok-run_for-in-For
run_stmt-returns-in_ok-run_for-in-For t c =
    let e = for_tree _ _ _ _ _ c.in-For.is in
    rw (e, sym c.deref-in-For.ensures.value) c.in_ok-run_for-in-For.ensures

pub run_for-loop-port-preserved : goal.run_for-loop-port-preserved
run_for-loop-port-preserved t c =
    let turn : ℕ → Port → Moment → Result Moment Failure = λ i. turn_effect i (name_of c.args.name.now) (guard_of c.args.guard.now) (stmts_of c.args.stmts.now) in
    let ran = c.in_ok-run_turn.ensures in
    ports_next turn c.args.site.now c.deref-port-items.result.now c.loop-port.port-index (port Head 0) c.loop-port.site (known c.args.names.now) c.run_turn.new.site c.loop-port.invariant c.loop-port-test.true ran.0 ran.1

pub run_for-returns-in_err-run_turn : goal.run_for-returns-in_err-run_turn
run_for-returns-in_err-run_turn t c =
    let turn : ℕ → Port → Moment → Result Moment Failure = λ i. turn_effect i (name_of c.args.name.now) (guard_of c.args.guard.now) (stmts_of c.args.stmts.now) in
    let p = err_from_is_err_and c.from_residual.result c.from_residual.ensures.1 in
    let ports = c.deref-port-items.ensures.0 ∙ c.ports_of-ports.ensures in
    rw (p.1, p.2, sym ports) (ports_fail turn c.args.site.now c.deref-port-items.result.now c.loop-port.port-index (port Head 0) c.loop-port.site (known c.args.names.now) _ c.loop-port.invariant c.loop-port-test.true c.in_err-run_turn.ensures)

pub run_for-returns : goal.run_for-returns
run_for-returns t c =
    let turn : ℕ → Port → Moment → Result Moment Failure = λ i. turn_effect i (name_of c.args.name.now) (guard_of c.args.guard.now) (stmts_of c.args.stmts.now) in
    let ports = c.deref-port-items.ensures.0 ∙ c.ports_of-ports.ensures in
    rw (sym ports) (ports_over turn c.args.site.now c.deref-port-items.result.now c.loop-port.port-index c.loop-port.site (known c.args.names.now) c.loop-port.invariant c.loop-port-test.false)

-- statements in a row
pub run_stmts-run_stmt-requires : goal.run_stmts-run_stmt-requires
run_stmts-run_stmt-requires t c =
    let deeper = at_most the_size c.args.stmts.now c.loop-stmt.stmt-index c.stmt-item.result c.loop-stmt-test.true in
    let same = ap the_size c.stmt-item.is in
    (omega (arith, c.decreases, deeper, same), (stmt_kept _ _ _ _ _ _ _ c.loop-stmt.invariant c.loop-stmt-test.true c.stmt-item.is, (stmt_in_place _ _ _ _ _ _ _ c.loop-stmt.invariant c.loop-stmt-test.true c.stmt-item.is, stmt_counted _ _ _ _ _ _ _ c.loop-stmt.invariant c.loop-stmt-test.true c.stmt-item.is)))

pub run_turn-run_stmts-requires : goal.run_turn-run_stmts-requires
run_turn-run_stmts-requires t c =
    let P : Scope → Type 0 = λ sc. StmtsKept sc (stmts_of c.args.stmts.now) in
    let Q : Scope → Type 0 = λ sc. stmts_placed c.args.stmts.now sc ≡ true in
    let under = sym (ap scope_of c.bind-inner.ensures ∙ scope_of_bound (known c.args.names.now) (name_of c.args.name.now) c.args.port) in
    (omega (arith, c.decreases), (subst P under c.requires.run.kept, (subst Q under c.requires.run.placed, c.requires.run.counted)))

pub run_stmts-loop-stmt-preserved : goal.run_stmts-loop-stmt-preserved
run_stmts-loop-stmt-preserved t c =
    let ran = c.in_ok-names.ensures in
    stmts_next _ _ _ _ _ _ _ _ _ c.loop-stmt.invariant c.loop-stmt-test.true c.stmt-item.is ran.0 ran.1

pub run_stmts-returns-in_err-names : goal.run_stmts-returns-in_err-names
run_stmts-returns-in_err-names t c =
    let p = err_from_is_err_and c.from_residual.result c.from_residual.ensures.1 in
    rw (p.1, p.2) (stmts_fail _ _ _ _ _ _ _ _ c.loop-stmt.invariant c.loop-stmt-test.true c.stmt-item.is c.in_err-names.ensures)

pub run_stmts-returns : goal.run_stmts-returns
run_stmts-returns t c = stmts_over _ _ _ _ _ _ c.loop-stmt.invariant c.loop-stmt-test.false
