use denote.Param.Weighed.{at_most}
use Rattle.std.proofs.Common.{◌≡◌, ◌<◌, true, length, ap, sym, subst, ◌∙◌, rules, arith}
use Rattle.action_tree.specs.Places.{guard_placed}
use Rattle.action_tree.specs.Scopes.{Scope}
use Rattle.action_tree.specs.Trees.{stmts}
use Rattle.action_tree.specs.Views.{stmt_of, stmts_of}
use Rattle.action_tree.proofs.statement.Stmt.TheLaws.{the_size}
use Rattle.std.proofs.lemmas.List.{with_items_is}
use Rattle.action_tree.proofs.PlacedStatements.{put_same, put_placed, put_of_same, put_of_placed, let_same, let_placed, if_same, if_placed, for_same, for_placed, stmts_at}
use Rattle.action_tree.proofs.PlacesLemmas.{stmts_next, stmt_room, stmts_over}
use Rattle.action_tree.proofs.placed_actions.+placed_statements.Goals as goal

pub place_stmts-loop-stmt-preserved : goal.place_stmts-loop-stmt-preserved
place_stmts-loop-stmt-preserved t c =
    let here : c.loop-stmt.stmt-index < length c.loop-stmt.stmts = omega arith in
    let e = c.replace-bare.ensures.value ∙ sym c.stmt-item.is in
    let after = c.replace.ensures.after in
    record {
      unvisited = search rules;
      passed = stmts_next _ c.stmt-item.result c.replace.new.dest c.loop-stmt.invariant.passed here c.stmt-item.is (ap stmt_of after ∙ c.placed_stmt.ensures.same ∙ ap stmt_of e) (rw after c.placed_stmt.ensures.placed) c.behind_stmt-scope.ensures;
    }

pub placed_stmt-returns-in-Put-clause-same : goal.placed_stmt-returns-in-Put-clause-same
placed_stmt-returns-in-Put-clause-same t c = put_same c.args.stmt _ _ _ _ c.in-Put.is c.placed_var.ensures.same c.placed_sum.ensures.same

pub placed_stmt-returns-in-Put-clause-placed : goal.placed_stmt-returns-in-Put-clause-placed
placed_stmt-returns-in-Put-clause-placed t c = put_placed _ _ _ c.placed_var.ensures.placed c.placed_sum.ensures.placed

pub placed_stmt-returns-in-PutOf-clause-same : goal.placed_stmt-returns-in-PutOf-clause-same
placed_stmt-returns-in-PutOf-clause-same t c =
    put_of_same c.args.stmt _ _ _ _ _ _ c.in-PutOf.is c.placed_port-port.ensures.same c.placed_var-in-PutOf.ensures.same c.placed_sum-in-PutOf.ensures.same

pub placed_stmt-returns-in-PutOf-clause-placed : goal.placed_stmt-returns-in-PutOf-clause-placed
placed_stmt-returns-in-PutOf-clause-placed t c =
    put_of_placed _ _ _ _ c.placed_port-port.ensures.placed c.placed_var-in-PutOf.ensures.placed c.placed_sum-in-PutOf.ensures.placed

pub placed_stmt-returns-in-Let-clause-same : goal.placed_stmt-returns-in-Let-clause-same
placed_stmt-returns-in-Let-clause-same t c = let_same c.args.stmt _ _ _ c.in-Let.is c.placed_port.ensures.same

pub placed_stmt-returns-in-Let-clause-placed : goal.placed_stmt-returns-in-Let-clause-placed
placed_stmt-returns-in-Let-clause-placed t c = let_placed _ _ _ c.placed_port.ensures.placed

pub placed_stmt-returns-in-If-clause-same : goal.placed_stmt-returns-in-If-clause-same
placed_stmt-returns-in-If-clause-same t c =
    let yes = with_items_is c.in-If.yes c.place_stmts.new.stmts (omega (arith, ap length c.deref_mut.ensures.value)) in
    let no = with_items_is c.in-If.no c.place_stmts-in-If.new.stmts (omega (arith, ap length c.deref_mut-in-If.ensures.value)) in
    if_same c.args.stmt _ _ _ _ _ _ c.in-If.is c.placed_guard-guard.ensures.same
    (ap stmts_of yes ∙ c.place_stmts.ensures.same ∙ ap stmts_of c.deref_mut.ensures.value)
    (ap stmts_of no ∙ c.place_stmts-in-If.ensures.same ∙ ap stmts_of c.deref_mut-in-If.ensures.value)

pub placed_stmt-returns-in-If-clause-placed : goal.placed_stmt-returns-in-If-clause-placed
placed_stmt-returns-in-If-clause-placed t c =
    let yes = with_items_is c.in-If.yes c.place_stmts.new.stmts (omega (arith, ap length c.deref_mut.ensures.value)) in
    let no = with_items_is c.in-If.no c.place_stmts-in-If.new.stmts (omega (arith, ap length c.deref_mut-in-If.ensures.value)) in
    if_placed _ _ _ _ c.placed_guard-guard.ensures.placed
    (stmts_at yes c.copy.ensures c.place_stmts.ensures.placed)
    (stmts_at no c.copy-in-If.ensures c.place_stmts-in-If.ensures.placed)

pub placed_stmt-returns-in-For-clause-same : goal.placed_stmt-returns-in-For-clause-same
placed_stmt-returns-in-For-clause-same t c =
    let items = with_items_is c.in-For.stmts c.place_stmts-in-For.new.stmts (omega (arith, ap length c.deref_mut-in-For.ensures.value)) in
    for_same c.args.stmt _ _ _ _ _ _ c.in-For.is c.placed_guard-guard-in-For.ensures.same
    (ap stmts_of items ∙ c.place_stmts-in-For.ensures.same ∙ ap stmts_of c.deref_mut-in-For.ensures.value)

pub placed_stmt-returns-in-For-clause-placed : goal.placed_stmt-returns-in-For-clause-placed
placed_stmt-returns-in-For-clause-placed t c =
    let items = with_items_is c.in-For.stmts c.place_stmts-in-For.new.stmts (omega (arith, ap length c.deref_mut-in-For.ensures.value)) in
    let P : Scope → Type 0 = λ sc. guard_placed c.placed_guard-guard-in-For.result sc ≡ true in
    for_placed _ _ _ _ _ (subst P c.bind-inner.ensures c.placed_guard-guard-in-For.ensures.placed)
    (stmts_at items c.bind-inner.ensures c.place_stmts-in-For.ensures.placed)

pub place_stmts-returns-clause-same : goal.place_stmts-returns-clause-same
place_stmts-returns-clause-same t c = ap stmts c.loop-stmt.invariant.passed.same

pub place_stmts-returns-clause-placed : goal.place_stmts-returns-clause-placed
place_stmts-returns-clause-placed t c = (stmts_over c.loop-stmt.invariant.passed (omega arith)).0

pub place_stmts-returns-clause-behind : goal.place_stmts-returns-clause-behind
place_stmts-returns-clause-behind t c = (stmts_over c.loop-stmt.invariant.passed (omega arith)).1

pub place_stmts-placed_stmt-requires : goal.place_stmts-placed_stmt-requires
place_stmts-placed_stmt-requires t c =
    let here : c.loop-stmt.stmt-index < length c.loop-stmt.stmts = omega arith in
    let room = (stmt_room c.stmt-item.result c.loop-stmt.invariant.passed here c.stmt-item.is).0 in
    let e = c.replace-bare.ensures.value ∙ sym c.stmt-item.is in
    let old = c.loop-stmt.invariant.unvisited.1 c.loop-stmt.stmt-index c.stmt-item.result (omega arith) in
    let small = at_most the_size c.args.stmts.now c.loop-stmt.stmt-index c.stmt-item.result (omega arith) in
    let same = ap the_size (e ∙ c.stmt-item.is ∙ old) in
    (omega (arith, c.decreases), rw e room)
