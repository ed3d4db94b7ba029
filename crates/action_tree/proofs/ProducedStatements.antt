-- The same of statements, movements and whole programs.
use Rattle.std.proofs.Common.{◌≡◌, ℕ, suc, zero, true, ◌&&◌, ◌≤◌, List, [], ◌∷◌, length, arith}
use Rattle.std.specs.List.{list_all}
use Rattle.std.proofs.lemmas.Bool.{leb-true}
use Rattle.amoebot_state.specs.Limits.{most_vars}
use Rattle.action_tree.specs.Trees.{Guard, Sum, Stmt, put, put_of, let_be, if_then, for_each, Stmts, no_stmts, stmt_then, Move, no_move, through, contract, Var, Action, Program}
use Rattle.action_tree.specs.Limits.{most_levels, most_names, most_elements, most_actions}
use Rattle.action_tree.specs.Writable.{guard_levels, guard_names, is_guard, sum_levels, sum_names, is_sum, named, is_count_from, with_let, stmt_levels, stmts_levels, stmt_names, stmts_names, stmt_count, move_levels, move_names, action_levels, action_names, is_stmt, are_stmts, is_move, is_var, is_action, is_writable}
use Rattle.action_tree.specs.Productions.{OfExpr, OfSum, names_left_after, names_left_after_all, OfStmt, put_own, put_there, let_name, if_fi, for_od, OfOptional, left_out, given, OfStmts, one_and_more, OfMore, no_more, and_more, OfMove, nowhere, moved_through, contracted, OfAction, OfVars, no_var, and_var, OfActions, no_action, and_action, OfProgram}
use Rattle.action_tree.proofs.Conditions.{left_of, right_of, from, upto}
use Rattle.action_tree.proofs.Produced.{as_expr, guard_from, sum_from, terms_from, port_from}

expr_from : (g : Guard) (n left : ℕ) → guard_levels g ≤ n → guard_names g ≤ left → is_guard g ≡ true → OfExpr n left g
expr_from g n left l m f = as_expr n left g (guard_from g left m f n l)

whole_sum_from : (s : Sum) (n left : ℕ) → sum_levels s ≤ n → sum_names s ≤ left → is_sum s ≡ true → OfSum n left s
whole_sum_from s n left l m f = sum_from s (terms_from s n left 64 l m (upto 1 _ most_elements (left_of _ _ f)) (right_of _ _ f)) (from 1 _ most_elements (left_of _ _ f))

some_from : {n left : ℕ} (ss : Stmts) → OfMore n left 64 ss → 1 ≤ stmt_count ss → OfStmts n left ss
some_from (stmt_then s ss) (and_more o os) one = one_and_more o os
some_from no_stmts os one = absurd (omega (arith, one))

optional_from : {n left : ℕ} (ss : Stmts) → OfMore n left 64 ss → OfOptional n left ss
optional_from (stmt_then s ss) (and_more o os) = given (one_and_more o os)
optional_from no_stmts os = left_out

-- what may be bound behind a statement was still to be bound before it
rest_of : (s : Stmt) (left k : ℕ) → with_let s k ≤ left → k ≤ names_left_after left s
rest_of (let_be v p) zero k le = omega (arith, le)
rest_of (let_be v p) (suc left) k le = omega (arith, le)
rest_of (put v s) zero k le = le
rest_of (put v s) (suc left) k le = le
rest_of (put_of p v s) zero k le = le
rest_of (put_of p v s) (suc left) k le = le
rest_of (if_then g ss es) zero k le = le
rest_of (if_then g ss es) (suc left) k le = le
rest_of (for_each v s g ss) zero k le = le
rest_of (for_each v s g ss) (suc left) k le = le

pub rest_of_all : (ss : Stmts) (left more : ℕ) → stmts_names more ss ≤ left → more ≤ names_left_after_all left ss
rest_of_all no_stmts left more le = le
rest_of_all (stmt_then s ss) left more le = rest_of_all ss (names_left_after left s) more (rest_of s left _ (omega (arith, le)))

mutual
  pub stmt_from : (s : Stmt) (n left more : ℕ) → stmt_levels s ≤ n → stmt_names s ≤ left → with_let s more ≤ left → is_stmt s ≡ true → OfStmt n left s
  stmt_from (put v s) n left more l m b f = put_own (left_of _ _ f) (whole_sum_from s n left l m (right_of _ _ f))
  stmt_from (put_of p v s) n left more l m b f =
      put_there (port_from p n left (omega (arith, l)) (omega (arith, m)) (left_of _ _ (left_of _ _ f))) (right_of _ _ (left_of _ _ f)) (whole_sum_from s n left (omega (arith, l)) (omega (arith, m)) (right_of _ _ f))
  stmt_from (let_be v p) n zero more l m b f = absurd (omega (arith, b))
  stmt_from (let_be v p) n (suc left) more l m b f = let_name (left_of _ _ f) (port_from p n (suc left) l m (right_of _ _ f))
  stmt_from (if_then g ss es) zero left more l m b f = absurd (omega (arith, l))
  stmt_from (if_then g ss es) (suc n) left more l m b f =
      let ones = left_of _ _ (left_of _ _ f) in
      let some = left_of _ _ ones in
      if_fi (expr_from g n left (omega (arith, l)) (omega (arith, m)) (left_of _ _ some))
      (some_from ss (more_from ss n left 64 0 (omega (arith, l)) (omega (arith, m)) (upto 1 _ most_elements (right_of _ _ some)) (right_of _ _ ones)) (from 1 _ most_elements (right_of _ _ some)))
      (optional_from es (more_from es n left 64 0 (omega (arith, l)) (omega (arith, m)) (upto 0 _ most_elements (right_of _ _ (left_of _ _ f))) (right_of _ _ f)))
  stmt_from (for_each v s g ss) zero left more l m b f = absurd (omega (arith, l))
  stmt_from (for_each v s g ss) (suc zero) left more l m b f = absurd (omega (arith, l))
  stmt_from (for_each v s g ss) (suc (suc n)) zero more l m b f = absurd (omega (arith, m))
  stmt_from (for_each v s g ss) (suc (suc n)) (suc left) more l m b f =
      let some = left_of _ _ f in
      for_od s (left_of _ _ (left_of _ _ some)) (expr_from g n left (omega (arith, l)) (omega (arith, m)) (right_of _ _ (left_of _ _ some)))
      (some_from ss (more_from ss (suc n) left 64 0 (omega (arith, l)) (omega (arith, m)) (upto 1 _ most_elements (right_of _ _ some)) (right_of _ _ f)) (from 1 _ most_elements (right_of _ _ some)))

  pub more_from : (ss : Stmts) (n left room more : ℕ) → stmts_levels ss ≤ n → stmts_names more ss ≤ left → stmt_count ss ≤ room → are_stmts ss ≡ true → OfMore n left room ss
  more_from no_stmts n left room more l m k f = no_more
  more_from (stmt_then s ss) n left zero more l m k f = absurd (omega (arith, k))
  more_from (stmt_then s ss) n left (suc room) more l m k f =
      and_more (stmt_from s n left (stmts_names more ss) (omega (arith, l)) (omega (arith, m)) (omega (arith, m)) (left_of _ _ f))
      (more_from ss n (names_left_after left s) room more (omega (arith, l)) (rest_of s left _ (omega (arith, m))) (omega (arith, k)) (right_of _ _ f))

move_from : (m : Move) (n left : ℕ) → move_levels m ≤ n → move_names m ≤ left → is_move m ≡ true → OfMove n left m
move_from no_move n left l k f = nowhere
move_from (through m p) n left l k f = moved_through m (port_from p n left l k f)
move_from (contract e) n left l k f = contracted e

-- an action whose parts are formed, and whose levels and names are not too many
parts_from : (a : Action) → action_levels a ≤ most_levels → action_names a ≤ most_names → (named a.name && is_guard a.guard && is_count_from 0 (stmt_count a.body) && are_stmts a.body && is_move a.moved) ≡ true → OfAction a
parts_from a l m f = record {
  name = left_of _ _ (left_of _ _ (left_of _ _ (left_of _ _ f)));
  guard = expr_from a.guard most_levels most_names (omega (arith, l)) (omega (arith, m)) (right_of _ _ (left_of _ _ (left_of _ _ (left_of _ _ f))));
  body = optional_from a.body (more_from a.body most_levels most_names 64 (move_names a.moved) (omega (arith, l)) (omega (arith, m)) (upto 0 _ most_elements (right_of _ _ (left_of _ _ (left_of _ _ f)))) (right_of _ _ (left_of _ _ f)));
  moved = move_from a.moved most_levels (names_left_after_all most_names a.body) (omega (arith, l)) (rest_of_all a.body most_names (move_names a.moved) (omega (arith, m))) (right_of _ _ f);
}

pub action_from : (a : Action) → is_action a ≡ true → OfAction a
action_from a f = parts_from a (leb-true _ most_levels (right_of _ _ (left_of _ _ f))) (leb-true _ most_names (right_of _ _ f)) (left_of _ _ (left_of _ _ f))

vars_from : (vs : List Var) (room : ℕ) → length vs ≤ room → list_all is_var vs ≡ true → OfVars room vs
vars_from [] room k f = no_var
vars_from (v ∷ vs) zero k f = absurd (omega (arith, k))
vars_from (v ∷ vs) (suc room) k f = and_var (record { name = left_of _ _ (left_of _ _ f); max = right_of _ _ (left_of _ _ f) }) (vars_from vs room (omega (arith, k)) (right_of _ _ f))

actions_from : (more : List Action) (room : ℕ) → length more ≤ room → list_all is_action more ≡ true → OfActions room more
actions_from [] room k f = no_action
actions_from (a ∷ more) zero k f = absurd (omega (arith, k))
actions_from (a ∷ more) (suc room) k f = and_action (action_from a (left_of _ _ f)) (actions_from more room (omega (arith, k)) (right_of _ _ f))

pub program_from : (p : Program) → is_writable p ≡ true → OfProgram p
program_from p f =
    let few = left_of _ _ f in
    let vs = left_of _ _ few in
    record {
      vars = vars_from p.vars most_vars (leb-true _ most_vars (left_of _ _ vs)) (right_of _ _ vs);
      actions = actions_from p.actions most_actions (leb-true _ most_actions (right_of _ _ few)) (right_of _ _ f);
    }
