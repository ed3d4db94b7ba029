-- The same of statements, movements and whole programs.
use Rattle.std.proofs.Common.{◌≡◌, ℕ, suc, zero, true, ◌≤◌, List, length, refl, arith}
use Rattle.std.specs.List.{list_all}
use Rattle.std.proofs.lemmas.Bool.{le-leb, and_from}
use Rattle.amoebot_state.specs.Limits.{most_vars}
use Rattle.action_tree.specs.Trees.{Stmt, Stmts, stmt_then, Move, Var, Action, Program}
use Rattle.action_tree.specs.Limits.{most_levels, most_names, most_elements, most_actions}
use Rattle.action_tree.specs.Writable.{with_let, stmt_levels, stmts_levels, stmt_names, stmts_names, stmt_count, move_levels, move_names, is_stmt, are_stmts, is_move, is_var, is_action, is_writable}
use Rattle.action_tree.specs.Productions.{names_left_after, names_left_after_all, OfStmt, put_own, put_there, let_name, if_fi, for_od, OfOptional, left_out, given, OfStmts, one_and_more, OfMore, no_more, and_more, OfMove, nowhere, moved_through, contracted, OfAction, OfVars, no_var, and_var, OfActions, no_action, and_action, OfProgram}
use Rattle.action_tree.proofs.Conditions.{within}
use Rattle.action_tree.proofs.Measured.{Meets, expr_meets, sum_meets, port_meets}

abbrev pub StmtMeets : ℕ → ℕ → Stmt → Type 0
StmtMeets n left s = Meets n left (stmt_levels s) (stmt_names s) (is_stmt s)

-- The list may be followed by what binds as many names as may be bound behind it.
pub record StmtsMeet (n left room : ℕ) (ss : Stmts) : Type 0 where
  pub levels : stmts_levels ss ≤ n
  pub names : (more : ℕ) → more ≤ names_left_after_all left ss → stmts_names more ss ≤ left
  pub count : stmt_count ss ≤ room
  pub formed : are_stmts ss ≡ true

-- a name that a `let` binds was still to be bound
binds : {n left : ℕ} {s : Stmt} → OfStmt n left s → (k : ℕ) → k ≤ names_left_after left s → with_let s k ≤ left
binds {left = zero} (put_own is s) k le = le
binds {left = suc left} (put_own is s) k le = le
binds {left = zero} (put_there p is s) k le = le
binds {left = suc left} (put_there p is s) k le = le
binds (let_name is p) k le = omega arith
binds {left = zero} (if_fi e ss es) k le = le
binds {left = suc left} (if_fi e ss es) k le = le
binds (for_od s is e ss) k le = le

pub list_meets : {n left room : ℕ} {s : Stmt} {ss : Stmts} → OfStmt n left s → StmtMeets n left s → StmtsMeet n (names_left_after left s) room ss → StmtsMeet n left (suc room) (stmt_then s ss)
list_meets o m ms = record {
  levels = omega (arith, m.levels, ms.levels);
  names = λ more le. omega (arith, m.names, binds o _ (ms.names more le));
  count = omega (arith, ms.count);
  formed = and_from _ _ m.formed ms.formed;
}

mutual
  pub stmt_meets : {n left : ℕ} {s : Stmt} → OfStmt n left s → StmtMeets n left s
  stmt_meets (put_own is s) = let m = sum_meets s in record { levels = m.levels; names = m.names; formed = and_from _ _ is m.formed }
  stmt_meets (put_there p is s) =
      let m = port_meets p in
      let k = sum_meets s in
      record { levels = omega (arith, m.levels, k.levels); names = omega (arith, m.names, k.names); formed = and_from _ _ (and_from _ _ m.formed is) k.formed }
  stmt_meets (let_name is p) = let m = port_meets p in record { levels = m.levels; names = m.names; formed = and_from _ _ is m.formed }
  stmt_meets (if_fi e ss es) =
      let m = expr_meets e in
      let k = stmts_meet ss in
      let o = optional_meets es in
      record {
        levels = omega (arith, m.levels, k.levels, o.levels);
        names = omega (arith, m.names, k.names 0 (omega arith), o.names 0 (omega arith));
        formed = and_from _ _ (and_from _ _ (and_from _ _ (and_from _ _ m.formed (within 1 _ most_elements (some_stmt ss) k.count)) k.formed) (within 0 _ most_elements (omega arith) o.count)) o.formed;
      }
  stmt_meets (for_od s is e ss) =
      let m = expr_meets e in
      let k = stmts_meet ss in
      record {
        levels = omega (arith, m.levels, k.levels);
        names = omega (arith, m.names, k.names 0 (omega arith));
        formed = and_from _ _ (and_from _ _ (and_from _ _ is m.formed) (within 1 _ most_elements (some_stmt ss) k.count)) k.formed;
      }

  pub optional_meets : {n left : ℕ} {ss : Stmts} → OfOptional n left ss → StmtsMeet n left 64 ss
  optional_meets left_out = record { levels = omega arith; names = λ more le. le; count = omega arith; formed = refl }
  optional_meets (given ss) = stmts_meet ss

  pub stmts_meet : {n left : ℕ} {ss : Stmts} → OfStmts n left ss → StmtsMeet n left 64 ss
  stmts_meet (one_and_more s ss) = list_meets s (stmt_meets s) (more_meet ss)

  pub more_meet : {n left room : ℕ} {ss : Stmts} → OfMore n left room ss → StmtsMeet n left room ss
  more_meet no_more = record { levels = omega arith; names = λ more le. le; count = omega arith; formed = refl }
  more_meet (and_more s ss) = list_meets s (stmt_meets s) (more_meet ss)

  pub some_stmt : {n left : ℕ} {ss : Stmts} → OfStmts n left ss → 1 ≤ stmt_count ss
  some_stmt (one_and_more s ss) = omega arith

pub move_meets : {n left : ℕ} {m : Move} → OfMove n left m → Meets n left (move_levels m) (move_names m) (is_move m)
move_meets nowhere = record { levels = omega arith; names = omega arith; formed = refl }
move_meets (moved_through m p) = let k = port_meets p in record { levels = k.levels; names = k.names; formed = k.formed }
move_meets (contracted e) = record { levels = omega arith; names = omega arith; formed = refl }

pub action_passes : (a : Action) → OfAction a → is_action a ≡ true
action_passes a o =
    let g = expr_meets o.guard in
    let ss = optional_meets o.body in
    let m = move_meets o.moved in
    and_from _ _ (and_from _ _ (and_from _ _ (and_from _ _ (and_from _ _ (and_from _ _ o.name g.formed) (within 0 _ most_elements (omega arith) ss.count)) ss.formed) m.formed)
    (le-leb _ most_levels (omega (arith, g.levels, ss.levels, m.levels)))) (le-leb _ most_names (omega (arith, g.names, ss.names _ m.names)))

vars_few : {room : ℕ} {vs : List Var} → OfVars room vs → length vs ≤ room
vars_few no_var = omega arith
vars_few (and_var v vs) = omega (arith, vars_few vs)

vars_pass : {room : ℕ} {vs : List Var} → OfVars room vs → list_all is_var vs ≡ true
vars_pass no_var = refl
vars_pass (and_var v vs) = and_from _ _ (and_from _ _ v.name v.max) (vars_pass vs)

actions_few : {room : ℕ} {more : List Action} → OfActions room more → length more ≤ room
actions_few no_action = omega arith
actions_few (and_action a more) = omega (arith, actions_few more)

actions_pass : {room : ℕ} {more : List Action} → OfActions room more → list_all is_action more ≡ true
actions_pass no_action = refl
actions_pass (and_action a more) = and_from _ _ (action_passes _ a) (actions_pass more)

pub program_passes : (p : Program) → OfProgram p → is_writable p ≡ true
program_passes p o =
    and_from _ _ (and_from _ _ (and_from _ _ (le-leb _ most_vars (vars_few o.vars)) (vars_pass o.vars)) (le-leb _ most_actions (actions_few o.actions))) (actions_pass o.actions)
