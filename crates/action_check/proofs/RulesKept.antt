-- Where nothing is wrong, each part is what an evaluation relies on.
use Rattle.std.proofs.Common.{◌≡◌, ℕ, suc, [], arith}
use Rattle.text_tokens.proofs.StartsLemmas.{right_empty}
use Rattle.action_tree.specs.Trees.{DirTerm, fixed, held, Guard, atom, negation, conjunction, disjunction, quantified, tested, comparison, Guards, no_guards, guard_then, Sum, no_terms, term_then, Term, number, own, of_port, count, direction, inner, mod6, PortExpr, bound, at_end, turned, first, Stmt, put, put_of, let_be, if_then, for_each, Stmts, no_stmts, stmt_then, Move, no_move, through, contract, Action}
use Rattle.action_tree.specs.Writable.{guard_names, guards_names, sum_names, term_names, port_names, with_let, stmt_names, stmts_names, move_names, action_names}
use Rattle.action_tree.proofs.Rooms.{room_behind, room_after, room_after_all}
use Rattle.action_check.specs.Limits.{most_literal, most_direction}
use Rattle.action_tree.specs.Scopes.{Scope, HasRoom, scope_with, scope_after}
use Rattle.action_check.specs.Faults.{dirterm_faults, guard_faults, guards_faults, sum_faults, term_faults, port_faults, stmt_faults, stmts_faults, move_faults, action_faults}
use Rattle.action_check.specs.Rules.{DirTermKept, GuardKept, GuardsKept, SumKept, TermKept, PortKept, StmtKept, StmtsKept, MoveKept, ActionKept}
use Rattle.action_check.proofs.Known.{left_empty, is_var, is_in_force, is_new, is_within}

dirterm_kept : (sc : Scope) (d : DirTerm) → dirterm_faults sc d ≡ [] → DirTermKept sc d
dirterm_kept sc (fixed n) e = is_within most_direction n e
dirterm_kept sc (held v) e = is_var sc v e

mutual
  pub guard_kept : (sc : Scope) (g : Guard) → HasRoom sc (guard_names g) → guard_faults sc g ≡ [] → GuardKept sc g
  guard_kept sc (atom a) room e = tt
  guard_kept sc (negation g) room e = guard_kept sc g room e
  guard_kept sc (conjunction gs) room e = guards_kept sc gs room e
  guard_kept sc (disjunction gs) room e = guards_kept sc gs room e
  guard_kept sc (quantified q v s g) room e =
      (is_new sc v (omega arith) (left_empty _ _ e), guard_kept (scope_with sc v) g (room_behind sc v _ room) (right_empty _ _ e))
  guard_kept sc (tested t p) room e = port_kept sc p room e
  guard_kept sc (comparison a c b) room e = (sum_kept sc a (omega arith) (left_empty _ _ e), sum_kept sc b (omega arith) (right_empty _ _ e))

  pub guards_kept : (sc : Scope) (gs : Guards) → HasRoom sc (guards_names gs) → guards_faults sc gs ≡ [] → GuardsKept sc gs
  guards_kept sc no_guards room e = tt
  guards_kept sc (guard_then g gs) room e = (guard_kept sc g (omega arith) (left_empty _ _ e), guards_kept sc gs (omega arith) (right_empty _ _ e))

  pub sum_kept : (sc : Scope) (s : Sum) → HasRoom sc (sum_names s) → sum_faults sc s ≡ [] → SumKept sc s
  sum_kept sc no_terms room e = tt
  sum_kept sc (term_then minus t s) room e = (term_kept sc t (omega arith) (left_empty _ _ e), sum_kept sc s (omega arith) (right_empty _ _ e))

  pub term_kept : (sc : Scope) (t : Term) → HasRoom sc (term_names t) → term_faults sc t ≡ [] → TermKept sc t
  term_kept sc (number n) room e = is_within most_literal n e
  term_kept sc (own v) room e = is_var sc v e
  term_kept sc (of_port p v) room e = (port_kept sc p room (left_empty _ _ e), is_var sc v (right_empty _ _ e))
  term_kept sc (count v s g) room e =
      (is_new sc v (omega arith) (left_empty _ _ e), guard_kept (scope_with sc v) g (room_behind sc v _ room) (right_empty _ _ e))
  term_kept sc (direction side p) room e = port_kept sc p room e
  term_kept sc inner room e = tt
  term_kept sc (mod6 s) room e = sum_kept sc s room e

  pub port_kept : (sc : Scope) (p : PortExpr) → HasRoom sc (port_names p) → port_faults sc p ≡ [] → PortKept sc p
  port_kept sc (bound v) room e = is_in_force sc v e
  port_kept sc (at_end e d) room f = dirterm_kept sc d f
  port_kept sc (turned p n) room e = (port_kept sc p room (left_empty _ _ e), is_within most_direction n (right_empty _ _ e))
  port_kept sc (first v s g) room e =
      (is_new sc v (omega arith) (left_empty _ _ e), guard_kept (scope_with sc v) g (room_behind sc v _ room) (right_empty _ _ e))

mutual
  pub stmt_kept : (sc : Scope) (s : Stmt) (more : ℕ) → HasRoom sc (stmt_names s) → HasRoom sc (with_let s more) → stmt_faults sc s ≡ [] → StmtKept sc s
  stmt_kept sc (put v s) more room _ e = (is_var sc v (left_empty _ _ e), sum_kept sc s room (right_empty _ _ e))
  stmt_kept sc (put_of p v s) more room _ e =
      (port_kept sc p (omega arith) (left_empty _ _ e), is_var sc v (left_empty _ _ (right_empty _ _ e)), sum_kept sc s (omega arith) (right_empty _ _ (right_empty _ _ e)))
  stmt_kept sc (let_be v p) more room here e = (is_new sc v (omega arith) (left_empty _ _ e), port_kept sc p room (right_empty _ _ e))
  stmt_kept sc (if_then g ss es) more room _ e =
      (guard_kept sc g (omega arith) (left_empty _ _ e), stmts_kept sc ss 0 (omega arith) (left_empty _ _ (right_empty _ _ e)), stmts_kept sc es 0 (omega arith) (right_empty _ _ (right_empty _ _ e)))
  stmt_kept sc (for_each v s g ss) more room _ e =
      let inside : HasRoom sc (suc (guard_names g)) = omega arith in
      let within : HasRoom sc (suc (stmts_names 0 ss)) = omega arith in
      (is_new sc v (omega arith) (left_empty _ _ (left_empty _ _ e)), guard_kept (scope_with sc v) g (room_behind sc v _ inside) (right_empty _ _ (left_empty _ _ e)), stmts_kept (scope_with sc v) ss 0 (room_behind sc v _ within) (right_empty _ _ e))

  -- a list that goes on with what has so many names
  pub stmts_kept : (sc : Scope) (ss : Stmts) (more : ℕ) → HasRoom sc (stmts_names more ss) → stmts_faults sc ss ≡ [] → StmtsKept sc ss
  stmts_kept sc no_stmts more room e = tt
  stmts_kept sc (stmt_then s ss) more room e =
      (stmt_kept sc s (stmts_names more ss) (omega arith) (omega arith) (left_empty _ _ e), stmts_kept (scope_after sc s) ss more (room_after sc s _ (omega arith)) (right_empty _ _ e))

move_kept : (sc : Scope) (m : Move) → HasRoom sc (move_names m) → move_faults sc m ≡ [] → MoveKept sc m
move_kept sc no_move room e = tt
move_kept sc (through m p) room e = port_kept sc p room e
move_kept sc (contract e) room f = tt

pub action_kept : (sc : Scope) (a : Action) → HasRoom sc (action_names a) → action_faults sc a ≡ [] → ActionKept sc a
action_kept sc a room e =
    let body : HasRoom sc (stmts_names (move_names a.moved) a.body) = omega arith in
    record {
      guard = guard_kept sc a.guard (omega arith) (left_empty _ _ e);
      body = stmts_kept sc a.body (move_names a.moved) body (left_empty _ _ (right_empty _ _ e));
      moved = move_kept _ a.moved (room_after_all sc a.body _ body) (right_empty _ _ (right_empty _ _ e));
    }
