-- Where each part is what an evaluation relies on, nothing is wrong.
use Rattle.std.proofs.Common.{◌≡◌, [], refl}
use Rattle.action_tree.specs.Trees.{DirTerm, fixed, held, Guard, atom, negation, conjunction, disjunction, quantified, tested, comparison, Guards, no_guards, guard_then, Sum, no_terms, term_then, Term, number, own, of_port, count, direction, inner, mod6, PortExpr, bound, at_end, turned, first, Stmt, put, put_of, let_be, if_then, for_each, Stmts, no_stmts, stmt_then, Move, no_move, through, contract, Action}
use Rattle.action_check.specs.Limits.{most_literal, most_direction}
use Rattle.action_tree.specs.Scopes.{Scope, scope_with, scope_after, scope_after_all}
use Rattle.action_check.specs.Faults.{dirterm_faults, guard_faults, guards_faults, sum_faults, term_faults, port_faults, stmt_faults, stmts_faults, move_faults, action_faults}
use Rattle.action_check.specs.Rules.{DirTermKept, GuardKept, GuardsKept, SumKept, TermKept, PortKept, StmtKept, StmtsKept, MoveKept, ActionKept}
use Rattle.action_check.proofs.Known.{both_empty, var_is_fine, bound_is_fine, new_is_fine, within_is_fine}

dirterm_fine : (sc : Scope) (d : DirTerm) → DirTermKept sc d → dirterm_faults sc d ≡ []
dirterm_fine sc (fixed n) k = within_is_fine most_direction n k
dirterm_fine sc (held v) k = var_is_fine sc v k

mutual
  pub guard_fine : (sc : Scope) (g : Guard) → GuardKept sc g → guard_faults sc g ≡ []
  guard_fine sc (atom a) k = refl
  guard_fine sc (negation g) k = guard_fine sc g k
  guard_fine sc (conjunction gs) k = guards_fine sc gs k
  guard_fine sc (disjunction gs) k = guards_fine sc gs k
  guard_fine sc (quantified q v s g) k = both_empty _ _ (new_is_fine sc v k.0) (guard_fine (scope_with sc v) g k.1)
  guard_fine sc (tested t p) k = port_fine sc p k
  guard_fine sc (comparison a c b) k = both_empty _ _ (sum_fine sc a k.0) (sum_fine sc b k.1)

  pub guards_fine : (sc : Scope) (gs : Guards) → GuardsKept sc gs → guards_faults sc gs ≡ []
  guards_fine sc no_guards k = refl
  guards_fine sc (guard_then g gs) k = both_empty _ _ (guard_fine sc g k.0) (guards_fine sc gs k.1)

  pub sum_fine : (sc : Scope) (s : Sum) → SumKept sc s → sum_faults sc s ≡ []
  sum_fine sc no_terms k = refl
  sum_fine sc (term_then minus t s) k = both_empty _ _ (term_fine sc t k.0) (sum_fine sc s k.1)

  pub term_fine : (sc : Scope) (t : Term) → TermKept sc t → term_faults sc t ≡ []
  term_fine sc (number n) k = within_is_fine most_literal n k
  term_fine sc (own v) k = var_is_fine sc v k
  term_fine sc (of_port p v) k = both_empty _ _ (port_fine sc p k.0) (var_is_fine sc v k.1)
  term_fine sc (count v s g) k = both_empty _ _ (new_is_fine sc v k.0) (guard_fine (scope_with sc v) g k.1)
  term_fine sc (direction side p) k = port_fine sc p k
  term_fine sc inner k = refl
  term_fine sc (mod6 s) k = sum_fine sc s k

  pub port_fine : (sc : Scope) (p : PortExpr) → PortKept sc p → port_faults sc p ≡ []
  port_fine sc (bound v) k = bound_is_fine sc v k
  port_fine sc (at_end e d) k = dirterm_fine sc d k
  port_fine sc (turned p n) k = both_empty _ _ (port_fine sc p k.0) (within_is_fine most_direction n k.1)
  port_fine sc (first v s g) k = both_empty _ _ (new_is_fine sc v k.0) (guard_fine (scope_with sc v) g k.1)

mutual
  pub stmt_fine : (sc : Scope) (s : Stmt) → StmtKept sc s → stmt_faults sc s ≡ []
  stmt_fine sc (put v s) k = both_empty _ _ (var_is_fine sc v k.0) (sum_fine sc s k.1)
  stmt_fine sc (put_of p v s) k = both_empty _ _ (port_fine sc p k.0) (both_empty _ _ (var_is_fine sc v k.1) (sum_fine sc s k.2))
  stmt_fine sc (let_be v p) k = both_empty _ _ (new_is_fine sc v k.0) (port_fine sc p k.1)
  stmt_fine sc (if_then g ss es) k = both_empty _ _ (guard_fine sc g k.0) (both_empty _ _ (stmts_fine sc ss k.1) (stmts_fine sc es k.2))
  stmt_fine sc (for_each v s g ss) k = both_empty _ _ (both_empty _ _ (new_is_fine sc v k.0) (guard_fine (scope_with sc v) g k.1)) (stmts_fine (scope_with sc v) ss k.2)

  pub stmts_fine : (sc : Scope) (ss : Stmts) → StmtsKept sc ss → stmts_faults sc ss ≡ []
  stmts_fine sc no_stmts k = refl
  stmts_fine sc (stmt_then s ss) k = both_empty _ _ (stmt_fine sc s k.0) (stmts_fine (scope_after sc s) ss k.1)

move_fine : (sc : Scope) (m : Move) → MoveKept sc m → move_faults sc m ≡ []
move_fine sc no_move k = refl
move_fine sc (through m p) k = port_fine sc p k
move_fine sc (contract e) k = refl

pub action_fine : (sc : Scope) (a : Action) → ActionKept sc a → action_faults sc a ≡ []
action_fine sc a k = both_empty _ _ (guard_fine sc a.guard k.guard) (both_empty _ _ (stmts_fine sc a.body k.body) (move_fine (scope_after_all sc a.body) a.moved k.moved))
