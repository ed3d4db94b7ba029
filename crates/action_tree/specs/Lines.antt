-- Trees without their lines, and the lines of a tree.
use Rattle.std.specs.Prelude.{ℕ, List, [], ◌∷◌, ◌++◌, map}
use Rattle.std.specs.List.{flat_map}
use Rattle.action_tree.specs.Trees.{Name, Literal, DirTerm, fixed, held, Guard, atom, negation, conjunction, disjunction, quantified, tested, comparison, Guards, no_guards, guard_then, Sum, no_terms, term_then, Term, number, own, of_port, count, direction, inner, mod6, PortExpr, bound, at_end, turned, first, Stmt, put, put_of, let_be, if_then, for_each, Stmts, no_stmts, stmt_then, Move, no_move, through, contract, Var, Action, Program}

abbrev pub bare_name : Name → Name
bare_name v = record { text = v.text; line = 0 }

abbrev pub bare_literal : Literal → Literal
bare_literal n = record { value = n.value; line = 0 }

abbrev pub bare_dirterm : DirTerm → DirTerm
bare_dirterm (fixed n) = fixed (bare_literal n)
bare_dirterm (held v) = held (bare_name v)

abbrev mutual
  pub bare_guard : Guard → Guard
  bare_guard (atom a) = atom a
  bare_guard (negation g) = negation (bare_guard g)
  bare_guard (conjunction gs) = conjunction (bare_guards gs)
  bare_guard (disjunction gs) = disjunction (bare_guards gs)
  bare_guard (quantified q v s g) = quantified q (bare_name v) s (bare_guard g)
  bare_guard (tested t p) = tested t (bare_port p)
  bare_guard (comparison a c b) = comparison (bare_sum a) c (bare_sum b)

  pub bare_guards : Guards → Guards
  bare_guards no_guards = no_guards
  bare_guards (guard_then g gs) = guard_then (bare_guard g) (bare_guards gs)

  pub bare_sum : Sum → Sum
  bare_sum no_terms = no_terms
  bare_sum (term_then minus t s) = term_then minus (bare_term t) (bare_sum s)

  pub bare_term : Term → Term
  bare_term (number n) = number (bare_literal n)
  bare_term (own v) = own (bare_name v)
  bare_term (of_port p v) = of_port (bare_port p) (bare_name v)
  bare_term (count v s g) = count (bare_name v) s (bare_guard g)
  bare_term (direction side p) = direction side (bare_port p)
  bare_term inner = inner
  bare_term (mod6 s) = mod6 (bare_sum s)

  pub bare_port : PortExpr → PortExpr
  bare_port (bound v) = bound (bare_name v)
  bare_port (at_end e d) = at_end e (bare_dirterm d)
  bare_port (turned p n) = turned (bare_port p) (bare_literal n)
  bare_port (first v s g) = first (bare_name v) s (bare_guard g)

abbrev mutual
  pub bare_stmt : Stmt → Stmt
  bare_stmt (put v s) = put (bare_name v) (bare_sum s)
  bare_stmt (put_of p v s) = put_of (bare_port p) (bare_name v) (bare_sum s)
  bare_stmt (let_be v p) = let_be (bare_name v) (bare_port p)
  bare_stmt (if_then g ss es) = if_then (bare_guard g) (bare_stmts ss) (bare_stmts es)
  bare_stmt (for_each v s g ss) = for_each (bare_name v) s (bare_guard g) (bare_stmts ss)

  pub bare_stmts : Stmts → Stmts
  bare_stmts no_stmts = no_stmts
  bare_stmts (stmt_then s ss) = stmt_then (bare_stmt s) (bare_stmts ss)

abbrev pub bare_move : Move → Move
bare_move no_move = no_move
bare_move (through m p) = through m (bare_port p)
bare_move (contract e) = contract e

abbrev pub bare_var : Var → Var
bare_var v = record { name = bare_name v.name; max = bare_literal v.max }

abbrev pub bare_action : Action → Action
bare_action a = record {
  name = bare_name a.name;
  guard = bare_guard a.guard;
  body = bare_stmts a.body;
  moved = bare_move a.moved;
}

-- each line is 0
abbrev pub without_lines : Program → Program
without_lines p = record { guard = p.guard; vars = map bare_var p.vars; actions = map bare_action p.actions }

-- ---- the lines of all names and numbers, in the order of the text

abbrev pub lines_in_dirterm : DirTerm → List ℕ
lines_in_dirterm (fixed n) = n.line ∷ []
lines_in_dirterm (held v) = v.line ∷ []

abbrev mutual
  pub lines_in_guard : Guard → List ℕ
  lines_in_guard (atom a) = []
  lines_in_guard (negation g) = lines_in_guard g
  lines_in_guard (conjunction gs) = lines_in_guards gs
  lines_in_guard (disjunction gs) = lines_in_guards gs
  lines_in_guard (quantified q v s g) = v.line ∷ lines_in_guard g
  lines_in_guard (tested t p) = lines_in_port p
  lines_in_guard (comparison a c b) = lines_in_sum a ++ lines_in_sum b

  pub lines_in_guards : Guards → List ℕ
  lines_in_guards no_guards = []
  lines_in_guards (guard_then g gs) = lines_in_guard g ++ lines_in_guards gs

  pub lines_in_sum : Sum → List ℕ
  lines_in_sum no_terms = []
  lines_in_sum (term_then minus t s) = lines_in_term t ++ lines_in_sum s

  pub lines_in_term : Term → List ℕ
  lines_in_term (number n) = n.line ∷ []
  lines_in_term (own v) = v.line ∷ []
  lines_in_term (of_port p v) = lines_in_port p ++ v.line ∷ []
  lines_in_term (count v s g) = v.line ∷ lines_in_guard g
  lines_in_term (direction side p) = lines_in_port p
  lines_in_term inner = []
  lines_in_term (mod6 s) = lines_in_sum s

  pub lines_in_port : PortExpr → List ℕ
  lines_in_port (bound v) = v.line ∷ []
  lines_in_port (at_end e d) = lines_in_dirterm d
  lines_in_port (turned p n) = lines_in_port p ++ n.line ∷ []
  lines_in_port (first v s g) = v.line ∷ lines_in_guard g

abbrev mutual
  pub lines_in_stmt : Stmt → List ℕ
  lines_in_stmt (put v s) = v.line ∷ lines_in_sum s
  lines_in_stmt (put_of p v s) = lines_in_port p ++ v.line ∷ lines_in_sum s
  lines_in_stmt (let_be v p) = v.line ∷ lines_in_port p
  lines_in_stmt (if_then g ss es) = lines_in_guard g ++ (lines_in_stmts ss ++ lines_in_stmts es)
  lines_in_stmt (for_each v s g ss) = v.line ∷ (lines_in_guard g ++ lines_in_stmts ss)

  pub lines_in_stmts : Stmts → List ℕ
  lines_in_stmts no_stmts = []
  lines_in_stmts (stmt_then s ss) = lines_in_stmt s ++ lines_in_stmts ss

abbrev pub lines_in_move : Move → List ℕ
lines_in_move no_move = []
lines_in_move (through m p) = lines_in_port p
lines_in_move (contract e) = []

abbrev pub lines_in_var : Var → List ℕ
lines_in_var v = v.name.line ∷ v.max.line ∷ []

abbrev pub lines_in_action : Action → List ℕ
lines_in_action a = a.name.line ∷ (lines_in_guard a.guard ++ (lines_in_stmts a.body ++ lines_in_move a.moved))

abbrev pub lines_in_program : Program → List ℕ
lines_in_program p = flat_map lines_in_var p.vars ++ flat_map lines_in_action p.actions
