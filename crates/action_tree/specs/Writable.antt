-- Which trees the grammar gives within its limits, lines aside.
-- Each family of trees has three measures here: how many levels are open at once, at the least,
-- in a text of the tree; how many names are in force at once; and whether its counts,
-- names and numbers are those of a text.
use Rattle.std.specs.Prelude.{ℕ, suc, max, Bool, true, false, ◌&&◌, nat_le, length}
use Rattle.std.specs.List.{list_all}
use Rattle.amoebot_state.specs.Limits.{most_vars}
use Rattle.action_tree.specs.Trees.{Name, Literal, DirTerm, fixed, held, Guard, atom, negation, conjunction, disjunction, quantified, tested, comparison, Guards, no_guards, guard_then, Sum, no_terms, term_then, Term, number, own, of_port, count, direction, inner, mod6, PortExpr, bound, at_end, turned, first, Stmt, put, put_of, let_be, if_then, for_each, Stmts, no_stmts, stmt_then, Move, no_move, through, contract, Var, Action, Program}
use Rattle.action_tree.specs.Words.{is_name, has_few_digits}
use Rattle.action_tree.specs.Limits.{most_levels, most_names, most_elements, most_actions}

-- ---- Levels. `(`, `not`, `turn`, `if` and `for` each open one,
-- which lasts to the end of their construct.

-- it stands as it is among the elements of an `or`; of an `and`, or behind a `not`
abbrev pub is_conj : Guard → Bool
is_conj (disjunction gs) = false
is_conj _ = true

abbrev pub is_unit : Guard → Bool
is_unit (conjunction gs) = false
is_unit (disjunction gs) = false
is_unit _ = true

-- and else in parentheses, which open a level
abbrev pub levels_unless : Bool → ℕ → ℕ
levels_unless true levels = levels
levels_unless false levels = suc levels

abbrev mutual
  pub guard_levels : Guard → ℕ
  guard_levels (atom a) = 0
  guard_levels (negation g) = suc (levels_unless (is_unit g) (guard_levels g))
  guard_levels (conjunction gs) = unit_levels gs
  guard_levels (disjunction gs) = conj_levels gs
  guard_levels (quantified q v s g) = suc (guard_levels g)
  guard_levels (tested t p) = port_levels p
  guard_levels (comparison a c b) = max (sum_levels a) (sum_levels b)

  -- the elements of an `and`, and those of an `or`
  pub unit_levels : Guards → ℕ
  unit_levels no_guards = 0
  unit_levels (guard_then g gs) = max (levels_unless (is_unit g) (guard_levels g)) (unit_levels gs)

  pub conj_levels : Guards → ℕ
  conj_levels no_guards = 0
  conj_levels (guard_then g gs) = max (levels_unless (is_conj g) (guard_levels g)) (conj_levels gs)

  pub sum_levels : Sum → ℕ
  sum_levels no_terms = 0
  sum_levels (term_then minus t s) = max (term_levels t) (sum_levels s)

  pub term_levels : Term → ℕ
  term_levels (number n) = 0
  term_levels (own v) = 0
  term_levels (of_port p v) = port_levels p
  term_levels (count v s g) = suc (guard_levels g)
  term_levels (direction side p) = port_levels p
  term_levels inner = 0
  term_levels (mod6 s) = suc (sum_levels s)

  pub port_levels : PortExpr → ℕ
  port_levels (bound v) = 0
  port_levels (at_end e d) = 0
  port_levels (turned p n) = suc (port_levels p)
  port_levels (first v s g) = suc (guard_levels g)

-- a `for` has a parenthesis inside
abbrev mutual
  pub stmt_levels : Stmt → ℕ
  stmt_levels (put v s) = sum_levels s
  stmt_levels (put_of p v s) = max (port_levels p) (sum_levels s)
  stmt_levels (let_be v p) = port_levels p
  stmt_levels (if_then g ss es) = suc (max (guard_levels g) (max (stmts_levels ss) (stmts_levels es)))
  stmt_levels (for_each v s g ss) = suc (max (suc (guard_levels g)) (stmts_levels ss))

  pub stmts_levels : Stmts → ℕ
  stmts_levels no_stmts = 0
  stmts_levels (stmt_then s ss) = max (stmt_levels s) (stmts_levels ss)

abbrev pub move_levels : Move → ℕ
move_levels no_move = 0
move_levels (through m p) = port_levels p
move_levels (contract e) = 0

abbrev pub action_levels : Action → ℕ
action_levels a = max (guard_levels a.guard) (max (stmts_levels a.body) (move_levels a.moved))

-- ---- Names in force. `any`, `all`, `count` and `first` bind theirs in their parenthesis.

abbrev mutual
  pub guard_names : Guard → ℕ
  guard_names (atom a) = 0
  guard_names (negation g) = guard_names g
  guard_names (conjunction gs) = guards_names gs
  guard_names (disjunction gs) = guards_names gs
  guard_names (quantified q v s g) = suc (guard_names g)
  guard_names (tested t p) = port_names p
  guard_names (comparison a c b) = max (sum_names a) (sum_names b)

  pub guards_names : Guards → ℕ
  guards_names no_guards = 0
  guards_names (guard_then g gs) = max (guard_names g) (guards_names gs)

  pub sum_names : Sum → ℕ
  sum_names no_terms = 0
  sum_names (term_then minus t s) = max (term_names t) (sum_names s)

  pub term_names : Term → ℕ
  term_names (number n) = 0
  term_names (own v) = 0
  term_names (of_port p v) = port_names p
  term_names (count v s g) = suc (guard_names g)
  term_names (direction side p) = port_names p
  term_names inner = 0
  term_names (mod6 s) = sum_names s

  pub port_names : PortExpr → ℕ
  port_names (bound v) = 0
  port_names (at_end e d) = 0
  port_names (turned p n) = port_names p
  port_names (first v s g) = suc (guard_names g)

-- of what comes behind a statement in its list, with the name that a `let` binds there
abbrev pub with_let : Stmt → ℕ → ℕ
with_let (let_be v p) names = suc names
with_let _ names = names

-- A `for` binds its name in its parenthesis and in its statements.
-- A list goes on with what has so many names.
abbrev mutual
  pub stmt_names : Stmt → ℕ
  stmt_names (put v s) = sum_names s
  stmt_names (put_of p v s) = max (port_names p) (sum_names s)
  stmt_names (let_be v p) = port_names p
  stmt_names (if_then g ss es) = max (guard_names g) (max (stmts_names 0 ss) (stmts_names 0 es))
  stmt_names (for_each v s g ss) = suc (max (guard_names g) (stmts_names 0 ss))

  pub stmts_names : ℕ → Stmts → ℕ
  stmts_names more no_stmts = more
  stmts_names more (stmt_then s ss) = max (stmt_names s) (with_let s (stmts_names more ss))

abbrev pub move_names : Move → ℕ
move_names no_move = 0
move_names (through m p) = port_names p
move_names (contract e) = 0

-- what a `let` of the list binds is in force in the move
abbrev pub action_names : Action → ℕ
action_names a = max (guard_names a.guard) (stmts_names (move_names a.moved) a.body)

-- ---- Counts, names and numbers

abbrev pub guard_count : Guards → ℕ
guard_count no_guards = 0
guard_count (guard_then g gs) = suc (guard_count gs)

abbrev pub term_count : Sum → ℕ
term_count no_terms = 0
term_count (term_then minus t s) = suc (term_count s)

abbrev pub stmt_count : Stmts → ℕ
stmt_count no_stmts = 0
stmt_count (stmt_then s ss) = suc (stmt_count ss)

-- not fewer than these, and not too many
abbrev pub is_count_from : ℕ → ℕ → Bool
is_count_from least n = nat_le least n && nat_le n most_elements

abbrev pub named : Name → Bool
named v = is_name v.text

abbrev pub numbered : Literal → Bool
numbered n = has_few_digits n.value

abbrev pub is_writable_dirterm : DirTerm → Bool
is_writable_dirterm (fixed n) = numbered n
is_writable_dirterm (held v) = named v

-- an `and` and an `or` have two elements or more, and a sum has a term
abbrev mutual
  pub is_guard : Guard → Bool
  is_guard (atom a) = true
  is_guard (negation g) = is_guard g
  is_guard (conjunction gs) = is_count_from 2 (guard_count gs) && are_guards gs
  is_guard (disjunction gs) = is_count_from 2 (guard_count gs) && are_guards gs
  is_guard (quantified q v s g) = named v && is_guard g
  is_guard (tested t p) = is_port p
  is_guard (comparison a c b) =
      (is_count_from 1 (term_count a) && are_terms a) && (is_count_from 1 (term_count b) && are_terms b)

  pub are_guards : Guards → Bool
  are_guards no_guards = true
  are_guards (guard_then g gs) = is_guard g && are_guards gs

  pub are_terms : Sum → Bool
  are_terms no_terms = true
  are_terms (term_then minus t s) = is_term t && are_terms s

  pub is_term : Term → Bool
  is_term (number n) = numbered n
  is_term (own v) = named v
  is_term (of_port p v) = is_port p && named v
  is_term (count v s g) = named v && is_guard g
  is_term (direction side p) = is_port p
  is_term inner = true
  is_term (mod6 s) = is_count_from 1 (term_count s) && are_terms s

  pub is_port : PortExpr → Bool
  is_port (bound v) = named v
  is_port (at_end e d) = is_writable_dirterm d
  is_port (turned p n) = is_port p && numbered n
  is_port (first v s g) = named v && is_guard g

abbrev pub is_sum : Sum → Bool
is_sum s = is_count_from 1 (term_count s) && are_terms s

-- An `if` without `else` has none there. Other lists inside a statement have a statement.
abbrev mutual
  pub is_stmt : Stmt → Bool
  is_stmt (put v s) = named v && is_sum s
  is_stmt (put_of p v s) = is_port p && named v && is_sum s
  is_stmt (let_be v p) = named v && is_port p
  is_stmt (if_then g ss es) =
      is_guard g && is_count_from 1 (stmt_count ss) && are_stmts ss
      && is_count_from 0 (stmt_count es) && are_stmts es
  is_stmt (for_each v s g ss) = named v && is_guard g && is_count_from 1 (stmt_count ss) && are_stmts ss

  pub are_stmts : Stmts → Bool
  are_stmts no_stmts = true
  are_stmts (stmt_then s ss) = is_stmt s && are_stmts ss

abbrev pub is_move : Move → Bool
is_move no_move = true
is_move (through m p) = is_port p
is_move (contract e) = true

-- ---- the whole

abbrev pub is_var : Var → Bool
is_var v = named v.name && numbered v.max

-- an action without `do` has no statements
abbrev pub is_action : Action → Bool
is_action a =
    named a.name && is_guard a.guard && is_count_from 0 (stmt_count a.body)
    && are_stmts a.body && is_move a.moved
    && nat_le (action_levels a) most_levels && nat_le (action_names a) most_names

-- some text of the grammar within its limits gives this tree
abbrev pub is_writable : Program → Bool
is_writable p =
    nat_le (length p.vars) most_vars
    && list_all is_var p.vars
    && nat_le (length p.actions) most_actions
    && list_all is_action p.actions
