-- What is wrong with the names and the numbers of a program: all faults of its tree,
-- in the order of its text, each with the line of the token that is to blame.
use Rattle.std.specs.Prelude.{◌≡◌, ℕ, ◌||◌, nat_le, List, [], ◌∷◌, ◌++◌, map, if◌then◌else◌}
use Rattle.text_tokens.specs.declared.refusal.Refusal.{Refusal}
use Rattle.text_tokens.specs.declared.refusal.RefusalKind.{RefusalKind}
use Rattle.text_tokens.specs.declared.refusal.RefusalKind.TheVariants.{UnknownName, TwiceNamed, WrongType, BadRange}
use Rattle.amoebot_state.specs.Limits.{most_value}
use Rattle.action_tree.specs.Trees.{Name, Literal, DirTerm, fixed, held, Guard, atom, negation, conjunction, disjunction, quantified, tested, comparison, Guards, no_guards, guard_then, Sum, no_terms, term_then, Term, number, own, of_port, count, direction, inner, mod6, PortExpr, bound, at_end, turned, first, Stmt, put, put_of, let_be, if_then, for_each, Stmts, no_stmts, stmt_then, Move, no_move, through, contract, Var, Action, Program}
use Rattle.action_check.specs.Limits.{most_literal, most_direction}
use Rattle.action_tree.specs.Scopes.{Scope, is_among, scope_with, scope_after, scope_after_all, at_start}

-- ---- one name, and one number

abbrev pub blamed : RefusalKind → ℕ → List Refusal
blamed kind line = record { line = line; kind = kind } ∷ []

-- where a variable is needed
abbrev pub var_faults : Scope → Name → List Refusal
var_faults sc v =
    if is_among sc.vars v then []
    else if is_among sc.bound v then blamed WrongType v.line
    else blamed UnknownName v.line

-- where a bound name is needed
abbrev pub bound_faults : Scope → Name → List Refusal
bound_faults sc v =
    if is_among sc.bound v then []
    else if is_among sc.vars v then blamed WrongType v.line
    else blamed UnknownName v.line

-- where a name is bound: it is no variable and not in force
abbrev pub binding_faults : Scope → Name → List Refusal
binding_faults sc v = if is_among sc.vars v || is_among sc.bound v then blamed TwiceNamed v.line else []

-- where a variable or an action is declared, behind the declarations of these names
abbrev pub declared_faults : List (List ℕ) → Name → List Refusal
declared_faults earlier v = if is_among earlier v then blamed TwiceNamed v.line else []

abbrev pub range_faults : ℕ → Literal → List Refusal
range_faults most n = if nat_le n.value most then [] else blamed BadRange n.line

-- ---- guards, sums and ports

abbrev pub dirterm_faults : Scope → DirTerm → List Refusal
dirterm_faults sc (fixed n) = range_faults most_direction n
dirterm_faults sc (held v) = var_faults sc v

abbrev mutual
  pub guard_faults : Scope → Guard → List Refusal
  guard_faults sc (atom a) = []
  guard_faults sc (negation g) = guard_faults sc g
  guard_faults sc (conjunction gs) = guards_faults sc gs
  guard_faults sc (disjunction gs) = guards_faults sc gs
  guard_faults sc (quantified q v s g) = binding_faults sc v ++ guard_faults (scope_with sc v) g
  guard_faults sc (tested t p) = port_faults sc p
  guard_faults sc (comparison a c b) = sum_faults sc a ++ sum_faults sc b

  pub guards_faults : Scope → Guards → List Refusal
  guards_faults sc no_guards = []
  guards_faults sc (guard_then g gs) = guard_faults sc g ++ guards_faults sc gs

  pub sum_faults : Scope → Sum → List Refusal
  sum_faults sc no_terms = []
  sum_faults sc (term_then minus t s) = term_faults sc t ++ sum_faults sc s

  pub term_faults : Scope → Term → List Refusal
  term_faults sc (number n) = range_faults most_literal n
  term_faults sc (own v) = var_faults sc v
  term_faults sc (of_port p v) = port_faults sc p ++ var_faults sc v
  term_faults sc (count v s g) = binding_faults sc v ++ guard_faults (scope_with sc v) g
  term_faults sc (direction side p) = port_faults sc p
  term_faults sc inner = []
  term_faults sc (mod6 s) = sum_faults sc s

  pub port_faults : Scope → PortExpr → List Refusal
  port_faults sc (bound v) = bound_faults sc v
  port_faults sc (at_end e d) = dirterm_faults sc d
  port_faults sc (turned p n) = port_faults sc p ++ range_faults most_direction n
  port_faults sc (first v s g) = binding_faults sc v ++ guard_faults (scope_with sc v) g

-- ---- statements, and the movement

abbrev mutual
  pub stmt_faults : Scope → Stmt → List Refusal
  stmt_faults sc (put v s) = var_faults sc v ++ sum_faults sc s
  stmt_faults sc (put_of p v s) = port_faults sc p ++ (var_faults sc v ++ sum_faults sc s)
  stmt_faults sc (let_be v p) = binding_faults sc v ++ port_faults sc p
  stmt_faults sc (if_then g ss es) = guard_faults sc g ++ (stmts_faults sc ss ++ stmts_faults sc es)
  stmt_faults sc (for_each v s g ss) =
      (binding_faults sc v ++ guard_faults (scope_with sc v) g) ++ stmts_faults (scope_with sc v) ss

  pub stmts_faults : Scope → Stmts → List Refusal
  stmts_faults sc no_stmts = []
  stmts_faults sc (stmt_then s ss) = stmt_faults sc s ++ stmts_faults (scope_after sc s) ss

abbrev pub move_faults : Scope → Move → List Refusal
move_faults sc no_move = []
move_faults sc (through m p) = port_faults sc p
move_faults sc (contract e) = []

-- ---- the whole

-- of the variables behind those of these names
abbrev pub vars_faults : List (List ℕ) → List Var → List Refusal
vars_faults earlier [] = []
vars_faults earlier (v ∷ vs) =
    declared_faults earlier v.name
    ++ (range_faults most_value v.max ++ vars_faults (earlier ++ v.name.text ∷ []) vs)

-- of what stands behind the name of an action; the names that its statements
-- bind are in force in its movement
abbrev pub action_faults : Scope → Action → List Refusal
action_faults sc a =
    guard_faults sc a.guard ++ (stmts_faults sc a.body ++ move_faults (scope_after_all sc a.body) a.moved)

-- of the actions behind those of these names
abbrev pub actions_faults : Scope → List (List ℕ) → List Action → List Refusal
actions_faults sc earlier [] = []
actions_faults sc earlier (a ∷ more) =
    declared_faults earlier a.name
    ++ (action_faults sc a ++ actions_faults sc (earlier ++ a.name.text ∷ []) more)

abbrev pub names_of_actions : List Action → List (List ℕ)
names_of_actions actions = map (λ a. a.name.text) actions

abbrev pub faults : Program → List Refusal
faults p = vars_faults [] p.vars ++ actions_faults (at_start p) [] p.actions

-- the rules on names and ranges
abbrev pub AreRulesKept : Program → Type 0
AreRulesKept p = faults p ≡ []
