-- What the rules on names and ranges say of each part of a program:
-- every name is known and of its kind, at most so many names are in force,
-- and numbers are in their ranges.
-- Each is what an evaluation of that part relies on.
use Rattle.std.specs.Prelude.{◌≢◌, ◌<◌, ◌≤◌, ℕ, List, length}
use Rattle.std.specs.List.{All, AllPairs, Contains}
use Rattle.amoebot_state.specs.Limits.{most_value}
use Rattle.action_tree.specs.Trees.{Name, Literal, DirTerm, fixed, held, Guard, atom, negation, conjunction, disjunction, quantified, tested, comparison, Guards, no_guards, guard_then, Sum, no_terms, term_then, Term, number, own, of_port, count, direction, inner, mod6, PortExpr, bound, at_end, turned, first, Stmt, put, put_of, let_be, if_then, for_each, Stmts, no_stmts, stmt_then, Move, no_move, through, contract, Action, Program}
use Rattle.action_tree.specs.Limits.{most_names}
use Rattle.action_check.specs.Limits.{most_literal, most_direction}
use Rattle.action_tree.specs.Scopes.{Scope, scope_with, scope_after, scope_after_all}
use Rattle.action_check.specs.Faults.{names_of_actions}
use Rattle.action_tree.specs.Scopes.{names_of_vars, at_start}

-- ---- one name, and one number

abbrev pub IsVariable : Scope → Name → Type 0
IsVariable sc v = Contains sc.vars v.text

abbrev pub IsInForce : Scope → Name → Type 0
IsInForce sc v = Contains sc.bound v.text

-- it is no variable and not in force, and one more name may be in force
pub record IsNew (sc : Scope) (v : Name) : Type 0 where
  pub no_var : ¬ IsVariable sc v
  pub not_bound : ¬ IsInForce sc v
  pub room : length sc.bound < most_names

abbrev pub IsAtMost : ℕ → Literal → Type 0
IsAtMost most n = n.value ≤ most

-- ---- guards, sums and ports

abbrev pub DirTermKept : Scope → DirTerm → Type 0
DirTermKept sc (fixed n) = IsAtMost most_direction n
DirTermKept sc (held v) = IsVariable sc v

abbrev mutual
  pub GuardKept : Scope → Guard → Type 0
  GuardKept sc (atom a) = Unit {0}
  GuardKept sc (negation g) = GuardKept sc g
  GuardKept sc (conjunction gs) = GuardsKept sc gs
  GuardKept sc (disjunction gs) = GuardsKept sc gs
  GuardKept sc (quantified q v s g) = IsNew sc v × GuardKept (scope_with sc v) g
  GuardKept sc (tested t p) = PortKept sc p
  GuardKept sc (comparison a c b) = SumKept sc a × SumKept sc b

  pub GuardsKept : Scope → Guards → Type 0
  GuardsKept sc no_guards = Unit {0}
  GuardsKept sc (guard_then g gs) = GuardKept sc g × GuardsKept sc gs

  pub SumKept : Scope → Sum → Type 0
  SumKept sc no_terms = Unit {0}
  SumKept sc (term_then minus t s) = TermKept sc t × SumKept sc s

  pub TermKept : Scope → Term → Type 0
  TermKept sc (number n) = IsAtMost most_literal n
  TermKept sc (own v) = IsVariable sc v
  TermKept sc (of_port p v) = PortKept sc p × IsVariable sc v
  TermKept sc (count v s g) = IsNew sc v × GuardKept (scope_with sc v) g
  TermKept sc (direction side p) = PortKept sc p
  TermKept sc inner = Unit {0}
  TermKept sc (mod6 s) = SumKept sc s

  pub PortKept : Scope → PortExpr → Type 0
  PortKept sc (bound v) = IsInForce sc v
  PortKept sc (at_end e d) = DirTermKept sc d
  PortKept sc (turned p n) = PortKept sc p × IsAtMost most_direction n
  PortKept sc (first v s g) = IsNew sc v × GuardKept (scope_with sc v) g

-- ---- statements, and the movement

abbrev mutual
  pub StmtKept : Scope → Stmt → Type 0
  StmtKept sc (put v s) = IsVariable sc v × SumKept sc s
  StmtKept sc (put_of p v s) = PortKept sc p × IsVariable sc v × SumKept sc s
  StmtKept sc (let_be v p) = IsNew sc v × PortKept sc p
  StmtKept sc (if_then g ss es) = GuardKept sc g × StmtsKept sc ss × StmtsKept sc es
  StmtKept sc (for_each v s g ss) =
      IsNew sc v × GuardKept (scope_with sc v) g × StmtsKept (scope_with sc v) ss

  pub StmtsKept : Scope → Stmts → Type 0
  StmtsKept sc no_stmts = Unit {0}
  StmtsKept sc (stmt_then s ss) = StmtKept sc s × StmtsKept (scope_after sc s) ss

abbrev pub MoveKept : Scope → Move → Type 0
MoveKept sc no_move = Unit {0}
MoveKept sc (through m p) = PortKept sc p
MoveKept sc (contract e) = Unit {0}

-- ---- the whole

pub record ActionKept (sc : Scope) (a : Action) : Type 0 where
  pub guard : GuardKept sc a.guard
  pub body : StmtsKept sc a.body
  pub moved : MoveKept (scope_after_all sc a.body) a.moved

-- they differ from each other
abbrev pub AreDistinct : List (List ℕ) → Type 0
AreDistinct names = AllPairs ◌≢◌ names

pub record ProgramKept (p : Program) : Type 0 where
  pub vars : AreDistinct (names_of_vars p.vars)
  pub maxes : All (λ v. IsAtMost most_value v.max) p.vars
  pub actions : AreDistinct (names_of_actions p.actions)
  pub each : All (ActionKept (at_start p)) p.actions
