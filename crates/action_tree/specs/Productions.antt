-- Which trees the productions of the grammar give, one rule for each form.
-- Two numbers say what a text has left where the form stands: how many more levels may be opened,
-- and how many more names may be bound.
use Rattle.std.specs.Prelude.{◌≡◌, ℕ, suc, Bool, true, List, [], ◌∷◌}
use Rattle.amoebot_state.specs.declared.bot.End.{End}
use Rattle.amoebot_state.specs.Limits.{most_vars}
use Rattle.action_tree.specs.declared.expression.PortSet.{PortSet}
use Rattle.action_tree.specs.declared.expression.Cmp.{Cmp}
use Rattle.action_tree.specs.Trees.{Name, Literal, DirTerm, fixed, held, Atom, Quantifier, PortTest, Side, PortMove, Guard, atom, negation, conjunction, disjunction, quantified, tested, comparison, Guards, no_guards, guard_then, Sum, no_terms, term_then, Term, number, own, of_port, count, direction, inner, mod6, PortExpr, bound, at_end, turned, first, Stmt, put, put_of, let_be, if_then, for_each, Stmts, no_stmts, stmt_then, Move, no_move, through, contract, Var, Action, Program}
use Rattle.action_tree.specs.Words.{is_name, has_few_digits}
use Rattle.action_tree.specs.Limits.{most_levels, most_names, most_further, most_actions}

-- a NAME, and a NUMBER
abbrev pub IsName : Name → Type 0
IsName v = is_name v.text ≡ true

abbrev pub IsNumberToken : Literal → Type 0
IsNumberToken n = has_few_digits n.value ≡ true

-- one alone is itself
abbrev pub all_of : Guard → Guards → Guard
all_of g no_guards = g
all_of g (guard_then h gs) = conjunction (guard_then g (guard_then h gs))

abbrev pub any_of : Guard → Guards → Guard
any_of g no_guards = g
any_of g (guard_then h gs) = disjunction (guard_then g (guard_then h gs))

pub data OfDirTerm : DirTerm → Type 0 where
  dir_number : {n : Literal} → IsNumberToken n → OfDirTerm (fixed n)
  dir_name : {v : Name} → IsName v → OfDirTerm (held v)

-- lists go on with at most so many more elements
mutual
  pub data OfExpr : ℕ → ℕ → Guard → Type 0 where
    joined_by_or : {n left : ℕ} {g : Guard} {gs : Guards}
        → OfConj n left g
        → OfConjs n left most_further gs
        → OfExpr n left (any_of g gs)

  pub data OfConjs : ℕ → ℕ → ℕ → Guards → Type 0 where
    no_conj : {n left room : ℕ} → OfConjs n left room no_guards
    or_conj : {n left room : ℕ} {g : Guard} {gs : Guards}
        → OfConj n left g
        → OfConjs n left room gs
        → OfConjs n left (suc room) (guard_then g gs)

  pub data OfConj : ℕ → ℕ → Guard → Type 0 where
    joined_by_and : {n left : ℕ} {g : Guard} {gs : Guards}
        → OfUnit n left g
        → OfUnits n left most_further gs
        → OfConj n left (all_of g gs)

  pub data OfUnits : ℕ → ℕ → ℕ → Guards → Type 0 where
    no_unit : {n left room : ℕ} → OfUnits n left room no_guards
    and_unit : {n left room : ℕ} {g : Guard} {gs : Guards}
        → OfUnit n left g
        → OfUnits n left room gs
        → OfUnits n left (suc room) (guard_then g gs)

  pub data OfUnit : ℕ → ℕ → Guard → Type 0 where
    one_word : {n left : ℕ} (a : Atom) → OfUnit n left (atom a)
    not_unit : {n left : ℕ} {g : Guard} → OfUnit n left g → OfUnit (suc n) left (negation g)
    in_parens : {n left : ℕ} {g : Guard} → OfExpr n left g → OfUnit (suc n) left g
    some_or_each : {n left : ℕ} {v : Name} {g : Guard} (q : Quantifier) (s : PortSet)
        → IsName v
        → OfExpr n left g
        → OfUnit (suc n) (suc left) (quantified q v s g)
    asked : {n left : ℕ} {p : PortExpr} (t : PortTest) → OfPort n left p → OfUnit n left (tested t p)
    compared : {n left : ℕ} {a b : Sum} (c : Cmp) → OfSum n left a
        → OfSum n left b → OfUnit n left (comparison a c b)

  pub data OfSum : ℕ → ℕ → Sum → Type 0 where
    added : {n left : ℕ} {t : Term} {ts : Sum} (minus : Bool)
        → OfTerm n left t
        → OfTerms n left most_further ts
        → OfSum n left (term_then minus t ts)

  pub data OfTerms : ℕ → ℕ → ℕ → Sum → Type 0 where
    no_term : {n left room : ℕ} → OfTerms n left room no_terms
    and_term : {n left room : ℕ} {t : Term} {ts : Sum} (minus : Bool)
        → OfTerm n left t
        → OfTerms n left room ts
        → OfTerms n left (suc room) (term_then minus t ts)

  pub data OfTerm : ℕ → ℕ → Term → Type 0 where
    a_number : {n left : ℕ} {m : Literal} → IsNumberToken m → OfTerm n left (number m)
    own_name : {n left : ℕ} {v : Name} → IsName v → OfTerm n left (own v)
    port_name : {n left : ℕ} {p : PortExpr} {v : Name}
        → OfPort n left p → IsName v → OfTerm n left (of_port p v)
    counted : {n left : ℕ} {v : Name} {g : Guard} (s : PortSet)
        → IsName v
        → OfExpr n left g
        → OfTerm (suc n) (suc left) (count v s g)
    directed : {n left : ℕ} {p : PortExpr} (side : Side) → OfPort n left p → OfTerm n left (direction side p)
    own_direction : {n left : ℕ} → OfTerm n left inner
    modulo : {n left : ℕ} {s : Sum} → OfSum n left s → OfTerm (suc n) left (mod6 s)

  pub data OfPort : ℕ → ℕ → PortExpr → Type 0 where
    bound_name : {n left : ℕ} {v : Name} → IsName v → OfPort n left (bound v)
    end_and_dir : {n left : ℕ} {d : DirTerm} (e : End) → OfDirTerm d → OfPort n left (at_end e d)
    turned_by : {n left : ℕ} {p : PortExpr} {m : Literal}
        → OfPort n left p
        → IsNumberToken m
        → OfPort (suc n) left (turned p m)
    first_in : {n left : ℕ} {v : Name} {g : Guard} (s : PortSet)
        → IsName v
        → OfExpr n left g
        → OfPort (suc n) (suc left) (first v s g)

-- how many more names may be bound behind a statement of a list, and behind all of them
abbrev pub names_left_after : ℕ → Stmt → ℕ
names_left_after (suc left) (let_be v p) = left
names_left_after left _ = left

abbrev pub names_left_after_all : ℕ → Stmts → ℕ
names_left_after_all left no_stmts = left
names_left_after_all left (stmt_then s ss) = names_left_after_all (names_left_after left s) ss

mutual
  pub data OfStmt : ℕ → ℕ → Stmt → Type 0 where
    put_own : {n left : ℕ} {v : Name} {s : Sum} → IsName v → OfSum n left s → OfStmt n left (put v s)
    put_there : {n left : ℕ} {p : PortExpr} {v : Name} {s : Sum}
        → OfPort n left p
        → IsName v
        → OfSum n left s
        → OfStmt n left (put_of p v s)
    let_name : {n left : ℕ} {v : Name} {p : PortExpr} → IsName v
        → OfPort n (suc left) p → OfStmt n (suc left) (let_be v p)
    if_fi : {n left : ℕ} {g : Guard} {ss es : Stmts}
        → OfExpr n left g
        → OfStmts n left ss
        → OfOptional n left es
        → OfStmt (suc n) left (if_then g ss es)
    for_od : {n left : ℕ} {v : Name} {g : Guard} {ss : Stmts} (s : PortSet)
        → IsName v
        → OfExpr n left g
        → OfStmts (suc n) left ss
        → OfStmt (suc (suc n)) (suc left) (for_each v s g ss)

  pub data OfOptional : ℕ → ℕ → Stmts → Type 0 where
    left_out : {n left : ℕ} → OfOptional n left no_stmts
    given : {n left : ℕ} {ss : Stmts} → OfStmts n left ss → OfOptional n left ss

  pub data OfStmts : ℕ → ℕ → Stmts → Type 0 where
    one_and_more : {n left : ℕ} {s : Stmt} {ss : Stmts}
        → OfStmt n left s
        → OfMore n (names_left_after left s) most_further ss
        → OfStmts n left (stmt_then s ss)

  pub data OfMore : ℕ → ℕ → ℕ → Stmts → Type 0 where
    no_more : {n left room : ℕ} → OfMore n left room no_stmts
    and_more : {n left room : ℕ} {s : Stmt} {ss : Stmts}
        → OfStmt n left s
        → OfMore n (names_left_after left s) room ss
        → OfMore n left (suc room) (stmt_then s ss)

-- the statements of an action, which it may lack as an `if` may lack `else`
abbrev pub OfBody : ℕ → ℕ → Stmts → Type 0
OfBody = OfOptional

pub data OfMove : ℕ → ℕ → Move → Type 0 where
  nowhere : {n left : ℕ} → OfMove n left no_move
  moved_through : {n left : ℕ} {p : PortExpr} (m : PortMove) → OfPort n left p → OfMove n left (through m p)
  contracted : {n left : ℕ} (e : End) → OfMove n left (contract e)

pub record OfVar (v : Var) : Type 0 where
  pub name : IsName v.name
  pub max : IsNumberToken v.max

-- at the start no level is open, and no name is in force
pub record OfAction (a : Action) : Type 0 where
  pub name : IsName a.name
  pub guard : OfExpr most_levels most_names a.guard
  pub body : OfBody most_levels most_names a.body
  pub moved : OfMove most_levels (names_left_after_all most_names a.body) a.moved

pub data OfVars : ℕ → List Var → Type 0 where
  no_var : {room : ℕ} → OfVars room []
  and_var : {room : ℕ} {v : Var} {vs : List Var} → OfVar v → OfVars room vs → OfVars (suc room) (v ∷ vs)

pub data OfActions : ℕ → List Action → Type 0 where
  no_action : {room : ℕ} → OfActions room []
  and_action : {room : ℕ} {a : Action} {more : List Action}
      → OfAction a
      → OfActions room more
      → OfActions (suc room) (a ∷ more)

pub record OfProgram (p : Program) : Type 0 where
  pub vars : OfVars most_vars p.vars
  pub actions : OfActions most_actions p.actions
