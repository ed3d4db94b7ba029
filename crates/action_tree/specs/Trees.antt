-- The trees of the language.
-- Forms of one shape share a constructor, with a word that tells them apart.
use Rattle.std.specs.Prelude.{ℕ, Bool, List, [], ◌∷◌}
use Rattle.amoebot_state.specs.declared.bot.End.{End}
use Rattle.action_tree.specs.declared.expression.PortSet.{PortSet}
use Rattle.action_tree.specs.declared.expression.Cmp.{Cmp}

-- a name, and the line that it stands on
pub record Name : Type 0 where
  pub text : List ℕ
  pub line : ℕ

-- a number, and the line that it stands on
pub record Literal : Type 0 where
  pub value : ℕ
  pub line : ℕ

-- what is true or false without more: `true`, `false`, `contracted`, `expanded`
pub data Atom : Type 0 where
  always : Atom
  never : Atom
  contracted : Atom
  expanded : Atom

pub data Quantifier : Type 0 where
  any : Quantifier
  all : Quantifier

-- what is asked of one port
pub data PortTest : Type 0 where
  linked : PortTest
  free : PortTest
  at_head : PortTest
  peer_expanded : PortTest
  peer_head : PortTest

-- whose direction is meant at a port: the own, `dir`, or the neighbour's, `peer_dir`
pub data Side : Type 0 where
  own_side : Side
  peer_side : Side

-- a local direction: a number, or the value of an own variable
pub data DirTerm : Type 0 where
  fixed : Literal → DirTerm
  held : Name → DirTerm

mutual
  pub data Guard : Type 0 where
    atom : Atom → Guard
    negation : Guard → Guard
    conjunction : Guards → Guard
    disjunction : Guards → Guard
    quantified : Quantifier → Name → PortSet → Guard → Guard
    tested : PortTest → PortExpr → Guard
    comparison : Sum → Cmp → Sum → Guard

  -- a list of guards
  pub data Guards : Type 0 where
    no_guards : Guards
    guard_then : Guard → Guards → Guards

  -- a list of terms, each with a minus (true) or without
  pub data Sum : Type 0 where
    no_terms : Sum
    term_then : Bool → Term → Sum → Sum

  pub data Term : Type 0 where
    number : Literal → Term
    own : Name → Term
    of_port : PortExpr → Name → Term
    count : Name → PortSet → Guard → Term
    direction : Side → PortExpr → Term
    inner : Term
    mod6 : Sum → Term

  pub data PortExpr : Type 0 where
    bound : Name → PortExpr
    at_end : End → DirTerm → PortExpr
    turned : PortExpr → Literal → PortExpr
    first : Name → PortSet → Guard → PortExpr

mutual
  -- put: of an own variable; put_of: of a neighbour's; let_be: a name for a port
  pub data Stmt : Type 0 where
    put : Name → Sum → Stmt
    put_of : PortExpr → Name → Sum → Stmt
    let_be : Name → PortExpr → Stmt
    if_then : Guard → Stmts → Stmts → Stmt
    for_each : Name → PortSet → Guard → Stmts → Stmt

  -- a list of statements
  pub data Stmts : Type 0 where
    no_stmts : Stmts
    stmt_then : Stmt → Stmts → Stmts

-- a movement through a port
pub data PortMove : Type 0 where
  expand : PortMove
  push : PortMove
  pull : PortMove

pub data Move : Type 0 where
  no_move : Move
  through : PortMove → PortExpr → Move
  contract : End → Move

pub record Var : Type 0 where
  pub name : Name
  pub max : Literal

pub record Action : Type 0 where
  pub name : Name
  pub guard : Guard
  pub body : Stmts
  pub moved : Move

pub record Program : Type 0 where
  pub guard : Bool
  pub vars : List Var
  pub actions : List Action

-- a term of a sum, with a minus or without
pub record Part : Type 0 where
  pub minus : Bool
  pub term : Term

-- lists as trees
abbrev pub guards : List Guard → Guards
guards [] = no_guards
guards (g ∷ gs) = guard_then g (guards gs)

abbrev pub terms : List Part → Sum
terms [] = no_terms
terms (p ∷ ps) = term_then p.minus p.term (terms ps)

abbrev pub stmts : List Stmt → Stmts
stmts [] = no_stmts
stmts (s ∷ ss) = stmt_then s (stmts ss)
