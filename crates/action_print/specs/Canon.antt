-- The canonical text of a program: its lines, each a list of tokens. A token is its bytes.
use Rattle.std.specs.Prelude.{ℕ, Bool, true, false, List, [], ◌∷◌, ◌++◌, codes, decimal, map}
use Rattle.std.specs.List.{flat_map}
use Rattle.text_tokens.specs.Lines.{Words, section_text}
use Rattle.amoebot_state.specs.Ports.{end_word}
use Rattle.action_tree.specs.declared.expression.PortSet.{PortSet}
use Rattle.action_tree.specs.declared.expression.PortSet.TheVariants as set
use Rattle.action_tree.specs.declared.expression.Cmp.{Cmp}
use Rattle.action_tree.specs.declared.expression.Cmp.TheVariants.{Eq, Ne, Lt, Le, Gt, Ge}
use Rattle.action_tree.specs.Trees.{Literal, DirTerm, fixed, held, Atom, always, never, contracted, expanded, Quantifier, any, all, PortTest, linked, free, at_head, peer_expanded, peer_head, Side, own_side, peer_side, Guard, atom, negation, conjunction, disjunction, quantified, tested, comparison, Guards, no_guards, guard_then, Sum, no_terms, term_then, Term, number, own, of_port, count, direction, inner, mod6, PortExpr, bound, at_end, turned, first, Stmt, put, put_of, let_be, if_then, for_each, Stmts, no_stmts, stmt_then, PortMove, expand, push, pull, Move, no_move, through, contract, Var, Action, Program}
use Rattle.action_tree.specs.Writable.{is_conj, is_unit}

-- ---- single tokens

abbrev pub atom_word : Atom → List ℕ
atom_word always = codes "true"
atom_word never = codes "false"
atom_word contracted = codes "contracted"
atom_word expanded = codes "expanded"

abbrev pub quantifier_word : Quantifier → List ℕ
quantifier_word any = codes "any"
quantifier_word all = codes "all"

abbrev pub set_word : PortSet → List ℕ
set_word set.Ports = codes "ports"
set_word set.Free = codes "free"

abbrev pub test_word : PortTest → List ℕ
test_word linked = codes "linked"
test_word free = codes "free"
test_word at_head = codes "at_head"
test_word peer_expanded = codes "peer_expanded"
test_word peer_head = codes "peer_head"

abbrev pub cmp_sign : Cmp → List ℕ
cmp_sign Eq = codes "="
cmp_sign Ne = codes "!="
cmp_sign Lt = codes "<"
cmp_sign Le = codes "<="
cmp_sign Gt = codes ">"
cmp_sign Ge = codes ">="

abbrev pub side_word : Side → List ℕ
side_word own_side = codes "dir"
side_word peer_side = codes "peer_dir"

abbrev pub move_word : PortMove → List ℕ
move_word expand = codes "expand"
move_word push = codes "push"
move_word pull = codes "pull"

-- a number, without leading zeros
abbrev pub literal_word : Literal → List ℕ
literal_word n = decimal n.value

abbrev pub dirterm_word : DirTerm → List ℕ
dirterm_word (fixed n) = literal_word n
dirterm_word (held v) = v.text

-- ---- rows of tokens

-- the first, and each other one behind this token
abbrev pub joined : List ℕ → List Words → Words
joined between [] = []
joined between (ws ∷ more) = ws ++ flat_map (λ vs. between ∷ vs) more

abbrev pub in_parens : Words → Words
in_parens ws = codes "(" ∷ ws ++ codes ")" ∷ []

-- as it is, or in parentheses
abbrev pub parens_unless : Bool → Words → Words
parens_unless true ws = ws
parens_unless false ws = in_parens ws

-- NAME in SET ( EXPR )
abbrev pub selection_words : List ℕ → PortSet → Words → Words
selection_words name s ws = name ∷ codes "in" ∷ set_word s ∷ in_parens ws

-- the sign of the first term of a sum, and that of each further one
abbrev pub first_sign : Bool → Words
first_sign true = codes "-" ∷ []
first_sign false = []

abbrev pub further_sign : Bool → List ℕ
further_sign true = codes "-"
further_sign false = codes "+"

-- ---- guards, sums, terms and ports

-- An element of an `or` that is an `or`, an element of an `and` that is an `or` or an `and`,
-- and what a `not` negates where it is an `or` or an `and` stand in parentheses.
abbrev mutual
  pub guard_words : Guard → Words
  guard_words (atom a) = atom_word a ∷ []
  guard_words (negation g) = codes "not" ∷ parens_unless (is_unit g) (guard_words g)
  guard_words (conjunction gs) = joined (codes "and") (units gs)
  guard_words (disjunction gs) = joined (codes "or") (conjs gs)
  guard_words (quantified q v s g) = quantifier_word q ∷ selection_words v.text s (guard_words g)
  guard_words (tested t p) = test_word t ∷ port_words p
  guard_words (comparison a c b) = sum_words a ++ cmp_sign c ∷ sum_words b

  -- the elements of an `and`, and those of an `or`
  pub units : Guards → List Words
  units no_guards = []
  units (guard_then g gs) = parens_unless (is_unit g) (guard_words g) ∷ units gs

  pub conjs : Guards → List Words
  conjs no_guards = []
  conjs (guard_then g gs) = parens_unless (is_conj g) (guard_words g) ∷ conjs gs

  pub sum_words : Sum → Words
  sum_words no_terms = []
  sum_words (term_then minus t s) = first_sign minus ++ (term_words t ++ further_terms s)

  pub further_terms : Sum → Words
  further_terms no_terms = []
  further_terms (term_then minus t s) = further_sign minus ∷ term_words t ++ further_terms s

  pub term_words : Term → Words
  term_words (number n) = literal_word n ∷ []
  term_words (own v) = v.text ∷ []
  term_words (of_port p v) = port_words p ++ codes "." ∷ v.text ∷ []
  term_words (count v s g) = codes "count" ∷ selection_words v.text s (guard_words g)
  term_words (direction side p) = side_word side ∷ port_words p
  term_words inner = codes "inner" ∷ []
  term_words (mod6 s) = codes "mod6" ∷ in_parens (sum_words s)

  pub port_words : PortExpr → Words
  port_words (bound v) = v.text ∷ []
  port_words (at_end e d) = end_word e ∷ dirterm_word d ∷ []
  port_words (turned p n) = codes "turn" ∷ port_words p ++ literal_word n ∷ []
  port_words (first v s g) = codes "first" ∷ selection_words v.text s (guard_words g)

-- ---- statements and movements

-- An `if` without statements behind `else` has no `else`.
abbrev mutual
  pub stmt_words : Stmt → Words
  stmt_words (put v s) = v.text ∷ codes ":=" ∷ sum_words s
  stmt_words (put_of p v s) = port_words p ++ codes "." ∷ v.text ∷ codes ":=" ∷ sum_words s
  stmt_words (let_be v p) = codes "let" ∷ v.text ∷ codes ":=" ∷ port_words p
  stmt_words (if_then g ss es) =
      codes "if" ∷ guard_words g
      ++ (codes "then" ∷ joined (codes ";") (each_stmt ss) ++ (else_words es ++ codes "fi" ∷ []))
  stmt_words (for_each v s g ss) =
      codes "for" ∷ selection_words v.text s (guard_words g)
      ++ (codes "do" ∷ joined (codes ";") (each_stmt ss) ++ codes "od" ∷ [])

  pub each_stmt : Stmts → List Words
  each_stmt no_stmts = []
  each_stmt (stmt_then s ss) = stmt_words s ∷ each_stmt ss

  pub else_words : Stmts → Words
  else_words no_stmts = []
  else_words (stmt_then s ss) = codes "else" ∷ joined (codes ";") (stmt_words s ∷ each_stmt ss)

abbrev pub stmts_words : Stmts → Words
stmts_words ss = joined (codes ";") (each_stmt ss)

abbrev pub move_words : Move → Words
move_words no_move = codes "none" ∷ []
move_words (through m p) = move_word m ∷ port_words p
move_words (contract e) = codes "contract" ∷ end_word e ∷ []

-- ---- lines

abbrev pub guard_line : Bool → Words
guard_line true = codes "guard" ∷ codes "on" ∷ []
guard_line false = codes "guard" ∷ codes "off" ∷ []

abbrev pub var_line : Var → Words
var_line v = codes "var" ∷ v.name.text ∷ literal_word v.max ∷ []

-- an action without statements has no line `do`
abbrev pub do_lines : Stmts → List Words
do_lines no_stmts = []
do_lines (stmt_then s ss) = (codes "do" ∷ stmts_words (stmt_then s ss)) ∷ []

abbrev pub action_lines : Action → List Words
action_lines a =
    (codes "action" ∷ a.name.text ∷ []) ∷ (codes "when" ∷ guard_words a.guard) ∷ do_lines a.body
    ++ (codes "move" ∷ move_words a.moved) ∷ []

-- `program`, the guard of movements, the variables, the actions, and `end`
abbrev pub program_lines : Program → List Words
program_lines p = guard_line p.guard ∷ map var_line p.vars ++ flat_map action_lines p.actions

abbrev pub canon : Program → List ℕ
canon p = section_text (codes "program") (program_lines p)
